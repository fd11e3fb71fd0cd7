-- The values of checksums: any seed goes on, and each value fits 32 bits.
use Rattle.std.proofs.Common.{◌≡◌, ℕ, zero, suc, ◌+◌, ◌*◌, ◌/◌, ◌%◌, ◌^◌, ◌<◌, ◌==◌, Bool, true, false, not, List, ◌∷◌, ◌++◌, map, reverse, arith, refl, sym, ap, ap₂, ◌∙◌, mod-lt, subst}
use Rattle.std.proofs.Math.Numerals.{add-one}
use Rattle.std.proofs.lemmas.Nat.{mod-pow-add}
use Rattle.dsa_checksum.specs.declared.variant.Variant.{Variant}
use Rattle.dsa_checksum.specs.Checksum.{bits_of, bits_value, checksum, message_bits, remainder, value_bits}
use Rattle.dsa_checksum.proofs.Division.{division_is, fed, fed_fits}
use Rattle.dsa_checksum.proofs.Going.{goes_on, register_bits, register_fits, register_of, register_value}

-- the lowest k bits of a number are those of its remainder
bits_of_mod : (k n : ℕ) → bits_of k n ≡ bits_of k (n % 2 ^ k)
unfolding bits_of
bits_of_mod zero n = refl
bits_of_mod (suc k) n =
    let bound : n % 2 < 2 = mod-lt n (omega arith) in
    let parts : n % 2 ^ suc k ≡ n / 2 % 2 ^ k * 2 + n % 2 = ap (λ j. n % 2 ^ j) (sym (add-one k)) ∙ mod-pow-add n k 1 in
    let lowest : n % 2 ≡ n % 2 ^ suc k % 2 = omega (arith, parts, bound) in
    let others : n / 2 % 2 ^ k ≡ n % 2 ^ suc k / 2 = omega (arith, parts, bound) in
    ap₂ (λ b bs. (b == 1) ∷ bs) lowest (bits_of_mod k (n / 2) ∙ ap (bits_of k) others)

value_bits_mod : (x : Bool) (n : ℕ) → value_bits x n ≡ value_bits x (n % 2 ^ 32)
value_bits_mod true n = ap reverse (bits_of_mod 32 n)
value_bits_mod false n = ap (map not) (bits_of_mod 32 n)

-- of a seed only 32 bits count
seed_mod : (v : Variant) (seed : ℕ) (bytes : List ℕ) → checksum v seed bytes ≡ checksum v (seed % 2 ^ 32) bytes
seed_mod v seed bytes =
    ap (λ bits. bits_value v.bypasses_inversion (remainder bits (message_bits v.bypasses_data_reflection bytes)))
    (value_bits_mod v.bypasses_inversion seed)

-- so the checksum of two parts goes on from any seed
pub goes_on_from : (v : Variant) (seed : ℕ) (first second : List ℕ) →
    checksum v (checksum v seed first) second ≡ checksum v seed (first ++ second)
goes_on_from v seed first second =
    ap (λ value. checksum v value second) (seed_mod v seed first)
    ∙ goes_on v (seed % 2 ^ 32) first second (mod-lt seed (omega arith))
    ∙ sym (seed_mod v seed (first ++ second))

-- a checksum has 32 bits
pub checksum_fits : (v : Variant) (seed : ℕ) (bytes : List ℕ) → checksum v seed bytes < 2 ^ 32
checksum_fits v seed bytes =
    let x : Bool = v.bypasses_inversion in
    let message : List Bool = message_bits v.bypasses_data_reflection bytes in
    let lt : seed % 2 ^ 32 < 2 ^ 32 = mod-lt seed (omega arith) in
    let begun : ℕ = register_of x (seed % 2 ^ 32) in
    let fits : begun < 2 ^ 32 = register_fits x (seed % 2 ^ 32) lt in
    let left : ℕ = fed begun message in
    let left_fits : left < 2 ^ 32 = fed_fits begun message fits in
    let is : checksum v seed bytes ≡ register_of x left =
    seed_mod v seed bytes
    ∙ ap (λ bits. bits_value x (remainder bits message)) (sym (register_bits x (seed % 2 ^ 32) lt))
    ∙ ap (bits_value x) (division_is begun message fits)
    ∙ sym (register_value x left left_fits) in
    subst (λ n. n < 2 ^ 32) (sym is) (register_fits x left left_fits)
