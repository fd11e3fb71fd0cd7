-- Bits of numbers, inverted and turned round.
use Rattle.std.proofs.Common.{◌≡◌, ℕ, zero, suc, ◌+◌, ◌-◌, ◌*◌, ◌/◌, ◌%◌, ◌^◌, ◌<◌, ◌==◌, not, if◌then◌else◌, [], ◌∷◌, ◌++◌, map, reverse, arith, refl, sym, ap, ap₂, ◌∙◌, mod-lt, zero-add, subst}
use Rattle.std.proofs.lemmas.List.{append_assoc, append-nil}
use Rattle.std.proofs.lemmas.Grind.{reverse_onto}
use Rattle.std.proofs.Math.Nat.{pow-suc}
use Rattle.std.specs.Int.{reverse_bits, reverse_bits_onto}
use Rattle.std.proofs.Common.{w8, w32}
use Rattle.dsa_checksum.specs.Checksum.{bits_of, number_of}

-- the number of a number's bits is the number
pub number_of_bits : (k n : ℕ) → n < 2 ^ k → number_of (bits_of k n) ≡ n
unfolding bits_of
number_of_bits zero n lt = omega arith
number_of_bits (suc k) n lt =
    let rest : number_of (bits_of k (n / 2)) ≡ n / 2 = number_of_bits k (n / 2) (omega (arith, pow-suc 2 k)) in
    ap₂ (λ x y. x + 2 * y) (lowest (n % 2) (mod-lt n (omega arith))) rest ∙ omega arith
  where
    lowest : (a : ℕ) → a < 2 → (if a == 1 then 1 else 0) ≡ a
    lowest zero lt = refl
    lowest (suc zero) lt = refl
    lowest (suc (suc a)) lt = absurd (omega arith)

-- the bits of 2 ^ k - 1 - n are those of n, inverted
pub bits_of_not : (k n : ℕ) → n < 2 ^ k → bits_of k (2 ^ k - 1 - n) ≡ map not (bits_of k n)
unfolding bits_of
bits_of_not zero n lt = refl
bits_of_not (suc k) n lt =
    let two : 2 ^ suc k ≡ 2 ^ k * 2 = pow-suc 2 k in
    let lowest : (2 ^ suc k - 1 - n) % 2 ≡ 1 - n % 2 = omega (arith, two) in
    let others : (2 ^ suc k - 1 - n) / 2 ≡ 2 ^ k - 1 - n / 2 = omega (arith, two) in
    ap₂ (λ b bs. b ∷ bs)
    (ap (λ x. x == 1) lowest ∙ flipped (n % 2) (mod-lt n (omega arith)))
    (ap (bits_of k) others ∙ bits_of_not k (n / 2) (omega (arith, two)))
  where
    flipped : (a : ℕ) → a < 2 → (1 - a == 1) ≡ not (a == 1)
    flipped zero lt = refl
    flipped (suc zero) lt = refl
    flipped (suc (suc a)) lt = absurd (omega arith)

-- the lowest k bits of n, last first, come after j bits of a
pub bits_of_reversed : (k j n a m : ℕ) → m ≡ k + j → bits_of m (reverse_bits_onto k n a) ≡ reverse (bits_of k n) ++ bits_of j a
unfolding reverse_bits_onto bits_of
bits_of_reversed zero j n a m e = ap (λ i. bits_of i a) (e ∙ zero-add j)
bits_of_reversed (suc k) j n a m e =
    let lowest : (a * 2 + n % 2) % 2 ≡ n % 2 = omega arith in
    let others : (a * 2 + n % 2) / 2 ≡ a = omega arith in
    bits_of_reversed k (suc j) (n / 2) (a * 2 + n % 2) m (e ∙ omega arith)
    ∙ ap (λ bs. reverse (bits_of k (n / 2)) ++ bs) (ap₂ (λ x y. (x == 1) ∷ bits_of j y) lowest others)
    ∙ sym
    (ap (λ bs. bs ++ bits_of j a) (reverse_onto (bits_of k (n / 2)) (n % 2 == 1) [])
    ∙ append_assoc (reverse (bits_of k (n / 2))) ((n % 2 == 1) ∷ []) (bits_of j a))

-- the bits in reverse are those of the number that is turned round
pub reversed_32 : (n : ℕ) → bits_of 32 (reverse_bits w32 n) ≡ reverse (bits_of 32 n)
unfolding bits_of
reversed_32 n = bits_of_reversed 32 0 n 0 32 refl ∙ append-nil (reverse (bits_of 32 n))

pub reversed_8 : (n : ℕ) → bits_of 8 (reverse_bits w8 n) ≡ reverse (bits_of 8 n)
unfolding bits_of
reversed_8 n = bits_of_reversed 8 0 n 0 8 refl ∙ append-nil (reverse (bits_of 8 n))

-- and it has as many
onto_lt : (k j n a m : ℕ) → m ≡ k + j → a < 2 ^ j → reverse_bits_onto k n a < 2 ^ m
unfolding reverse_bits_onto
onto_lt zero j n a m e lt = subst (λ i. a < 2 ^ i) (sym (e ∙ zero-add j)) lt
onto_lt (suc k) j n a m e lt =
    let bit : n % 2 < 2 = mod-lt n (omega arith) in
    onto_lt k (suc j) (n / 2) (a * 2 + n % 2) m (e ∙ omega arith) (omega (arith, pow-suc 2 j))

pub reversed_lt : (n : ℕ) → reverse_bits w32 n < 2 ^ 32
reversed_lt n = onto_lt 32 0 n 0 32 refl (omega arith)
