-- Long division by a register: what is left of a message, bit by bit.
use Rattle.std.proofs.Common.{◌≡◌, ℕ, zero, suc, ◌*◌, ◌/◌, ◌%◌, ◌^◌, ◌<◌, ◌==◌, Bool, true, false, List, [], ◌∷◌, ◌++◌, length, replicate, arith, refl, sym, ap, ap₂, ◌∙◌, bit_xor, mod-lt}
use Rattle.std.proofs.lemmas.Nat.{div-add-mod', xor_comm, xor_lt, xor_shr, xor_mod}
use Rattle.std.proofs.Math.Nat.{pow-suc}
use lib.Bits.{xor_assoc, xor_zero_r, xor_shifted}
use Rattle.dsa_checksum.specs.Checksum.{bits_of, castagnoli, differ, divided, plus}
use Rattle.dsa_checksum.proofs.Steps.{divisor, stepped, steps, stepped_sum, stepped_double, stepped_fits}

-- a bit as a number
abbrev pub bit : Bool → ℕ
bit true = 1
bit false = 0

-- the register after one more bit
abbrev pub fed_bit : ℕ → Bool → ℕ
fed_bit r b = stepped (bit_xor r (bit b))

-- and after several
abbrev pub fed : ℕ → List Bool → ℕ
fed r [] = r
fed r (b ∷ bs) = fed (fed_bit r b) bs

pub fed_append : (r : ℕ) (xs ys : List Bool) → fed r (xs ++ ys) ≡ fed (fed r xs) ys
fed_append r [] ys = refl
fed_append r (x ∷ xs) ys = fed_append (fed_bit r x) xs ys

pub fed_fits : (r : ℕ) (bs : List Bool) → r < 2 ^ 32 → fed r bs < 2 ^ 32
fed_fits r [] fits = fits
fed_fits r (true ∷ bs) fits = fed_fits (fed_bit r true) bs (stepped_fits (bit_xor r 1) (xor_lt 32 r 1 fits (omega arith)))
fed_fits r (false ∷ bs) fits = fed_fits (fed_bit r false) bs (stepped_fits (bit_xor r 0) (xor_lt 32 r 0 fits (omega arith)))

-- ---- a register as coefficients

-- whether two numbers below 2 have a sum of 1
parity_of : (a b : ℕ) → a < 2 → b < 2 → (bit_xor a b == 1) ≡ differ (a == 1) (b == 1)
parity_of zero zero la lb = refl
parity_of zero (suc zero) la lb = refl
parity_of (suc zero) zero la lb = refl
parity_of (suc zero) (suc zero) la lb = refl
parity_of (suc (suc a)) b la lb = absurd (omega arith)
parity_of zero (suc (suc b)) la lb = absurd (omega arith)
parity_of (suc zero) (suc (suc b)) la lb = absurd (omega arith)

parity_sum : (a b : ℕ) → (bit_xor a b % 2 == 1) ≡ differ (a % 2 == 1) (b % 2 == 1)
parity_sum a b = ap (λ x. x == 1) (xor_mod a b 1) ∙ parity_of (a % 2) (b % 2) (mod-lt a (omega arith)) (mod-lt b (omega arith))

differ_assoc : (a b c : Bool) → differ (differ a b) c ≡ differ a (differ b c)
differ_assoc true true true = refl
differ_assoc true true false = refl
differ_assoc true false c = refl
differ_assoc false b c = refl

-- adding two numbers after each other is adding their sum
plus_sum : (k : ℕ) (xs : List Bool) (a b : ℕ) → plus (plus xs (bits_of k a)) (bits_of k b) ≡ plus xs (bits_of k (bit_xor a b))
unfolding bits_of
plus_sum zero [] a b = refl
plus_sum zero (x ∷ xs) a b = refl
plus_sum (suc k) [] a b = refl
plus_sum (suc k) (x ∷ xs) a b =
    ap₂ (λ y ys. y ∷ ys)
    (differ_assoc x (a % 2 == 1) (b % 2 == 1) ∙ ap (differ x) (sym (parity_sum a b)))
    (plus_sum k xs (a / 2) (b / 2) ∙ ap (λ n. plus xs (bits_of k n)) (sym (xor_shr a b 1)))

plus_none : (xs : List Bool) → plus xs [] ≡ xs
plus_none [] = refl
plus_none (x ∷ xs) = refl

-- a bit that is 0 above all others adds nothing
plus_above : (k : ℕ) (xs : List Bool) (n : ℕ) → n < 2 ^ k → plus xs (bits_of (suc k) n) ≡ plus xs (bits_of k n)
unfolding bits_of
plus_above zero [] n lt = refl
plus_above zero (true ∷ xs) zero lt = ap (λ ys. true ∷ ys) (plus_none xs)
plus_above zero (false ∷ xs) zero lt = ap (λ ys. false ∷ ys) (plus_none xs)
plus_above zero (x ∷ xs) (suc n) lt = absurd (omega arith)
plus_above (suc k) [] n lt = refl
plus_above (suc k) (x ∷ xs) n lt = ap (λ ys. differ x (n % 2 == 1) ∷ ys) (plus_above k xs (n / 2) (omega arith))

-- to zeros a register adds itself
plus_zeros : (k n : ℕ) → plus (replicate k false) (bits_of k n) ≡ bits_of k n
unfolding bits_of
plus_zeros zero n = refl
plus_zeros (suc k) n = ap (λ ys. (n % 2 == 1) ∷ ys) (plus_zeros k (n / 2))

-- ---- the division

flipped : (a : ℕ) → a < 2 → bit_xor a 1 ≡ bit (differ true (a == 1))
flipped zero lt = refl
flipped (suc zero) lt = refl
flipped (suc (suc a)) lt = absurd (omega arith)

kept : (a : ℕ) → a < 2 → a ≡ bit (differ false (a == 1))
kept zero lt = refl
kept (suc zero) lt = refl
kept (suc (suc a)) lt = absurd (omega arith)

-- the register after one bit, by the coefficient of the highest power
next_of : (r : ℕ) (b : Bool) → fed_bit r b ≡ bit_xor (r / 2) (bit (differ b (r % 2 == 1)) * divisor)
next_of r true =
    let even : 1 / 2 ≡ 0 = refl in
    ap₂ bit_xor (xor_shr r 1 1 ∙ xor_zero_r (r / 2)) (ap (λ x. x * divisor) (xor_mod r 1 1 ∙ flipped (r % 2) (mod-lt r (omega arith))))
next_of r false =
    ap (λ x. stepped x) (xor_zero_r r) ∙ ap (λ x. bit_xor (r / 2) (x * divisor)) (kept (r % 2) (mod-lt r (omega arith)))

-- what is divided, once a register is added to it, is the register after the bits
pub division_is : (r : ℕ) (bs : List Bool) → r < 2 ^ 32 → divided (length bs) (plus (bs ++ replicate 32 false) (bits_of 32 r)) ≡ bits_of 32 (fed r bs)
unfolding bits_of
division_is r [] fits = plus_zeros 32 r
division_is r (b ∷ bs) fits =
    ap (λ x. divided (suc (length bs)) (x ∷ plus (bs ++ replicate 32 false) (bits_of 31 (r / 2)))) refl
    ∙ taken (differ b (r % 2 == 1)) (bs ++ replicate 32 false)
    ∙ ap (λ x. divided (length bs) (plus (bs ++ replicate 32 false) (bits_of 32 x))) (sym (next_of r b))
    ∙ division_is (fed_bit r b) bs (fed_fits r (b ∷ []) fits)
  where
    taken : (x : Bool) (xs : List Bool) → divided (suc (length bs)) (x ∷ plus xs (bits_of 31 (r / 2))) ≡ divided (length bs) (plus xs (bits_of 32 (bit_xor (r / 2) (bit x * divisor))))
    taken true xs =
        ap (λ ys. divided (length bs) (plus ys castagnoli)) (sym (plus_above 31 xs (r / 2) (omega arith)))
        ∙ ap (divided (length bs)) (plus_sum 32 xs (r / 2) divisor)
    taken false xs =
        ap (divided (length bs)) (sym (plus_above 31 xs (r / 2) (omega arith)))
        ∙ ap (λ n. divided (length bs) (plus xs (bits_of 32 n))) (sym (xor_zero_r (r / 2)))

-- ---- bytes

-- the lowest bit and the others of a number
parted : (x : ℕ) → x ≡ bit_xor (x % 2) (x / 2 * 2)
parted x =
    sym (xor_comm (x % 2) (x / 2 * 2) ∙ xor_shifted (x / 2) 1 (x % 2) (mod-lt x (omega arith)) ∙ div-add-mod' x 2)

-- the register after the bits of a number is that after as many steps of their sum
pub fed_number : (k x r : ℕ) → x < 2 ^ k → fed r (bits_of k x) ≡ steps k (bit_xor r x)
unfolding bits_of
fed_number zero zero r lt = sym (xor_zero_r r)
fed_number zero (suc x) r lt = absurd (omega arith)
fed_number (suc k) x r lt =
    let lowest : bit (x % 2 == 1) ≡ x % 2 = sym (kept (x % 2) (mod-lt x (omega arith))) in
    let halved : x / 2 < 2 ^ k = omega (arith, pow-suc 2 k) in
    let inner : fed_bit r (x % 2 == 1) ≡ stepped (bit_xor r (x % 2)) = ap (λ b. stepped (bit_xor r b)) lowest in
    let sum : bit_xor (bit_xor r (x % 2)) (x / 2 * 2) ≡ bit_xor r x = xor_assoc r (x % 2) (x / 2 * 2) ∙ ap (bit_xor r) (sym (parted x)) in
    ap (λ s. fed s (bits_of k (x / 2))) inner
    ∙ fed_number k (x / 2) (stepped (bit_xor r (x % 2))) halved
    ∙ ap (λ y. steps k (bit_xor (stepped (bit_xor r (x % 2))) y)) (sym (stepped_double (x / 2)))
    ∙ ap (steps k) (sym (stepped_sum (bit_xor r (x % 2)) (x / 2 * 2)))
    ∙ ap (λ y. steps k (stepped y)) sum

-- the bits of a number are as many as asked
pub count_of_bits : (k n : ℕ) → length (bits_of k n) ≡ k
unfolding bits_of
count_of_bits zero n = refl
count_of_bits (suc k) n = ap suc (count_of_bits k (n / 2))
