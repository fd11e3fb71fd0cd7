-- What happens to a register in one step of the division, and in several: the highest power goes, and if it is there the
-- divisor is taken away.
use Rattle.std.proofs.Common.{◌≡◌, ℕ, zero, suc, ◌+◌, ◌*◌, ◌/◌, ◌%◌, ◌^◌, ◌<◌, arith, refl, sym, ap, ap₂, ◌∙◌, bit_xor, mod-lt}
use Rattle.std.proofs.lemmas.Nat.{xor_comm, xor_lt, xor_shr, xor_mod, pow_pos}
use Rattle.std.proofs.Math.Nat.{mul_assoc}
use native.Mathlib.Numerals.{unary_clauses}
use lib.Bits.{xor_assoc, xor_zero_r, xor_shifted}

-- the divisor, of which the lowest bit is the coefficient of the power 31
abbrev pub divisor : ℕ
divisor = 0x82f63b78

-- one step
abbrev pub stepped : ℕ → ℕ
stepped r = bit_xor (r / 2) (r % 2 * divisor)

-- k steps
abbrev pub steps : ℕ → ℕ → ℕ
steps zero r = r
steps (suc k) r = steps k (stepped r)

-- four numbers may be added in another order
pub xor_four : (a b c d : ℕ) → bit_xor (bit_xor a b) (bit_xor c d) ≡ bit_xor (bit_xor a c) (bit_xor b d)
xor_four a b c d =
    xor_assoc a b (bit_xor c d)
    ∙ ap (bit_xor a) (sym (xor_assoc b c d) ∙ ap (λ x. bit_xor x d) (xor_comm b c) ∙ xor_assoc c b d)
    ∙ sym (xor_assoc a c (bit_xor b d))

-- the divisor is taken away once for each of two numbers, or not at all
bit_times : (a b : ℕ) → a < 2 → b < 2 → bit_xor a b * divisor ≡ bit_xor (a * divisor) (b * divisor)
bit_times zero b la lb = refl
bit_times (suc zero) zero la lb = refl
bit_times (suc zero) (suc zero) la lb = refl
bit_times (suc zero) (suc (suc b)) la lb = absurd (omega arith)
bit_times (suc (suc a)) b la lb = absurd (omega arith)

-- a step of a sum is the sum of the steps
pub stepped_sum : (a b : ℕ) → stepped (bit_xor a b) ≡ bit_xor (stepped a) (stepped b)
stepped_sum a b =
    ap₂ bit_xor (xor_shr a b 1)
    (ap (λ x. x * divisor) (xor_mod a b 1) ∙ bit_times (a % 2) (b % 2) (mod-lt a (omega arith)) (mod-lt b (omega arith)))
    ∙ xor_four (a / 2) (b / 2) (a % 2 * divisor) (b % 2 * divisor)

pub steps_sum : (k a b : ℕ) → steps k (bit_xor a b) ≡ bit_xor (steps k a) (steps k b)
steps_sum zero a b = refl
steps_sum (suc k) a b = ap (steps k) (stepped_sum a b) ∙ steps_sum k (stepped a) (stepped b)

-- where the highest power is not there, the register is shifted
pub stepped_double : (n : ℕ) → stepped (n * 2) ≡ n
stepped_double n =
    let half : n * 2 / 2 ≡ n = omega arith in
    let even : n * 2 % 2 ≡ 0 = omega arith in
    ap₂ (λ q r. bit_xor q (r * divisor)) half even ∙ xor_zero_r n

pub steps_shifted : (k n : ℕ) → steps k (n * 2 ^ k) ≡ n
steps_shifted zero n = omega arith
steps_shifted (suc k) n =
    let twice : n * 2 ^ suc k ≡ n * 2 ^ k * 2 = simp unary_clauses (sym (mul_assoc n (2 ^ k) 2)) in
    ap (λ x. steps k (stepped x)) twice ∙ ap (steps k) (stepped_double (n * 2 ^ k)) ∙ steps_shifted k n

-- k steps are those of the lowest k bits, to which the others are added where they come to be
pub steps_split : (k n : ℕ) → steps k n ≡ bit_xor (steps k (n % 2 ^ k)) (n / 2 ^ k)
steps_split k n =
    let parts : n ≡ n / 2 ^ k * 2 ^ k + n % 2 ^ k = omega (arith, pow_pos k) in
    ap (steps k) parts
    ∙ ap (steps k) (sym (xor_shifted (n / 2 ^ k) k (n % 2 ^ k) (mod-lt n (pow_pos k))))
    ∙ steps_sum k (n / 2 ^ k * 2 ^ k) (n % 2 ^ k)
    ∙ ap (λ x. bit_xor x (steps k (n % 2 ^ k))) (steps_shifted k (n / 2 ^ k))
    ∙ xor_comm (n / 2 ^ k) (steps k (n % 2 ^ k))

-- a register of 32 bits stays one
pub stepped_fits : (r : ℕ) → r < 2 ^ 32 → stepped r < 2 ^ 32
stepped_fits r fits =
    let one : r % 2 < 2 = mod-lt r (omega arith) in
    xor_lt 32 (r / 2) (r % 2 * divisor) (omega arith) (omega arith)
