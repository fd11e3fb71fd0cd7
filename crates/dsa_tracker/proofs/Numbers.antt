-- Numbers of rows and units.
use Rattle.std.proofs.Common.{◌≡◌, ℕ, ◌+◌, ◌-◌, ◌*◌, ◌/◌, ◌^◌, ◌<◌, ◌≤◌, sym, ap, ◌∙◌, subst, arith}
use Rattle.std.proofs.Math.Nat.{mul-le-mul_left}
use Rattle.std.proofs.Math.Pow.{pow_pos, pow_mono}
use Rattle.std.proofs.lemmas.Nat.{pow-add, div_below, div-add-mod'}

pub row_below : (n r : ℕ) → r ≤ 64 → n < 18446744073709551616 → n / 2 ^ (64 - r) < 2 ^ r
row_below n r le small =
    let parts : 2 ^ (r + (64 - r)) ≡ 2 ^ r * 2 ^ (64 - r) = pow-add 2 r (64 - r) in
    let whole : r + (64 - r) ≡ 64 = omega (arith, le) in
    let all : 2 ^ 64 ≡ 2 ^ r * 2 ^ (64 - r) = ap (λ (k : ℕ). 2 ^ k) (sym whole) ∙ parts in
    let low : n < 2 ^ r * 2 ^ (64 - r) = subst (λ (x : ℕ). n < x) all small in
    div_below n (2 ^ (64 - r)) (2 ^ r) (pow_pos (64 - r)) low

pub units_fit : (n k : ℕ) → 1 ≤ k → n < 18446744073709551616 → n / 2 ^ k + 1 < 18446744073709551616
units_fit n k some small =
    let two : 2 ^ 1 ≤ 2 ^ k = pow_mono some in
    let parts = div-add-mod' n (2 ^ k) in
    let half : n / 2 ^ k * 2 ≤ n / 2 ^ k * 2 ^ k = mul-le-mul_left (n / 2 ^ k) two in
    omega (arith, small, parts, half)
