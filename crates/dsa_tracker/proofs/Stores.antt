-- One store of many.
use Rattle.std.proofs.Common.{◌≡◌, ◌≢◌, ℕ, ◌+◌, ◌-◌, ◌*◌, ◌≤◌, inl, inr, List, length, take, drop, sym, ap, ◌∙◌, arith}
use Rattle.std.proofs.Math.Nat.{mul-le-mul_right}
use Rattle.std.proofs.lemmas.Bool.{cases_lt}
use Rattle.std.proofs.lemmas.Slice.{between_is, take-put_mid_below, drop-put_mid}
use borrow.Rule.Slice.PartMut.{put_mid}
use Rattle.dsa_tracker.specs.Kept.{store_at}

-- what was written into the store of one place leaves the others
pub other_store :
    (width place : ℕ) (stores new : List ℕ) → (place + 1) * width ≤ length stores → length new ≡ (place + 1) * width - place * width → (other : ℕ) → other ≢ place →
    store_at width (put_mid (place * width) ((place + 1) * width - place * width) stores new) other ≡ store_at width stores other
other_store width place stores new within len other apart =
    let one : (place + 1) * width ≡ place * width + width = omega arith in
    elim (cases_lt other place) [
      | inl before ↦
          let le : (other + 1) * width ≤ place * width = mul-le-mul_right width (omega (arith, before)) in
          between_is (put_mid (place * width) ((place + 1) * width - place * width) stores new) (other * width) ((other + 1) * width)
          ∙ ap (λ xs. drop (other * width) xs) (take-put_mid_below (place * width) ((place + 1) * width - place * width) stores new ((other + 1) * width) le (omega (arith, within, one)))
          ∙ sym (between_is stores (other * width) ((other + 1) * width))
      | inr after ↦
          let le : (place + 1) * width ≤ other * width = mul-le-mul_right width (omega (arith, after, apart)) in
          ap (λ xs. take ((other + 1) * width - other * width) xs)
          (drop-put_mid (place * width) ((place + 1) * width - place * width) stores new (other * width) (omega (arith, le, one)) (omega (arith, within, one)) len)
    ]
