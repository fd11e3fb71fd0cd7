use Rattle.std.proofs.Common.{◌≡◌, ℕ, ◌+◌, ◌⊎◌, inl, inr, min, max, List, length, map, subst, arith}
use Rattle.std.specs.Prelude.{Some, slice_get}
use Rattle.std.proofs.lemmas.Bool.{cases_lt, leb-true}
use Rattle.std.proofs.lemmas.List.{length-map}
use Rattle.dsa_descriptor.specs.Descriptors.{fields}
use Rattle.dsa_descriptor.specs.Fields.{Fields}
use Rattle.dsa_ranges.proofs.Places.{fields_at}
use Rattle.dsa_conflicts.proofs.Bits.{AreApart, apart_none_conflict}
use Rattle.dsa_conflicts.proofs.Risen.{rising_more}
use Rattle.dsa_conflicts.proofs.rising.are_rising.Goals as goal
use Rattle.dsa_conflicts.proofs.rising.are_rising.Goals.{then-first-high, else-first-high+else-first-middle+else-first_end-bound+else-second-high}

pub loop-d-preserved : goal.loop-d-preserved
loop-d-preserved c =
    let fs = map fields c.args.pieces.now in
    let d = c.d-item.result in
    let n = c.loop-d.d-index in
    let at : slice_get fs n ≡ Some (fields d) = fields_at c.args.pieces.now n d (omega (arith, c.loop-d-test.true)) c.d-item.is in
    let first = c.min-first.result in
    let second = c.max-second.result in
    let first_end = first + d.size in
    rising_more fs n (fields d) at first second first_end c.in-Some-checked_add.second_end
    (omega (arith, c.min-first.ensures, c.max-second.ensures))
    (omega (arith, c.in-Some-checked_add.ensures))
    (omega (arith, c.min-first.ensures, c.max-second.ensures, c.in-Some-checked_add.ensures, c.from.ensures))
    (omega arith)
    (λ x h. elim (c.in-Some.ensures d.size x h) [
      | inl w ↦ elim (one_of c.in-Some.p c.in-Some.q first second c.min-first.ensures c.max-second.ensures) [
        | inl same ↦ inl (omega (arith, w.0, same.0), omega (arith, w.1, same.0))
        | inr turned ↦ inr (omega (arith, w.0, turned.1), omega (arith, w.1, turned.1, c.in-Some-checked_add.ensures, c.from.ensures))
      ]
      | inr w ↦ elim (one_of c.in-Some.p c.in-Some.q first second c.min-first.ensures c.max-second.ensures) [
        | inl same ↦ inr (omega (arith, w.0, same.1), omega (arith, w.1, same.1, c.in-Some-checked_add.ensures, c.from.ensures))
        | inr turned ↦ inl (omega (arith, w.0, turned.0), omega (arith, w.1, turned.0))
      ]
    ])
    c.loop-d.low c.loop-d.middle c.loop-d.bound c.loop-d.high c.loop-d.from c.loop-d.to
    c.min-low.result c.min-middle.result c.if-first-high.bound c.min-from.result c.in-Some-checked_add-2.record_end
    (omega (arith, c.min-middle.ensures, c.from-in-loop-d.ensures))
    (omega (arith, c.min-low.ensures)) (omega (arith, c.min-low.ensures)) (omega (arith, c.min-from.ensures)) (omega (arith, c.min-from.ensures))
    (omega (arith, c.if-d-to.false)) (omega (arith, c.in-Some-checked_add-2.ensures))
    c.loop-d.invariant
    (elim c.if-first-high.branch [
      | then-first-high w ↦ inl (omega (arith, w.if-first-high), omega (arith, w.bound-is))
      | else-first-high+else-first-middle+else-first_end-bound+else-second-high w ↦
          inr (omega (arith, w.if-first-middle), omega (arith, w.if-first_end-bound, c.from-in-loop-d.ensures), omega (arith, w.if-second-high), omega (arith, w.bound-is))
    ])
  where
    one_of : (p q first second : ℕ) → first ≡ min p q → second ≡ max p q → ((first ≡ p) × (second ≡ q)) ⊎ ((first ≡ q) × (second ≡ p))
    one_of p q first second least most =
        elim (cases_lt p q) [
          | inl less ↦ inl (omega (arith, least, less), omega (arith, most, less))
          | inr more ↦ inr (omega (arith, least, more), omega (arith, most, more))
        ]

apart_to : (fs : List Fields) (low high from to n : ℕ) → n ≡ length fs → AreApart fs low high from to n → AreApart fs low high from to (length fs)
apart_to fs low high from to n e h = subst (λ (k : ℕ). AreApart fs low high from to k) e h

pub returns-then-to-low : goal.returns-then-to-low
returns-then-to-low c = λ t.
    let fs = map fields c.args.pieces.now in
    let e : c.loop-d.d-index ≡ length fs = omega (arith, length-map c.args.pieces.now fields, c.loop-d-test.false, c.loop-d.auto.d-index-end) in
    apart_none_conflict fs c.loop-d.low c.loop-d.high c.loop-d.from c.loop-d.to
    (apart_to fs c.loop-d.low c.loop-d.high c.loop-d.from c.loop-d.to c.loop-d.d-index e c.loop-d.invariant.apart) (inl (leb-true _ _ t))

pub returns-else-to-low : goal.returns-else-to-low
returns-else-to-low c = λ t.
    let fs = map fields c.args.pieces.now in
    let e : c.loop-d.d-index ≡ length fs = omega (arith, length-map c.args.pieces.now fields, c.loop-d-test.false, c.loop-d.auto.d-index-end) in
    apart_none_conflict fs c.loop-d.low c.loop-d.high c.loop-d.from c.loop-d.to
    (apart_to fs c.loop-d.low c.loop-d.high c.loop-d.from c.loop-d.to c.loop-d.d-index e c.loop-d.invariant.apart) (inr (leb-true _ _ t))
