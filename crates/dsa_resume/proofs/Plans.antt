-- What a legal plan says of the pieces of a list whose submission stopped.
use Rattle.std.proofs.Common.{◌≡◌, ◌<◌, ℕ, Bool, true, List, length, refl, arith}
use Rattle.std.proofs.lemmas.Option.{slice_get_within}
use Rattle.dsa_descriptor.specs.declared.span.Span.{Span}
use Rattle.dsa_ranges.specs.Pieces.{ConflictAsTouched}
use Rattle.dsa_settings.specs.Epochs.{epoch_of}
use Rattle.dsa_settings.specs.Legal.{IsLegal}
use Rattle.dsa_settings.specs.Plan.{Plan}
use Rattle.dsa_settings.proofs.Barriers.{barriers_part, legal_is_kept}
use Rattle.dsa_settings.proofs.Epochs.{legal_parts}
use Rattle.dsa_resume.specs.declared.status.Ended.{Ended}
use Rattle.dsa_resume.specs.declared.status.Ended.TheVariants.{Waiting, Finished, Unexpected, Failed, GivenUp}
use Rattle.dsa_resume.specs.Ended.{has_finished, is_left, has_failed, is_open, is_waiting, has_begun}
use Rattle.dsa_resume.specs.Laws.{BarriersHold, LegalPlansResume, MayComeFirst, StopsAtAnEpoch}

finished_begun : (e : Ended) → has_finished e ≡ true → has_begun e ≡ true
finished_begun Waiting h = h
finished_begun Finished h = refl
finished_begun Unexpected h = refl
finished_begun Failed h = refl
finished_begun GivenUp h = refl

failed_begun : (e : Ended) → has_failed e ≡ true → has_begun e ≡ true
failed_begun Waiting h = h
failed_begun Finished h = refl
failed_begun Unexpected h = refl
failed_begun Failed h = refl
failed_begun GivenUp h = refl

waiting_left : (e : Ended) → is_waiting e ≡ true → is_left e ≡ true
waiting_left Waiting h = refl
waiting_left Finished h = h
waiting_left Unexpected h = h
waiting_left Failed h = refl
waiting_left GivenUp h = h

-- pieces that have begun may come before those that are left
may_come : {P : Type 0} (conflict : List P → ℕ → ℕ → Type 0) (first second : Ended → Bool) → ((e : Ended) → first e ≡ true → has_begun e ≡ true) → ((e : Ended) → second e ≡ true → is_left e ≡ true)
    → (greatest_batch : ℕ) (ps : List P) (plan : Plan) (ends : List Ended) → ((i j : ℕ) → conflict ps i j → j < length ps) → IsLegal (conflict ps) greatest_batch (length ps) plan
    → StopsAtAnEpoch is_left plan ends → MayComeFirst first second (conflict ps) ends
may_come conflict first second begun left greatest_batch ps plan ends inside legal stops i j less (r, at, is) (q, at_later, was) meets =
    let same : epoch_of plan i ≡ epoch_of plan j = stops i j less (r, at, left _ is) (q, at_later, begun _ was) in
    let apart : epoch_of plan i < epoch_of plan j = legal_parts (conflict ps) greatest_batch (length ps) plan i j legal less (inside i j meets) meets in
    omega (arith, same, apart)

module _ {P : Type 0} (reads writes : P → List Span) (conflict : List P → ℕ → ℕ → Type 0) (touched : ConflictAsTouched reads writes conflict) where
  within : (ps : List P) (i j : ℕ) → conflict ps i j → j < length ps
  within ps i j meets = let (p, q, at_i, at_j, spans) = (touched ps i j).0 meets in slice_get_within ps j q at_j

  pub plans_resume : LegalPlansResume conflict
  plans_resume greatest_batch ps plan ends legal stops = (
    may_come conflict has_finished is_left finished_begun (λ e h. h) greatest_batch ps plan ends (within ps) legal stops,
    may_come conflict has_failed is_waiting failed_begun waiting_left greatest_batch ps plan ends (within ps) legal stops,
  )

left_open : (e : Ended) → is_left e ≡ true → is_open e ≡ true
left_open Waiting h = refl
left_open Finished h = h
left_open Unexpected h = refl
left_open Failed h = refl
left_open GivenUp h = refl

module _ {P : Type 0} (reads writes : P → List Span) (conflict : List P → ℕ → ℕ → Type 0) (touched : ConflictAsTouched reads writes conflict) where
  pub barriers_hold : BarriersHold conflict
  barriers_hold greatest_batch ps barriers plan ends legal count stops =
      let plain : IsLegal (conflict ps) greatest_batch (length ps) plan = ((legal_is_kept (conflict ps) barriers greatest_batch (length ps) plan).0 legal).0 in
      let left_stops : StopsAtAnEpoch is_left plan ends = λ i j less (e, at, is) begun. stops i j less (e, at, left_open e is) begun in (
        λ i j (k, holds, from, (e, at, begun)).
            let before : i < j = omega (arith, holds.before, from) in
            let inside : j < length ps = omega (arith, slice_get_within ends j e at, count) in
            let same : epoch_of plan i ≡ epoch_of plan j = stops i j before holds.is_open (e, at, begun) in
            let apart : epoch_of plan i < epoch_of plan j = barriers_part (conflict ps) barriers greatest_batch (length ps) plan k i j legal holds.barrier holds.before from inside in
            omega (arith, same, apart),
        plans_resume reads writes conflict touched greatest_batch ps plan ends plain left_stops,
      )
