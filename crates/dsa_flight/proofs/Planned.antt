-- Planned lists in flight.
use Rattle.std.proofs.Common.{◌≡◌, ℕ, zero, suc, inl, inr, Bool, true, false, List, [], ◌∷◌, ◌<◌, length, take, map, refl, sym, ap, ◌∙◌, subst, arith}
use Rattle.std.proofs.Math.Seq.{take-length}
use Rattle.std.proofs.lemmas.Option.{same_Some}
use Rattle.dsa_descriptor.specs.Descriptors.{fields}
use Rattle.dsa_descriptor.specs.Fields.{Fields}
use Rattle.dsa_image.specs.declared.partial.Partial.{Partial}
use Rattle.dsa_image.specs.Memory.{Memory}
use Rattle.dsa_image.specs.Effects.{fold_done, statuses}
use Rattle.dsa_settings.specs.Epochs.{epoch_of}
use Rattle.dsa_core.specs.DescriptorMachine.{descriptor_machine}
use Rattle.dsa_core.specs.Order.{memory_in_order, statuses_in_order}
use Rattle.dsa_core.specs.Run.{Progress, IsFitting}
use Rattle.dsa_core.specs.StopPoint.{IsStopPoint}
use Rattle.dsa_core.proofs.Advance.{statuses_count}
use Rattle.dsa_core.proofs.DescriptorSteps.{memory_is_fold, statuses_are}
use Rattle.dsa_core.proofs.PieceRunLaws.{fits, listed_apart, AreApart}
use Rattle.dsa_core.proofs.Slots.{none_read}
use Rattle.dsa_core.proofs.StopPoint.{all_succeed_end}
use Rattle.dsa_flight.specs.Flight.{AllFitting}
use Rattle.dsa_flight.specs.Laws.{EndsInTurn}
use Rattle.dsa_flight.specs.Needed.{all_go}
use Rattle.dsa_flight.specs.Planned.{PlannedList, submission, submissions, AllCanRun, lists_in_turn, AllSucceedInTurn, PlannedEndInTurn}
use Rattle.dsa_flight.proofs.InTurn.{every_flight_ends_in_turn}

pub fitting : (ps : List PlannedList) (m : Memory) → AllCanRun ps m → AllFitting descriptor_machine (submissions ps) m
fitting [] m can x setup h = absurd (none_read x setup h)
fitting (p ∷ ps) m can zero setup h =
    let here = fits p.greatest_batch (map fields p.list) p.plan m p.engines (listed_apart p.list) (can 0 p refl) in
    subst (λ s. IsFitting descriptor_machine s m) (same_Some (submission p) setup h) here
fitting (p ∷ ps) m can (suc x) setup h = fitting ps m (λ y. can (suc y)) x setup h

-- a list that succeeds is done as a whole
whole : (p : PlannedList) (m : Memory) (k : ℕ) → IsStopPoint (epoch_of p.plan) (statuses_in_order descriptor_machine (map fields p.list) m) k → AllSucceedInTurn (p ∷ []) m → memory_in_order descriptor_machine (take k (map fields p.list)) m ≡ fold_done (map fields p.list) m
whole p m k stop all =
    let pieces : List Fields = map fields p.list in
    let apart : AreApart pieces = listed_apart p.list in
    let stops : IsStopPoint (epoch_of p.plan) (statuses pieces m) k = subst (λ xs. IsStopPoint (epoch_of p.plan) xs k) (statuses_are pieces m apart) stop in
    let count : length (statuses pieces m) ≡ length pieces = ap length (sym (statuses_are pieces m apart)) ∙ statuses_count descriptor_machine pieces m in
    let k_is : k ≡ length pieces = all_succeed_end (epoch_of p.plan) (statuses pieces m) k all.0 stops ∙ count in
    ap (λ n. memory_in_order descriptor_machine (take n pieces) m) k_is
    ∙ ap (λ ds. memory_in_order descriptor_machine ds m) (take-length pieces)
    ∙ memory_is_fold pieces m apart

pub in_turn :
    (ps : List PlannedList) (goes : ℕ → Bool) (lanes : List (List (Progress Partial))) (m end : Memory) → ((x : ℕ) → x < length ps → goes x ≡ true) →
    EndsInTurn descriptor_machine goes (submissions ps) lanes m end → AllSucceedInTurn ps m → end ≡ lists_in_turn ps m
in_turn [] goes [] m end all ends succeed = ends
in_turn [] goes (qs ∷ lanes) m end all ends succeed = absurd ends
in_turn (p ∷ ps) goes [] m end all ends succeed = absurd ends
in_turn (p ∷ ps) goes (qs ∷ lanes) m end all ends succeed =
    let mid : Memory = ends.0 in
    let mid_is : mid ≡ fold_done (map fields p.list) m = ends.3.memory_is ∙ elim ends.2 [
      | inl going ↦ whole p m ends.1 going.1 (succeed.0, tt)
      | inr still ↦ absurd (no_both (goes 0) (all 0 (omega arith)) still.0)
    ] in
    in_turn ps (λ x. goes (suc x)) lanes mid end (λ x lt. all (suc x) (omega (arith, lt))) ends.4 (subst (λ n. AllSucceedInTurn ps n) (sym mid_is) succeed.1)
    ∙ ap (λ n. lists_in_turn ps n) mid_is
  where
    no_both : (b : Bool) → b ≡ true → b ≡ false → ⊥
    no_both b t f = let wrong : true ≡ false = sym t ∙ f in cc

pub planned_end_in_turn : PlannedEndInTurn
planned_end_in_turn ps waits m events s can cover flight ended succeed =
    in_turn ps all_go s.lanes m s.memory (λ x lt. refl)
    (every_flight_ends_in_turn descriptor_machine (submissions ps) all_go waits m events s (fitting ps m can) cover flight ended) succeed
