-- Nothing passes a barrier.
use Rattle.std.proofs.Common.{◌≡◌, ℕ, ◌<◌, List, [], ◌∷◌, length, ap, ◌∙◌, arith}
use Rattle.std.proofs.lemmas.List.{length-map, length-set}
use Rattle.std.proofs.lemmas.Option.{slice_get_within}
use Rattle.dsa_ranges.specs.Ranges.{ConflictAt}
use Rattle.dsa_settings.specs.Epochs.{epoch_of}
use Rattle.dsa_settings.proofs.Barriers.{legal_is_kept, barriers_part}
use Rattle.dsa_core.specs.declared.event.Event.{Event}
use Rattle.dsa_core.specs.declared.event.Kind.{Kind}
use Rattle.dsa_core.specs.declared.event.Kind.TheVariants.{Take, Line, Finish}
use Rattle.dsa_core.specs.Machine.{Machine}
use Rattle.dsa_core.specs.DescriptorMachine.{descriptor_machine}
use Rattle.dsa_core.specs.Epochs.{setup_of}
use Rattle.dsa_core.specs.Run.{Setup, State, StepOf, Steps, event, start_state}
use Rattle.dsa_core.specs.Run.Progress.{Waiting}
use Rattle.dsa_core.specs.Barriers.{NothingPassesABarrier, LegalWithoutBarriers}
use Rattle.dsa_core.proofs.Moments.{steps_part}

-- no step changes how many pieces there are
step_keeps_count : {D P : Type 0} (machine : Machine D P) (setup : Setup D) (s t : State P) (k : Kind) (e i : ℕ) → StepOf machine setup s k e i t → length t.progress ≡ length s.progress
step_keeps_count {D} {P} machine setup s t Take e i h = ap (λ (x : State P). length x.progress) h.after ∙ length-set s.progress i _
step_keeps_count {D} {P} machine setup s t Line e i h = ap (λ (x : State P). length x.progress) h.after ∙ length-set s.progress i _
step_keeps_count {D} {P} machine setup s t Finish e i h = ap (λ (x : State P). length x.progress) h.after ∙ length-set s.progress i _

steps_keep_count : {D P : Type 0} (machine : Machine D P) (setup : Setup D) (vs : List Event) (s t : State P) → Steps machine setup s vs t → length t.progress ≡ length s.progress
steps_keep_count {D} {P} machine setup [] s t h = ap (λ (x : State P). length x.progress) h
steps_keep_count machine setup (v ∷ vs) s t h = steps_keep_count machine setup vs h.0 t h.2 ∙ step_keeps_count machine setup s h.0 v.kind v.engine v.piece h.1

pub nothing_passes_a_barrier : NothingPassesABarrier
nothing_passes_a_barrier greatest_batch pieces barriers plan m engines before after s e k i j legal run barrier lt le =
    let setup = setup_of plan pieces engines in
    let start = start_state descriptor_machine setup m in
    let parts = steps_part descriptor_machine setup before (event e Take j ∷ after) start s run in
    let there = parts.0 in
    let take_ = parts.2.1 in
    let count : length there.progress ≡ length pieces = steps_keep_count descriptor_machine setup before start there parts.1 ∙ length-map pieces _ in
    let inside : j < length pieces = omega (arith, slice_get_within there.progress j Waiting take_.waiting, count) in
    let parted : epoch_of plan i < epoch_of plan j = barriers_part (ConflictAt pieces) barriers greatest_batch (length pieces) plan k i j legal barrier lt le inside in
    (there, parts.1, take_.earlier_succeeded i (omega arith) parted)

pub legal_without_barriers : LegalWithoutBarriers
legal_without_barriers greatest_batch pieces barriers plan legal = ((legal_is_kept (ConflictAt pieces) barriers greatest_batch (length pieces) plan).0 legal).0
