-- Operations that are all descriptors run as these do.
use Rattle.std.proofs.Common.{◌≡◌, ℕ, ◌+◌, ◌<◌, inl, inr, List, [], ◌∷◌, length, map, refl, sym, ap, ap₂, ◌∙◌, subst, arith}
use Rattle.std.specs.List.{All}
use Rattle.std.proofs.lemmas.List.{get_or-map, length-map}
use Rattle.std.proofs.lemmas.List.Elements.{All-map}
use Rattle.dsa_core.specs.declared.event.Event.{Event}
use Rattle.dsa_core.specs.declared.event.Kind.{Kind}
use Rattle.dsa_core.specs.declared.event.Kind.TheVariants.{Finish, Line, Take}
use Rattle.dsa_core.specs.DescriptorMachine.{descriptor_machine}
use Rattle.dsa_core.specs.Epochs.{setup_of}
use Rattle.dsa_core.specs.Machine.{HoldsPiece}
use Rattle.dsa_core.specs.Order.{statuses_in_order}
use Rattle.dsa_core.specs.Run.{At, HasFailed, IsComplete, IsFinish, IsLine, IsTake, Progress, Setup, State, StepOf, Steps, start_state, state_with}
use Rattle.dsa_core.specs.Run.Progress.{Finished, Taken, Waiting}
use Rattle.dsa_core.proofs.Mapped.{map_get, map_set, shown_from}
use Rattle.dsa_descriptor.specs.declared.descriptor.Descriptor.{Descriptor}
use Rattle.dsa_descriptor.specs.Descriptors.{fields}
use Rattle.dsa_descriptor.specs.Fields.{Fields}
use Rattle.dsa_image.specs.declared.partial.Partial.{Partial}
use Rattle.dsa_image.specs.Effects.{completion, statuses}
use Rattle.dsa_image.specs.Effects as whole
use Rattle.dsa_image.specs.Memory.{HoldsRanges, Memory}
use Rattle.dsa_operations.specs.declared.operation.Operation.{Operation}
use Rattle.dsa_operations.specs.declared.operation.Operation.TheVariants as operation
use Rattle.dsa_operations.specs.Operations.{OperationConflictAt}
use Rattle.dsa_lists.proofs.Listed.{conflict_alike}
use Rattle.dsa_ranges.specs.Ranges.{ConflictAt}
use Rattle.dsa_settings.specs.Legal.{IsLegal}
use Rattle.dsa_settings.specs.Plan.{Plan}
use Rattle.dsa_execution.specs.Alike.{SameMemory, SamePremises, SameRuns, SameStatuses, as_operations, as_partial, as_progress, as_state}
use Rattle.dsa_execution.specs.Headline.{IsExecution}
use Rattle.dsa_core.specs.declared.partial.OperationPartial.{OperationPartial}
use Rattle.dsa_core.specs.Operations.{operation_machine}
use Rattle.dsa_core.proofs.OperationSteps.{done_memory, done_status}

-- they are as many
counts : (ds : List Descriptor) → length (as_operations ds) ≡ length (map fields ds)
counts ds = length-map ds operation.Descriptor ∙ sym (length-map ds fields)

-- ---- executed in order

pub same_memory : SameMemory
same_memory [] m = refl
same_memory (d ∷ ds) m = same_memory ds (whole.done (fields d) m)

pub same_statuses : SameStatuses
same_statuses [] m = refl
same_statuses (d ∷ ds) m =
    ap₂ (λ status n. status ∷ statuses_in_order operation_machine (as_operations ds) n)
    (done_status (operation.Descriptor d) m) (done_memory (operation.Descriptor d) m)
    ∙ ap (λ xs. (completion (fields d) m).status ∷ xs) (same_statuses ds (whole.done (fields d) m))

-- ---- what runs require

-- a plan is legal for fewer conflicts, too
legal_for :
    (C E : ℕ → ℕ → Type 0) (greatest_batch n l : ℕ) (plan : Plan) → ((i j : ℕ) → E i j → C i j) → n ≡ l → IsLegal C greatest_batch n plan →
    IsLegal E greatest_batch l plan
legal_for C E greatest_batch n l plan more same legal =
    record {
      covers = legal.covers ∙ same;
      groups = λ number group there.
          let g = legal.groups number group there in
          record {
            size = g.size;
            begins = g.begins;
            separates = λ a b within.
                g.separates a b (record { starts = within.starts; ordered = within.ordered; ends = within.ends; conflict = more a b within.conflict });
          };
    }

-- what holds of all that a list is made into
All-made : {X Y : Type 0} (P : Y → Type 0) (f : X → Y) (xs : List X) → All P (map f xs) → All (λ x. P (f x)) xs
All-made P f xs all = λ k x lt. subst P (get_or-map f xs k x (f x) lt) (all k (f x) (omega (arith, lt, length-map xs f)))

pub same_premises : SamePremises
same_premises greatest_batch ds plan m = (
  λ can.
      record {
        legal =
            legal_for (OperationConflictAt (as_operations ds)) (ConflictAt (map fields ds)) greatest_batch (length (as_operations ds)) (length (map fields ds))
            plan (λ i j. (conflict_alike ds i j).0) (counts ds) can.legal;
        holds = All-map (HoldsRanges m) fields ds (All-made (HoldsPiece operation_machine m) operation.Descriptor ds can.holds);
      },
  λ can.
      record {
        legal =
            legal_for (ConflictAt (map fields ds)) (OperationConflictAt (as_operations ds)) greatest_batch (length (map fields ds)) (length (as_operations ds))
            plan (λ i j. (conflict_alike ds i j).1) (sym (counts ds)) can.legal;
        holds = All-map (HoldsPiece operation_machine m) operation.Descriptor ds (All-made (HoldsRanges m) fields ds can.holds);
      },
)

-- ---- what progress shows

waiting_from : (q : Progress Partial) → as_progress q ≡ Waiting → q ≡ Waiting
waiting_from Waiting e = refl
waiting_from (Taken engine lines_done found) e = absurd cc
waiting_from (Finished status) e = absurd cc

finished_from : (q : Progress Partial) (st : ℕ) → as_progress q ≡ Finished st → q ≡ Finished st
finished_from Waiting st e = absurd cc
finished_from (Taken engine lines_done found) st e = absurd cc
finished_from (Finished status) st e = let same : status ≡ st = cc in ap (λ x. Finished x) same

taken_from :
    (q : Progress Partial) (e t : ℕ) (p : OperationPartial) → as_progress q ≡ Taken e t p →
    (found : Partial) × (q ≡ Taken e t found) × (as_partial found ≡ p)
taken_from Waiting e t p is = absurd cc
taken_from (Taken engine lines_done found) e t p is =
    let same_engine : engine ≡ e = cc in
    let same_turn : lines_done ≡ t = cc in
    let same_answer : as_partial found ≡ p = cc in
    (found, ap₂ (λ x y. Taken x y found) same_engine same_turn, same_answer)
taken_from (Finished status) e t p is = absurd cc

at_waiting : (s : State Partial) (i : ℕ) → At (as_state s) i Waiting → At s i Waiting
at_waiting s i there =
    let (q, here, shows) = shown_from as_progress s.progress i Waiting there in
    subst (λ r. At s i r) (waiting_from q shows) here

at_finished : (s : State Partial) (i st : ℕ) → At (as_state s) i (Finished st) → At s i (Finished st)
at_finished s i st there =
    let (q, here, shows) = shown_from as_progress s.progress i (Finished st) there in
    subst (λ r. At s i r) (finished_from q st shows) here

at_taken :
    (s : State Partial) (i e t : ℕ) (p : OperationPartial) → At (as_state s) i (Taken e t p) →
    (found : Partial) × At s i (Taken e t found) × (as_partial found ≡ p)
at_taken s i e t p there =
    let (q, here, shows) = shown_from as_progress s.progress i (Taken e t p) there in
    let (found, q_is, p_is) = taken_from q e t p shows in
    (found, subst (λ r. At s i r) q_is here, p_is)

-- a change of the progress of one piece, seen as one of an operation's
shown_after : (s : State Partial) (i : ℕ) (q : Progress Partial) (m : Memory) → state_with (as_state s) i (as_progress q) m ≡ as_state (state_with s i q m)
shown_after s i q m = λ k. record { memory = m; progress = sym (map_set as_progress s.progress i q) k }

-- ---- steps

module _ (ds : List Descriptor) (plan : Plan) (engines : ℕ) where
  abbrev of_descriptors : Setup Fields
  of_descriptors = setup_of plan (map fields ds) engines

  abbrev of_operations : Setup Operation
  of_operations = setup_of plan (as_operations ds) engines

  take_from : (s : State Partial) (e i : ℕ) (t : State OperationPartial) → IsTake operation_machine of_operations (as_state s) e i t →
      (u : State Partial) × IsTake descriptor_machine of_descriptors s e i u × (t ≡ as_state u)
  take_from s e i t step = (
    state_with s i (Taken e 0 descriptor_machine.start) s.memory,
    record {
      known_engine = step.known_engine;
      waiting = at_waiting s i step.waiting;
      idle = λ j k found here. step.idle j k (as_partial found) (map_get as_progress s.progress j (Taken e k found) here);
      earlier_succeeded = λ j lt below. at_finished s j 1 (step.earlier_succeeded j (subst (λ n. j < n) (sym (counts ds)) lt) below);
      after = refl;
    },
    step.after ∙ shown_after s i (Taken e 0 descriptor_machine.start) s.memory,
  )

  take_to : (s : State Partial) (e i : ℕ) (u : State Partial) → IsTake descriptor_machine of_descriptors s e i u →
      IsTake operation_machine of_operations (as_state s) e i (as_state u)
  take_to s e i u step =
      record {
        known_engine = step.known_engine;
        waiting = map_get as_progress s.progress i Waiting step.waiting;
        idle = λ j k p there. let (found, here, is) = at_taken s j e k p there in step.idle j k found here;
        earlier_succeeded = λ j lt below.
            map_get as_progress s.progress j (Finished 1) (step.earlier_succeeded j (subst (λ n. j < n) (counts ds) lt) below);
        after = ap as_state step.after ∙ sym (shown_after s i (Taken e 0 descriptor_machine.start) s.memory);
      }

  -- what a line of a piece leaves
  abbrev lined : State Partial → ℕ → ℕ → ℕ → Partial → Fields → State Partial
  lined s e i k found f =
      let result = descriptor_machine.line f k s.memory found in state_with s i (Taken e (k + 1) result.answer) result.memory

  abbrev lined_operation : State Partial → ℕ → ℕ → ℕ → OperationPartial → Operation → State OperationPartial
  lined_operation s e i k p o =
      let result = operation_machine.line o k s.memory p in state_with (as_state s) i (Taken e (k + 1) result.answer) result.memory

  line_shown : (s : State Partial) (e i k : ℕ) (found : Partial) (d : Descriptor) →
      lined_operation s e i k (as_partial found) (operation.Descriptor d) ≡ as_state (lined s e i k found (fields d))
  line_shown s e i k found d =
      let result = descriptor_machine.line (fields d) k s.memory found in
      shown_after s i (Taken e (k + 1) result.answer) result.memory

  line_from : (s : State Partial) (e i : ℕ) (t : State OperationPartial) → IsLine operation_machine of_operations (as_state s) e i t →
      (u : State Partial) × IsLine descriptor_machine of_descriptors s e i u × (t ≡ as_state u)
  line_from s e i t step =
      let (d, here, is_d) = shown_from operation.Descriptor ds i step.piece step.is_piece in
      let (found, taken, is_p) = at_taken s i e step.lines_done step.partial step.taken in (
        lined s e i step.lines_done found (fields d),
        record {
          piece = fields d;
          is_piece = map_get fields ds i d here;
          lines_done = step.lines_done;
          partial = found;
          taken = taken;
          lines_left = subst (λ o. step.lines_done < operation_machine.lines o) (sym is_d) step.lines_left;
          after = refl;
        },
        step.after ∙ ap₂ (lined_operation s e i step.lines_done) (sym is_p) (sym is_d) ∙ line_shown s e i step.lines_done found d,
      )

  line_to : (s : State Partial) (e i : ℕ) (u : State Partial) → IsLine descriptor_machine of_descriptors s e i u →
      IsLine operation_machine of_operations (as_state s) e i (as_state u)
  line_to s e i u step =
      let (d, here, is_f) = shown_from fields ds i step.piece step.is_piece in
      record {
        piece = operation.Descriptor d;
        is_piece = map_get operation.Descriptor ds i d here;
        lines_done = step.lines_done;
        partial = as_partial step.partial;
        taken = map_get as_progress s.progress i (Taken e step.lines_done step.partial) step.taken;
        lines_left = subst (λ f. step.lines_done < descriptor_machine.lines f) (sym is_f) step.lines_left;
        after =
            ap as_state (step.after ∙ ap (lined s e i step.lines_done step.partial) (sym is_f))
            ∙ sym (line_shown s e i step.lines_done step.partial d);
      }

  -- what a finish leaves
  abbrev finished : State Partial → ℕ → Partial → Fields → State Partial
  finished s i found f =
      let result = descriptor_machine.finish f s.memory found in state_with s i (Finished result.answer) result.memory

  abbrev finished_operation : State Partial → ℕ → OperationPartial → Operation → State OperationPartial
  finished_operation s i p o =
      let result = operation_machine.finish o s.memory p in state_with (as_state s) i (Finished result.answer) result.memory

  finish_shown : (s : State Partial) (i : ℕ) (found : Partial) (d : Descriptor) →
      finished_operation s i (as_partial found) (operation.Descriptor d) ≡ as_state (finished s i found (fields d))
  finish_shown s i found d =
      let result = descriptor_machine.finish (fields d) s.memory found in shown_after s i (Finished result.answer) result.memory

  finish_from : (s : State Partial) (e i : ℕ) (t : State OperationPartial) → IsFinish operation_machine of_operations (as_state s) e i t →
      (u : State Partial) × IsFinish descriptor_machine of_descriptors s e i u × (t ≡ as_state u)
  finish_from s e i t step =
      let (d, here, is_d) = shown_from operation.Descriptor ds i step.piece step.is_piece in
      let (found, taken, is_p) = at_taken s i e (operation_machine.lines step.piece) step.partial step.taken in (
        finished s i found (fields d),
        record {
          piece = fields d;
          is_piece = map_get fields ds i d here;
          partial = found;
          taken = subst (λ o. At s i (Taken e (operation_machine.lines o) found)) (sym is_d) taken;
          after = refl;
        },
        step.after ∙ ap₂ (finished_operation s i) (sym is_p) (sym is_d) ∙ finish_shown s i found d,
      )

  finish_to : (s : State Partial) (e i : ℕ) (u : State Partial) → IsFinish descriptor_machine of_descriptors s e i u →
      IsFinish operation_machine of_operations (as_state s) e i (as_state u)
  finish_to s e i u step =
      let (d, here, is_f) = shown_from fields ds i step.piece step.is_piece in
      record {
        piece = operation.Descriptor d;
        is_piece = map_get operation.Descriptor ds i d here;
        partial = as_partial step.partial;
        taken =
            map_get as_progress s.progress i (Taken e (descriptor_machine.lines (fields d)) step.partial)
            (subst (λ f. At s i (Taken e (descriptor_machine.lines f) step.partial)) (sym is_f) step.taken);
        after = ap as_state (step.after ∙ ap (finished s i step.partial) (sym is_f)) ∙ sym (finish_shown s i step.partial d);
      }

  step_from : (s : State Partial) (kind : Kind) (e i : ℕ) (t : State OperationPartial) → StepOf operation_machine of_operations (as_state s) kind e i t →
      (u : State Partial) × StepOf descriptor_machine of_descriptors s kind e i u × (t ≡ as_state u)
  step_from s Take e i t step = take_from s e i t step
  step_from s Line e i t step = line_from s e i t step
  step_from s Finish e i t step = finish_from s e i t step

  step_to : (s : State Partial) (kind : Kind) (e i : ℕ) (u : State Partial) → StepOf descriptor_machine of_descriptors s kind e i u →
      StepOf operation_machine of_operations (as_state s) kind e i (as_state u)
  step_to s Take e i u step = take_to s e i u step
  step_to s Line e i u step = line_to s e i u step
  step_to s Finish e i u step = finish_to s e i u step

  steps_from : (events : List Event) (s : State Partial) (t : State OperationPartial) → Steps operation_machine of_operations (as_state s) events t →
      (u : State Partial) × Steps descriptor_machine of_descriptors s events u × (t ≡ as_state u)
  steps_from [] s t steps = (s, refl, steps)
  steps_from (v ∷ vs) s t steps =
      let (mid, first, others) = steps in
      let (u, one, is) = step_from s v.kind v.engine v.piece mid first in
      let (w, more, ends) = steps_from vs u t (subst (λ x. Steps operation_machine of_operations x vs t) is others) in
      (w, (u, one, more), ends)

  steps_to : (events : List Event) (s u : State Partial) → Steps descriptor_machine of_descriptors s events u →
      Steps operation_machine of_operations (as_state s) events (as_state u)
  steps_to [] s u steps = ap as_state steps
  steps_to (v ∷ vs) s u steps =
      let (mid, first, others) = steps in
      (as_state mid, step_to s v.kind v.engine v.piece mid first, steps_to vs mid u others)

  -- ---- whole runs

  starts : (m : Memory) → start_state operation_machine of_operations m ≡ as_state (start_state descriptor_machine of_descriptors m)
  starts m = λ k. record { memory = m; progress = all_wait ds k }
    where
      all_wait : (xs : List Descriptor) → map (λ o. Waiting) (as_operations xs) ≡ map as_progress (map (λ f. Waiting) (map fields xs))
      all_wait [] = refl
      all_wait (x ∷ xs) = ap (λ qs. Waiting ∷ qs) (all_wait xs)

  failed_from : (s : State Partial) → HasFailed of_operations (as_state s) → HasFailed of_descriptors s
  failed_from s failed =
      record {
        piece = failed.piece;
        status = failed.status;
        finished = at_finished s failed.piece failed.status failed.finished;
        not_one = failed.not_one;
        whole = λ j lt same. let (status, there) = failed.whole j (subst (λ n. j < n) (sym (counts ds)) lt) same in (status, at_finished s j status there);
      }

  failed_to : (s : State Partial) → HasFailed of_descriptors s → HasFailed of_operations (as_state s)
  failed_to s failed =
      record {
        piece = failed.piece;
        status = failed.status;
        finished = map_get as_progress s.progress failed.piece (Finished failed.status) failed.finished;
        not_one = failed.not_one;
        whole = λ j lt same.
            let (status, here) = failed.whole j (subst (λ n. j < n) (counts ds) lt) same in
            (status, map_get as_progress s.progress j (Finished status) here);
      }

  complete_from : (s : State Partial) → IsComplete of_operations (as_state s) → IsComplete of_descriptors s
  complete_from s complete =
      record {
        none_taken = λ i e t found here. complete.none_taken i e t (as_partial found) (map_get as_progress s.progress i (Taken e t found) here);
        ended = elim complete.ended [
          | inl all ↦ inl (λ i lt. let (status, there) = all i (subst (λ n. i < n) (sym (counts ds)) lt) in (status, at_finished s i status there))
          | inr failed ↦ inr (failed_from s failed)
        ];
      }

  complete_to : (s : State Partial) → IsComplete of_descriptors s → IsComplete of_operations (as_state s)
  complete_to s complete =
      record {
        none_taken = λ i e t p there. let (found, here, is) = at_taken s i e t p there in complete.none_taken i e t found here;
        ended = elim complete.ended [
          | inl all ↦ inl (λ i lt.
              let (status, here) = all i (subst (λ n. i < n) (counts ds) lt) in
              (status, map_get as_progress s.progress i (Finished status) here))
          | inr failed ↦ inr (failed_to s failed)
        ];
      }

pub same_runs : SameRuns
same_runs ds plan m engines events t = (
  λ run.
      let begun = subst (λ x. Steps operation_machine (setup_of plan (as_operations ds) engines) x events t) (starts ds plan engines m) run.is_run in
      let (s, steps, is) = steps_from ds plan engines events (start_state descriptor_machine (setup_of plan (map fields ds) engines) m) t begun in
      let complete = subst (λ x. IsComplete (setup_of plan (as_operations ds) engines) x) is run.complete in
      (s, record { is_run = steps; complete = complete_from ds plan engines s complete }, is),
  λ found.
      let (s, run, is) = found in
      let steps = steps_to ds plan engines events (start_state descriptor_machine (setup_of plan (map fields ds) engines) m) s run.is_run in
      let begun =
      subst (λ x. Steps operation_machine (setup_of plan (as_operations ds) engines) x events (as_state s)) (sym (starts ds plan engines m)) steps in
      subst (λ x. IsExecution plan (as_operations ds) engines m events x) (sym is)
      (record { is_run = begun; complete = complete_to ds plan engines s run.complete }),
)
