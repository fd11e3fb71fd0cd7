-- The groups of planned lists, submitted one after another.
use Rattle.std.proofs.Common.{◌≡◌, ℕ, zero, suc, ◌+◌, ◌<◌, ◌≤◌, inl, inr, List, [], ◌∷◌, ◌++◌, Option, Some, drop, length, map, take, slice_get, refl, sym, ap, ◌∙◌, subst, add-zero, drop-drop, arith}
use Rattle.std.specs.Prelude.{flat_map, slice_index}
use Rattle.std.proofs.lemmas.List.Sums.{sum_by-cons}
use Rattle.std.proofs.lemmas.Option.{same_Some}
use Rattle.dsa_descriptor.specs.declared.descriptor.Descriptor.{Descriptor}
use Rattle.dsa_descriptor.specs.declared.span.Span.{Span}
use Rattle.dsa_descriptor.specs.Descriptors.{fields}
use Rattle.dsa_descriptor.specs.Fields.{Fields}
use Rattle.dsa_descriptor.specs.Spans.{InSome}
use Rattle.dsa_ranges.specs.Pieces.{reads_of, writes_of}
use Rattle.dsa_ranges.specs.Ranges.{read_spans, written_spans}
use Rattle.dsa_image.specs.declared.partial.Partial.{Partial}
use Rattle.dsa_core.specs.DescriptorMachine.{descriptor_machine}
use Rattle.dsa_core.specs.Run.{Setup}
use Rattle.dsa_core.proofs.Slots.{none_read}
use Rattle.dsa_emission.specs.Emission.{batched_count, place_of}
use Rattle.dsa_flight.specs.Planned.{PlannedList, all_groups, each_group, submission, submissions}
use Rattle.dsa_flight.proofs.Groups.{groups_fit, groups_in_turn}
use Rattle.dsa_flight.proofs.Spans.{descriptors_tell}
use Rattle.dsa_settings.specs.Plan.{Plan, start_of}
use Rattle.dsa_tracker.specs.declared.owner.Owner.{Owner}
use Rattle.dsa_tracker.specs.declared.slots.Slots.{Slots}
use Rattle.dsa_tracker.specs.declared.submitted.Submitted.{Submitted}
use Rattle.dsa_tracker.specs.Groups.{SubmitsInTurn, group_at, group_reads, group_staging, group_writes, pieces_of}
use Rattle.dsa_tracker.specs.Honest.{Moment, Act, Covers, Does, DoesAll, SubmitsNext, with_number}
use Rattle.dsa_tracker.specs.Honest.Act.{Submit}
use Rattle.dsa_tracker.specs.Planned.{GroupsAreSubmitted, TrackedGroupsEndInTurn}
use Rattle.dsa_tracker.specs.Table.{Table}
use Rattle.dsa_tracker.proofs.Honest.{tracker_ends_in_turn}
use Rattle.dsa_tracker.proofs.Pieces.{in_append}

pub tracked_groups_end_in_turn : TrackedGroupsEndInTurn
tracked_groups_end_in_turn ps m start s acts can starts does rung ended succeed =
    groups_in_turn ps s.rung s.flight.lanes m s.flight.memory rung can
    (tracker_ends_in_turn descriptor_machine read_spans written_spans descriptors_tell (submissions (all_groups ps)) m start s acts (groups_fit ps m can) starts does ended) succeed

-- the pieces of a group's submission are those of the group of its number
group_pieces :
    (greatest_batch engines : ℕ) (plan : Plan) (list : List Descriptor) (k : ℕ) (a : Setup Fields) →
    slice_get (submissions (each_group greatest_batch engines plan list)) k ≡ Some a → a.pieces ≡ map fields (pieces_of plan list k)
group_pieces greatest_batch engines [] list k a h = absurd (none_read k a h)
group_pieces greatest_batch engines (g ∷ plan) list zero a h =
    let first : PlannedList = record { greatest_batch = greatest_batch; plan = g ∷ []; list = take (length g) list; engines = engines } in
    ap (λ (x : Setup Fields). x.pieces) (sym (same_Some (submission first) a h))
group_pieces greatest_batch engines (g ∷ plan) list (suc k) a h =
    let size : ℕ = length (group_at plan k) in
    let start : start_of (g ∷ plan) (suc k) ≡ length g + start_of plan k = sum_by-cons length g (take k plan) in
    group_pieces greatest_batch engines plan (drop (length g) list) k a h
    ∙ ap (λ xs. map fields (take size xs)) (drop-drop (start_of plan k) (length g) list)
    ∙ ap (λ n. map fields (take size (drop n list))) (sym start)

-- the spans of descriptors are those of their fields
of_fields : (f : Fields → List Span) (ds : List Descriptor) → flat_map f (map fields ds) ≡ flat_map (λ d. f (fields d)) ds
of_fields f [] = refl
of_fields f (d ∷ ds) = λ i. f (fields d) ++ of_fields f ds i

-- one act more
one_act :
    (subs : List (Setup Fields)) (s mid new : Moment Partial) (acts : List Act) (act : Act) → DoesAll descriptor_machine read_spans written_spans subs s acts mid →
    Does descriptor_machine read_spans written_spans subs mid act new → DoesAll descriptor_machine read_spans written_spans subs s (acts ++ act ∷ []) new
one_act subs s mid new [] act before last = (new, subst (λ x. Does descriptor_machine read_spans written_spans subs x act new) before last, refl)
one_act subs s mid new (first ∷ acts) act before last = (before.0, before.1, one_act subs before.0 mid new acts act before.2 last)

module _ (subs : List (Setup Fields)) (s : Moment Partial) (reads writes : ℕ → List Span) (also : Slots) (owner : Option Owner) (slots : List ℕ) (total : ℕ)
    (covers : (k : ℕ) (a : Setup Fields) → k < total → slice_get subs (s.submitted + k) ≡ Some a → Covers (flat_map read_spans a.pieces) (flat_map written_spans a.pieces) (reads k) (writes k)) where
  -- the moment once so many were submitted
  abbrev moment : Table → ℕ → (ℕ → ℕ) → Moment Partial
  moment table count number = record { table = table; submitted = s.submitted + count; number = number; rung = s.rung; flight = s.flight }

  pub submitted_in_turn :
      (count : ℕ) (new : Table) → count ≤ total → SubmitsInTurn s.table reads writes also owner slots count new →
      (acts : List Act) × (number : ℕ → ℕ) × DoesAll descriptor_machine read_spans written_spans subs s acts (moment new count number)
  submitted_in_turn zero new le is = ([], s.number, λ i. record { table = is i; submitted = add-zero s.submitted i; number = s.number; rung = s.rung; flight = s.flight })
  submitted_in_turn (suc count) new le (mid, waits, before, call) =
      let done = submitted_in_turn count mid (omega (arith, le)) before in
      let submitted : Submitted = record { slot = slice_index slots count; waits = waits } in
      let number : ℕ → ℕ = with_number done.1 submitted.slot (s.submitted + count) in
      let next : Moment Partial = record { table = new; submitted = s.submitted + count + 1; number = number; rung = s.rung; flight = s.flight } in
      let act : SubmitsNext read_spans written_spans subs (moment mid count done.1) (reads count) (writes count) also submitted next =
      record { covers = λ a is. covers count a (omega (arith, le)) is; owner = owner; table = new; call = call; after = refl } in
      let step : s.submitted + count + 1 ≡ s.submitted + suc count = omega arith in (
        done.0 ++ Submit (reads count) (writes count) also submitted ∷ [],
        number,
        subst (λ n. DoesAll descriptor_machine read_spans written_spans subs s (done.0 ++ Submit (reads count) (writes count) also submitted ∷ []) (record { table = new; submitted = n; number = number; rung = s.rung; flight = s.flight })) step
            (one_act subs s (moment mid count done.1) next done.0 (Submit (reads count) (writes count) also submitted) done.2 act),
      )

pub groups_are_submitted : GroupsAreSubmitted
groups_are_submitted subs s p staging also owner slots new come turns =
    submitted_in_turn subs s (group_reads reads_of p.plan p.list) (group_writes writes_of staging p.plan p.list) also owner slots (length p.plan) covers (length p.plan) new (omega arith) turns
  where
    covers :
        (k : ℕ) (a : Setup Fields) → k < length p.plan → slice_get subs (s.submitted + k) ≡ Some a →
        Covers (flat_map read_spans a.pieces) (flat_map written_spans a.pieces) (group_reads reads_of p.plan p.list k) (group_writes writes_of staging p.plan p.list k)
    covers k a lt is =
        let own : List Descriptor = pieces_of p.plan p.list k in
        let pieces : a.pieces ≡ map fields own = group_pieces p.greatest_batch p.engines p.plan p.list k a (sym (come k lt) ∙ is) in
        let staged : List Span = group_staging staging (batched_count p.plan) (place_of p.plan k) (group_at p.plan k) in (
          λ x h. inl (subst (λ spans. InSome spans x) (ap (flat_map read_spans) pieces ∙ of_fields read_spans own) h),
          λ x h. (in_append staged (flat_map writes_of own) x).1 (inr (subst (λ spans. InSome spans x) (ap (flat_map written_spans) pieces ∙ of_fields written_spans own) h)),
        )
