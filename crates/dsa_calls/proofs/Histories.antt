-- A trace has one end, and a run of a list that succeeds leaves what executing the list leaves.
use Rattle.std.proofs.Common.{◌≡◌, ◌⊎◌, inl, inr, ℕ, suc, ◌≤◌, Bool, false, List, [], ◌∷◌, length, map, take, Some, Result, Ok, Err, refl, sym, ap, subst, ◌∙◌, arith}
use Rattle.std.specs.Prelude.{All, IfOk}
use Rattle.std.proofs.lemmas.List.{length-map, take_all}
use Rattle.std.proofs.lemmas.Option.{slice_get-get_or}
use Rattle.dsa_descriptor.specs.declared.descriptor.Descriptor.{Descriptor}
use Rattle.dsa_descriptor.specs.Fields.{Fields}
use Rattle.dsa_descriptor.specs.Descriptors.{fields}
use Rattle.dsa_image.specs.Memory.{Memory}
use Rattle.dsa_image.specs.Effects.{done, fold_done, statuses}
use Rattle.dsa_settings.specs.Plan.{Plan}
use Rattle.dsa_settings.specs.Settings.{Limits, AreInLimits}
use Rattle.dsa_settings.specs.Legal.{IsLegal}
use Rattle.dsa_splitter.specs.Pieces.{all_whole, whole_statuses}
use Rattle.dsa_splitter.proofs.PiecesWhole.{all_pieces_whole, all_pieces_statuses}
use Rattle.dsa_splitter.proofs.Wholes.{list_can_split}
use Rattle.dsa_ranges.specs.Ranges.{ConflictAt}
use Rattle.dsa_core.specs.declared.outcome.Outcome.{Outcome}
use Rattle.dsa_core.specs.declared.event.Event.{Event}
use Rattle.dsa_core.specs.declared.fault.CoreFault.TheVariants.{NotAStep}
use Rattle.dsa_core.specs.StopPoint.{AllSucceed}
use Rattle.dsa_core.specs.BatchRecords.{batch_records}
use Rattle.dsa_core.specs.Epochs.{epoch_of}
use Rattle.dsa_core.specs.PieceRuns.{StopsAfter}
use Rattle.dsa_core.specs.Accounts.{Account, IsOver}
use Rattle.dsa_core.specs.DescriptorWork.{descriptor_work}
use Rattle.dsa_core.specs.DescriptorRooms.{IsFirstRefused, IsOutcome, IsOutcomeOf, IsUnfinished}
use Rattle.dsa_core.specs.Outcomes.{room_with}
use Rattle.dsa_core.proofs.Accounts.{over_or_not}
use Rattle.dsa_core.proofs.DescriptorsFit.{descriptors_fit}
use Rattle.dsa_core.proofs.PieceRunLaws.{every_run_is_in_order}
use Rattle.dsa_core.proofs.OneReplay.{none_refused, one_refused}
use Rattle.dsa_core.proofs.StopPoint.{stop_points_agree}
use Rattle.dsa_calls.specs.declared.fault.PlanFault.{PlanFault}
use Rattle.dsa_calls.specs.declared.fault.PlanFault.TheVariants.{Core}
use Rattle.dsa_calls.specs.Lists.{OrMemory}
use Rattle.dsa_calls.specs.Planned.{Submission, Plans}
use Rattle.dsa_calls.specs.Runs.{Left, left_of, OrShut, OverPlanned, ReplaysPieces, RunsPieces, LeavesWhole}
use Rattle.dsa_calls.specs.Laws.{OneReplayed, HasBrokenOff, HasBegun, OneRun, ReplaysFollowPlans, RunsFollowPlans, PlannedRunsLeaveWhole}
use Rattle.dsa_calls.proofs.Over.{one_list}
use Rattle.dsa_calls.proofs.Submissions.{one_planned, planned_is_least_and_shown}
use Rattle.dsa_calls.proofs.Refusals.{one_over_planned, follows_plan}

-- ---- a trace has one end

module _ (m : Memory) (plan : Plan) (pieces : List Fields) (engines : ℕ) where
  abbrev room : List Event → Account Fields
  room history = room_with m plan pieces engines history

  over_refuses_none : (trace : List Event) (k : ℕ) → IsOver descriptor_work (room trace) → IsFirstRefused room trace k → ⊥
  over_refuses_none trace k (s, now, over) first = none_refused descriptor_work descriptors_fit m plan pieces engines trace s k now first

  unfinished_refuses_none : (trace : List Event) (k : ℕ) → IsUnfinished (room trace) → IsFirstRefused room trace k → ⊥
  unfinished_refuses_none trace k (s, now, not_yet) first = none_refused descriptor_work descriptors_fit m plan pieces engines trace s k now first

-- what a run leaves is one, whatever its history
left_is_one : (m : Memory) (plan : Plan) (pieces : List Fields) (engines : ℕ) (vs ws : List Event) (a b : Left) →
    IsOutcome (room_with m plan pieces engines vs) a.image a.finished a.batch_records → IsOutcome (room_with m plan pieces engines ws) b.image b.finished b.batch_records → a ≡ b
left_is_one m plan pieces engines vs ws a b h k =
    let same : a.finished ≡ b.finished = stop_points_agree (epoch_of plan) (statuses pieces m) a.finished b.finished h.stops k.stops in
    let image : a.image ≡ b.image = h.memory ∙ ap (λ (n : ℕ). fold_done (take n pieces) m) same ∙ sym k.memory in
    let records : a.batch_records ≡ b.batch_records = h.records_are ∙ ap (λ (n : ℕ). batch_records plan n (statuses pieces m)) same ∙ sym k.records_are in
    λ i. record { image = image i; finished = same i; batch_records = records i }

-- ---- one outcome of replaying

module _ (m : Memory) (engines : ℕ) (trace : List Event) (plan : Plan) (pieces : List Fields) where
  over_or_no_step : (left : Left) (fault : PlanFault) → IsOutcome (room_with m plan pieces engines trace) left.image left.finished left.batch_records
      → ReplaysPieces m engines trace plan pieces (Err fault) → ⊥
  over_or_no_step left fault out (inl (k, is, first)) = over_refuses_none m plan pieces engines trace k out.over first
  over_or_no_step left fault out (inr (is, cut)) = over_or_not descriptor_work descriptors_fit (room_with m plan pieces engines trace) out.over cut

  one_end_fault : (f g : PlanFault) → ReplaysPieces m engines trace plan pieces (Err f) → ReplaysPieces m engines trace plan pieces (Err g) → f ≡ g
  one_end_fault f g (inl (k, is, first)) (inl (j, is', first')) = is ∙ ap (λ (n : ℕ). Core (NotAStep n)) (one_refused descriptor_work descriptors_fit m plan pieces engines trace k j first first') ∙ sym is'
  one_end_fault f g (inl (k, is, first)) (inr (is', cut)) = absurd (unfinished_refuses_none m plan pieces engines trace k cut first)
  one_end_fault f g (inr (is, cut)) (inl (k, is', first)) = absurd (unfinished_refuses_none m plan pieces engines trace k cut first)
  one_end_fault f g (inr (is, cut)) (inr (is', cut')) = is ∙ sym is'

  pub one_replayed_pieces : (o p : Result Left PlanFault) → ReplaysPieces m engines trace plan pieces o → ReplaysPieces m engines trace plan pieces p → o ≡ p
  one_replayed_pieces (Ok a) (Ok b) h k = ap Ok (left_is_one m plan pieces engines trace trace a b h k)
  one_replayed_pieces (Ok a) (Err g) h k = absurd (over_or_no_step a g h k)
  one_replayed_pieces (Err f) (Ok b) h k = absurd (over_or_no_step b f k h)
  one_replayed_pieces (Err f) (Err g) h k = ap Err (one_end_fault f g h k)

-- ---- where each operation succeeds

length_statuses : (ds : List Fields) (m : Memory) → length (statuses ds m) ≡ length ds
length_statuses [] m = refl
length_statuses (d ∷ ds) m = ap suc (length_statuses ds (done d m))

all_succeed : (xs : List ℕ) → All (λ x. x ≡ 1) xs → AllSucceed xs
all_succeed xs all i within = slice_get-get_or xs i 0 within ∙ ap Some (all i 0 within)

-- a stop point where all succeed is the end
ends_at_last : (plan : Plan) (pieces : List Fields) (m : Memory) (k : ℕ) → AllSucceed (statuses pieces m) → StopsAfter plan pieces m k → k ≡ length (statuses pieces m)
ends_at_last plan pieces m k all (inl (same, is)) = is
ends_at_last plan pieces m k all (inr (i, first)) = absurd (first.not_one (all i first.known))

-- what a run of the pieces of a list leaves is the memory of executing the list, where each operation succeeds
pub run_leaves_whole : (bytes : List ℕ) (s : Limits) (m : Memory) (engines : ℕ) (history : List Event) (p : Submission) (left : Left) → AreInLimits s → Plans bytes s (Ok p) →
    IsOutcome (room_with m p.plan (map fields p.pieces) engines history) left.image left.finished left.batch_records → LeavesWhole bytes s m left
run_leaves_whole bytes s m engines history p left within (inl (fault, other, first, is)) outcome ds list all = cc
run_leaves_whole bytes s m engines history p left within (inr (es, listed, sub)) outcome ds list all =
    let same : ds ≡ es = one_list bytes es ds listed list in
    let g = s.greatest_transfer in
    let can = list_can_split es g sub.split.few.may_split within.least_transfer within.transfer_by_eights in
    let ss : statuses (map fields p.pieces) m ≡ whole_statuses (map fields ds) g m =
    ap (λ (xs : List Fields). statuses xs m) sub.pieces_are ∙ all_pieces_statuses (map fields es) g m can ∙ ap (λ (xs : List Descriptor). whole_statuses (map fields xs) g m) (sym same) in
    let succeed : AllSucceed (statuses (map fields p.pieces) m) = subst AllSucceed (sym ss) (all_succeed (whole_statuses (map fields ds) g m) all) in
    let k = ends_at_last p.plan (map fields p.pieces) m left.finished succeed outcome.stops in
    let count : length (map fields p.pieces) ≤ left.finished = omega (arith, k, length_statuses (map fields p.pieces) m) in (
      outcome.memory ∙ ap (λ (xs : List Fields). fold_done xs m) (take_all left.finished (map fields p.pieces) count)
          ∙ ap (λ (xs : List Fields). fold_done xs m) sub.pieces_are ∙ all_pieces_whole (map fields es) g m can
          ∙ ap (λ (xs : List Descriptor). all_whole (map fields xs) g m) (sym same),
      k ∙ ap length ss,
    )

-- ---- answers

-- a replay that answers leaves the memory of the whole list, where each operation succeeds
pub replay_leaves_whole : (bytes : List ℕ) (s : Limits) (m : Memory) (engines : ℕ) (trace : List Event) (p : Submission) (r : Result Outcome PlanFault) → AreInLimits s → Plans bytes s (Ok p) →
    OrMemory left_of (ReplaysPieces m engines trace p.plan (map fields p.pieces)) r → IfOk r (λ o. LeavesWhole bytes s m (left_of o))
replay_leaves_whole bytes s m engines trace p (Ok o) within plans says = run_leaves_whole bytes s m engines trace p (left_of o) within plans says
replay_leaves_whole bytes s m engines trace p (Err fault) within plans says = tt

-- what is said of an open gate's run is said without the gate
open_says : (Says : Submission → Result Left PlanFault → Type 0) (bytes : List ℕ) (s : Limits) (m : Memory) (engines : ℕ) (o : Result Left PlanFault) →
    OverPlanned (λ p o. OrShut false (Says p) o) bytes s m engines o → OverPlanned Says bytes s m engines o
open_says Says bytes s m engines o (inl refused) = inl refused
open_says Says bytes s m engines o (inr (p, plans, can, inl says)) = inr (p, plans, can, says)
open_says Says bytes s m engines o (inr (p, plans, can, inr (may, shut))) = absurd (cc)

-- and so does a run
pub engines_leave_whole : (may_refuse : Bool) (bytes : List ℕ) (s : Limits) (m : Memory) (engines : ℕ) (p : Submission) (r : Result Outcome PlanFault) → AreInLimits s → Plans bytes s (Ok p) →
    OrMemory left_of (OrShut may_refuse (RunsPieces m engines p.plan (map fields p.pieces))) r → IfOk r (λ o. LeavesWhole bytes s m (left_of o))
engines_leave_whole may_refuse bytes s m engines p (Ok o) within plans (inl (history, outcome)) = run_leaves_whole bytes s m engines history p (left_of o) within plans outcome
engines_leave_whole may_refuse bytes s m engines p (Ok o) within plans (inr (may, same)) = absurd (cc)
engines_leave_whole may_refuse bytes s m engines p (Err fault) within plans says = tt

-- a gate that never refuses doesn't shut a run
pub never_shut : (Says : Submission → Result Left PlanFault → Type 0) (bytes : List ℕ) (s : Limits) (m : Memory) (engines : ℕ) (r : Result Outcome PlanFault) →
    OrMemory left_of (OverPlanned (λ p o. OrShut false (Says p) o) bytes s m engines) r → OrMemory left_of (OverPlanned Says bytes s m engines) r
never_shut Says bytes s m engines (Ok o) says = open_says Says bytes s m engines (Ok (left_of o)) says
never_shut Says bytes s m engines (Err fault) (inl wants) = inl wants
never_shut Says bytes s m engines (Err fault) (inr says) = inr (open_says Says bytes s m engines (Err fault) says)

-- the history of a run is one of the planned pieces
pub engines_have_run : (bytes : List ℕ) (s : Limits) (m : Memory) (engines : ℕ) (p : Submission) (r : Result Outcome PlanFault) → Plans bytes s (Ok p) →
    IfOk r (λ o. IsOutcomeOf (room_with m p.plan (map fields p.pieces) engines o.history.items) o) →
    IfOk r (λ o. (q : Submission) → Plans bytes s (Ok q) → IsOutcomeOf (room_with m q.plan (map fields q.pieces) engines o.history.items) o)
engines_have_run bytes s m engines p (Ok o) plans has =
    λ q plans'. let both : ◌≡◌ {A = Result Submission PlanFault} (Ok p) (Ok q) = one_planned bytes s (Ok p) (Ok q) plans plans' in
    let same : p ≡ q = cc in
    subst (λ (x : Submission). IsOutcomeOf (room_with m x.plan (map fields x.pieces) engines o.history.items) o) same has
engines_have_run bytes s m engines p (Err fault) plans has = tt

-- ---- one outcome

pub one_replayed : OneReplayed
one_replayed bytes s m engines trace o q =
    one_over_planned (λ a b. a ≡ b) (λ p r. ReplaysPieces m engines trace p.plan (map fields p.pieces) r) (λ a b same. same)
    (λ p a b. one_replayed_pieces m engines trace p.plan (map fields p.pieces) a b) bytes s m engines o q

-- a run of pieces has begun
begun_pieces : (m : Memory) (engines : ℕ) (plan : Plan) (pieces : List Fields) (o : Result Left PlanFault) → RunsPieces m engines plan pieces o → HasBegun o
begun_pieces m engines plan pieces (Ok left) h = inl (left, refl)
begun_pieces m engines plan pieces (Err fault) breaks = inr (fault, refl, breaks)

-- two outcomes of one run
abbrev AgreeOrBreak : Result Left PlanFault → Result Left PlanFault → Type 0
AgreeOrBreak o q = (o ≡ q) ⊎ (HasBegun o × HasBegun q × (HasBrokenOff o ⊎ HasBrokenOff q))

-- running pieces has one outcome, unless it breaks off
one_run_pieces : (m : Memory) (engines : ℕ) (plan : Plan) (pieces : List Fields) (o q : Result Left PlanFault) → RunsPieces m engines plan pieces o → RunsPieces m engines plan pieces q →
    AgreeOrBreak o q
one_run_pieces m engines plan pieces (Ok a) (Ok b) (vs, h) (ws, k) = inl (ap Ok (left_is_one m plan pieces engines vs ws a b h k))
one_run_pieces m engines plan pieces (Ok a) (Err g) h breaks =
    inr (begun_pieces m engines plan pieces (Ok a) h, begun_pieces m engines plan pieces (Err g) breaks, inr (g, refl, breaks))
one_run_pieces m engines plan pieces (Err f) q breaks k =
    inr (begun_pieces m engines plan pieces (Err f) breaks, begun_pieces m engines plan pieces q k, inl (f, refl, breaks))

pub one_run : OneRun
one_run bytes s m engines o q =
    one_over_planned AgreeOrBreak (λ p r. RunsPieces m engines p.plan (map fields p.pieces) r) (λ a b same. inl same)
    (λ p a b. one_run_pieces m engines p.plan (map fields p.pieces) a b) bytes s m engines o q

pub replays_follow_plans : ReplaysFollowPlans
replays_follow_plans bytes s m engines trace p o plans replays = follows_plan (λ q r. ReplaysPieces m engines trace q.plan (map fields q.pieces) r) bytes s m engines p o plans replays

pub runs_follow_plans : RunsFollowPlans
runs_follow_plans bytes s m engines p o plans runs = follows_plan (λ q r. RunsPieces m engines q.plan (map fields q.pieces) r) bytes s m engines p o plans runs

pub planned_runs_leave_whole : PlannedRunsLeaveWhole
planned_runs_leave_whole bytes s p m engines history state within plans holds run =
    let least = (planned_is_least_and_shown bytes s p plans).least in
    let count : length p.pieces ≡ length (map fields p.pieces) = omega (arith, length-map p.pieces fields) in
    let legal = subst (λ (n : ℕ). IsLegal (ConflictAt (map fields p.pieces)) s.greatest_batch n p.plan) count least.legal in
    let ended = every_run_is_in_order s.greatest_batch p.pieces p.plan m engines history state (record { legal = legal; holds = holds }) run in
    let left : Left = record { image = state.memory; finished = ended.0; batch_records = batch_records p.plan ended.0 (statuses (map fields p.pieces) m) } in
    let outcome : IsOutcome (room_with m p.plan (map fields p.pieces) engines history) left.image left.finished left.batch_records =
    record { over = (state, run.is_run, run.complete); stops = ended.1.stops; memory = ended.1.done.memory; records_are = refl } in
    λ ds list all. (run_leaves_whole bytes s m engines history p left within plans outcome ds list all).0
