-- Runs of pieces of any kind, by the laws of runs and of their work.
use Rattle.std.proofs.Common.{◌≡◌, ℕ, ◌<◌, List, length, take, Some, slice_get, sym, ap, ◌∙◌, subst}
use Rattle.std.specs.List.{All}
use Rattle.std.proofs.Math.Seq.{take-length}
use Rattle.std.proofs.lemmas.List.Elements.{All-take}
use Rattle.std.proofs.lemmas.Option.{slice_get_within, get_or_from_slice_get}
use Rattle.dsa_image.specs.Memory.{Memory}
use Rattle.dsa_settings.specs.Plan.{Plan}
use Rattle.dsa_settings.specs.Epochs.{epoch_of}
use Rattle.dsa_settings.proofs.Epochs.{epochs_follow}
use Rattle.dsa_core.specs.declared.event.Event.{Event}
use Rattle.dsa_core.specs.Machine.{HoldsPiece}
use Rattle.dsa_core.specs.Order.{statuses_in_order}
use Rattle.dsa_core.specs.Run.{Setup, State, IsFitting, events_in_order}
use Rattle.dsa_core.specs.StopPoint.{IsStopPoint, AllSucceed}
use Rattle.dsa_core.specs.Epochs.{setup_of}
use Rattle.dsa_core.specs.Laws.{IsInOrderTo}
use Rattle.dsa_core.specs.BatchRecords.{batch_records, records_of_plan, records_shown, finished_statuses}
use Rattle.dsa_core.specs.Work.{IsWork, Work}
use Rattle.dsa_core.specs.WorkRuns.{CanWork, HasWorkedFirst, IsCompleteWorkRun, IsWorkRun, WorkEndsInOrder}
use Rattle.dsa_core.proofs.Advance.{statuses_count, same_count}
use Rattle.dsa_core.proofs.Orderly.{run_orderly}
use Rattle.dsa_core.proofs.Ends.{every_run_ends_in_order}
use Rattle.dsa_core.proofs.StopPoint.{a_stop_point_exists, all_succeed_end, stop_points_agree}
use Rattle.dsa_core.proofs.InOrder.{in_order_is_complete}
use Rattle.dsa_core.proofs.Epochs.{legal_plans_separate}
use Rattle.dsa_core.proofs.Shown.{progress_is, records_of_shown, same_shown, shown}

-- what holds of all holds at each place
pub at_place : {D : Type 0} (P : D → Type 0) (ds : List D) (i : ℕ) (d : D) → All P ds → slice_get ds i ≡ Some d → P d
at_place P ds i d all h = subst P (get_or_from_slice_get ds i d d h) (all i d (slice_get_within ds i d h))

module _ {P D A I O : Type 0} (work : Work P D A I O) (fine : IsWork work) (greatest_batch : ℕ) (pieces : List D) (plan : Plan) (m : Memory) (engines : ℕ) (listed : All work.listed pieces) (can : CanWork work.machine greatest_batch pieces plan m) where
  abbrev setup : Setup D
  setup = setup_of plan pieces engines

  -- what is asked of a run's start
  pub fits : IsFitting work.machine setup m
  fits =
      record {
        held = λ i d h. at_place (HoldsPiece work.machine m) pieces i d can.holds h;
        local = λ i d h. fine.local d;
        separated = legal_plans_separate work.machine greatest_batch plan pieces engines can.legal;
      }

  pub status_count : length (work.statuses pieces m) ≡ length pieces
  status_count = ap length (sym (fine.statuses_are pieces m listed)) ∙ statuses_count work.machine pieces m

  in_listed : (k : ℕ) (s : State A) → IsInOrderTo work.machine setup m k s → HasWorkedFirst work.executed work.statuses pieces m k s
  in_listed k s done =
      record {
        memory = done.memory_is ∙ fine.memory_is (take k pieces) m (All-take work.listed k pieces listed);
        finished = λ i lt.
            let there = done.below i lt in
            (there.0, there.1, ap (λ xs. slice_get xs i) (sym (fine.statuses_are pieces m listed)) ∙ there.2);
        waiting = done.beyond;
      }

  -- each piece has its progress
  pub progress_count : (events : List Event) (s : State A) → IsWorkRun work.machine plan pieces engines m events s → length s.progress ≡ length pieces
  progress_count events s run =
      same_count work.machine pieces s.progress m (run_orderly work.machine setup m events s fits run).in_step

  -- where just the first k are finished, this is what the progress is
  pub progress_shown : (events : List Event) (s : State A) (k : ℕ) → IsWorkRun work.machine plan pieces engines m events s → HasWorkedFirst work.executed work.statuses pieces m k s → (r : ℕ) × (s.progress ≡ shown A (take k (work.statuses pieces m)) r)
  progress_shown events s k run done =
      let count = progress_count events s run in
      progress_is A s.progress (work.statuses pieces m) k (count ∙ sym status_count) done.finished
      (λ i le lt. done.waiting i le (subst (λ n. i < n) count lt))

  -- and the batch records are those of their statuses
  pub shown_records : (events : List Event) (s : State A) (k : ℕ) → IsWorkRun work.machine plan pieces engines m events s → HasWorkedFirst work.executed work.statuses pieces m k s → records_shown plan s.progress ≡ batch_records plan k (work.statuses pieces m)
  shown_records events s k run done =
      let (r, e) = progress_shown events s k run done in
      ap (λ qs. records_of_plan finished_statuses plan qs) e ∙ records_of_shown A plan (take k (work.statuses pieces m)) r

  pub in_order : (events : List Event) (s : State A) → IsCompleteWorkRun work.machine plan pieces engines m events s → (k : ℕ) × WorkEndsInOrder work.executed work.statuses plan pieces m k s
  in_order events s run =
      let (k, stop, ended) = every_run_ends_in_order work.machine setup m events s fits run.is_run run.complete in
      let done : HasWorkedFirst work.executed work.statuses pieces m k s = in_listed k s ended in (
        k,
        record {
          stops = subst (λ xs. IsStopPoint (epoch_of plan) xs k) (fine.statuses_are pieces m listed) stop;
          done = done;
          records = shown_records events s k run.is_run done;
        },
      )

  -- where all succeed, all are done
  pub whole : (events : List Event) (s : State A) → IsCompleteWorkRun work.machine plan pieces engines m events s → AllSucceed (work.statuses pieces m) → WorkEndsInOrder work.executed work.statuses plan pieces m (length pieces) s × (s.memory ≡ work.executed pieces m)
  whole events s run all =
      let (k, ended) = in_order events s run in
      let k_is : k ≡ length pieces = all_succeed_end (epoch_of plan) (work.statuses pieces m) k all ended.stops ∙ status_count in (
        subst (λ n. WorkEndsInOrder work.executed work.statuses plan pieces m n s) k_is ended,
        ended.done.memory ∙ ap (λ n. work.executed (take n pieces) m) k_is ∙ ap (λ ps. work.executed ps m) (take-length pieces),
      )

  pub exists : 0 < engines → (events : List Event) × (s : State A) × IsCompleteWorkRun work.machine plan pieces engines m events s
  exists some =
      let stop = a_stop_point_exists (epoch_of plan) (statuses_in_order work.machine pieces m) (λ i j le lt. epochs_follow plan i j le) in
      let run = in_order_is_complete work.machine setup m stop.0 0 fits stop.1 some in
      (events_in_order work.machine 0 0 (take stop.0 pieces), run.0, record { is_run = run.1; complete = run.2 })

-- two complete runs of the same pieces leave the same state
module _ {P D A I O : Type 0} (work : Work P D A I O) (fine : IsWork work) (greatest_batch : ℕ) (pieces : List D) (plan : Plan) (m : Memory) (engines engines' : ℕ) (listed : All work.listed pieces) (can : CanWork work.machine greatest_batch pieces plan m) where
  pub agree : (events events' : List Event) (s s' : State A) → IsCompleteWorkRun work.machine plan pieces engines m events s → IsCompleteWorkRun work.machine plan pieces engines' m events' s' → s ≡ s'
  agree events events' s s' run run' =
      let (k, ended) = in_order work fine greatest_batch pieces plan m engines listed can events s run in
      let (l, ended') = in_order work fine greatest_batch pieces plan m engines' listed can events' s' run' in
      let same : l ≡ k = stop_points_agree (epoch_of plan) (work.statuses pieces m) l k ended'.stops ended.stops in
      let done' : HasWorkedFirst work.executed work.statuses pieces m k s' = subst (λ n. HasWorkedFirst work.executed work.statuses pieces m n s') same ended'.done in
      let (r, shows) = progress_shown work fine greatest_batch pieces plan m engines listed can events s k run.is_run ended.done in
      let (r', shows') = progress_shown work fine greatest_batch pieces plan m engines' listed can events' s' k run'.is_run done' in
      let count = progress_count work fine greatest_batch pieces plan m engines listed can events s run.is_run in
      let count' = progress_count work fine greatest_batch pieces plan m engines' listed can events' s' run'.is_run in
      let progress : s.progress ≡ s'.progress = same_shown A (take k (work.statuses pieces m)) r r' s.progress s'.progress shows shows' (count ∙ sym count') in
      let memory : s.memory ≡ s'.memory = ended.done.memory ∙ sym done'.memory in
      λ i. record { memory = memory i; progress = progress i }
