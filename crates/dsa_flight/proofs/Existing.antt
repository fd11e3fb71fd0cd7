-- Complete flights exist: one submission after another.
use Rattle.std.proofs.Common.{◌≡◌, ℕ, zero, suc, ◌<◌, ◌≤◌, ◌⊎◌, inl, inr, Bool, true, false, IsTrue, List, [], ◌∷◌, ◌++◌, length, map, take, Option, Some, slice_get, slice_set, refl, sym, ap, ◌∙◌, subst, arith}
use Rattle.std.proofs.lemmas.Bool.{cases_eq}
use Rattle.std.proofs.lemmas.Option.{same_Some, slice_get_within}
use Rattle.dsa_image.specs.Memory.{Memory, SameAddresses}
use Rattle.dsa_core.specs.Machine.{Machine}
use Rattle.dsa_core.specs.Order.{statuses_in_order}
use Rattle.dsa_core.specs.Run.{Setup, Progress, State, Steps, IsComplete, IsFitting, start_state, events_in_order}
use Rattle.dsa_core.specs.declared.event.Event.{Event}
use Rattle.dsa_core.proofs.Advance.{statuses_count}
use Rattle.dsa_core.proofs.Bytes.{same_addresses-refl, same_addresses-trans}
use Rattle.dsa_core.proofs.Ends.{element}
use Rattle.dsa_core.proofs.InOrder.{in_order_is_complete}
use Rattle.dsa_core.proofs.Orderly.{run_orderly}
use Rattle.dsa_core.proofs.Slots.{none_read, get_set_same, get_set_other}
use Rattle.dsa_core.proofs.StopPoint.{a_stop_point_exists}
use Rattle.dsa_flight.specs.Flight.{Flight, lane_state, HasEnded, FlightStep, FlightSteps, new_lane, start_flight, IsFlight, AllFitting}
use Rattle.dsa_flight.specs.Laws.{AllHaveEngines, WaitsLookBack, CompleteFlightsExist}
use Rattle.dsa_flight.proofs.Ended.{ended_anywhere}
use Rattle.dsa_flight.proofs.InTurn.{mid_same}
use Rattle.dsa_flight.proofs.Pushing.{fits_after}

both_values : (b : Bool) → b ≡ true → b ≡ false → ⊥
both_values b t f = let wrong : true ≡ false = sym t ∙ f in cc

true_or_false : (b : Bool) → (b ≡ true) ⊎ (b ≡ false)
true_or_false true = inl refl
true_or_false false = inr refl

-- one engine does a submission alone
run_alone :
    {D P : Type 0} (machine : Machine D P) (a : Setup D) (n : Memory) → IsFitting machine a n → 0 < a.engines →
    (vs : List Event) × (t : State P) × Steps machine a (start_state machine a n) vs t × IsComplete a t × SameAddresses n t.memory
run_alone machine a n fits some =
    let stop = a_stop_point_exists a.epoch (statuses_in_order machine a.pieces n)
    (λ i j le lt. fits.separated.in_order i j le (omega (arith, lt, statuses_count machine a.pieces n))) in
    let run = in_order_is_complete machine a n stop.0 0 fits stop.1 some in
    let vs = events_in_order machine 0 0 (take stop.0 a.pieces) in
    let orderly = run_orderly machine a n vs run.0 fits run.1 in
    (vs, run.0, run.1, run.2, mid_same machine a n run.0.memory run.0.progress fits orderly)

module _ {D P : Type 0} (machine : Machine D P) (subs : List (Setup D)) (goes : ℕ → Bool) (waits : ℕ → ℕ → Bool) where
  steps_after :
      (vs ws : List (ℕ × Event)) (s t u : Flight P) → FlightSteps machine subs goes waits s vs t → FlightSteps machine subs goes waits t ws u →
      FlightSteps machine subs goes waits s (vs ++ ws) u
  steps_after [] ws s t u first rest = subst (λ x. FlightSteps machine subs goes waits x ws u) first rest
  steps_after (v ∷ vs) ws s t u first rest = (first.0, first.1, steps_after vs ws first.0 t u first.2 rest)

  -- where the steps of one submission lead a flight
  record Leads (s : Flight P) (y : ℕ) (vs : List (ℕ × Event)) (t : State P) : Type 0 where
    end : Flight P
    steps : FlightSteps machine subs goes waits s vs end
    memory_is : end.memory ≡ t.memory
    lane_is : slice_get end.lanes y ≡ Some t.progress
    others : (x : ℕ) → (x ≡ y → ⊥) → slice_get end.lanes x ≡ slice_get s.lanes x

  ended_still : (s : Flight P) (n : Memory) (x y : ℕ) (lane : List (Progress P)) → (x ≡ y → ⊥) → HasEnded subs s x → HasEnded {P = P} subs (record { memory = n; lanes = slice_set s.lanes y lane }) x
  ended_still s n x y lane ne ended =
      record {
        setup = ended.setup;
        is_sub = ended.is_sub;
        lane = ended.lane;
        is_lane = get_set_other s.lanes y x lane ne ∙ ended.is_lane;
        complete = ended_anywhere ended.setup s.memory n ended.lane ended.complete;
      }

  module _ (y : ℕ) (a : Setup D) (is_sub : slice_get subs y ≡ Some a) (going : IsTrue (goes y)) (back : (x : ℕ) → IsTrue (waits x y) → x < y) where
    lead :
        (vs : List Event) (s : Flight P) (lane : List (Progress P)) (t : State P) → slice_get s.lanes y ≡ Some lane →
        ((x : ℕ) → IsTrue (waits x y) → HasEnded subs s x) → Steps machine a (lane_state s.memory lane) vs t →
        Leads s y (map (λ v. (y, v)) vs) t
    lead [] s lane t is_lane heeds steps =
        record {
          end = s;
          steps = refl;
          memory_is = sym (ap (λ x. x.memory) steps);
          lane_is = is_lane ∙ ap {B = Option (List (Progress P))} (λ x. Some x) (sym (ap (λ (x : State P). x.progress) steps));
          others = λ x ne. refl;
        }
    lead (v ∷ vs) s lane t is_lane heeds steps =
        let mid : State P = steps.0 in
        let next : Flight P = record { memory = mid.memory; lanes = slice_set s.lanes y mid.progress } in
        let one : FlightStep machine subs goes waits s y v next =
        record {
          not_withdrawn = going;
          setup = a;
          is_sub = is_sub;
          lane = lane;
          is_lane = is_lane;
          stepped = mid;
          step = steps.1;
          heeds = heeds;
          after = refl;
        } in
        let rest = lead vs next mid.progress t (get_set_same s.lanes y lane mid.progress is_lane)
        (λ x w. let lt = back x w in ended_still s mid.memory x y mid.progress (λ e. omega (arith, lt, e)) (heeds x w)) steps.2 in
        record {
          end = rest.end;
          steps = (next, one, rest.steps);
          memory_is = rest.memory_is;
          lane_is = rest.lane_is;
          others = λ x ne. rest.others x ne ∙ get_set_other s.lanes y x mid.progress ne;
        }

module _ {D P : Type 0} (machine : Machine D P) (subs : List (Setup D)) (goes : ℕ → Bool) (waits : ℕ → ℕ → Bool) (m : Memory) (fits : AllFitting machine subs m) (engines : AllHaveEngines subs) (back : WaitsLookBack goes waits) where
  new_lane_at : (bs : List (Setup D)) (x : ℕ) (a : Setup D) → slice_get bs x ≡ Some a → slice_get (map (new_lane machine) bs) x ≡ Some (new_lane machine a)
  new_lane_at [] x a h = absurd (none_read x a h)
  new_lane_at (b ∷ bs) zero a h = ap {B = Option (List (Progress P))} (λ c. Some (new_lane machine c)) (same_Some b a h)
  new_lane_at (b ∷ bs) (suc x) a h = new_lane_at bs x a h

  -- the first k have ended, and the others have not begun
  record UpTo (k : ℕ) : Type 0 where
    events : List (ℕ × Event)
    s : Flight P
    flight : IsFlight machine subs goes waits m events s
    ended : (x : ℕ) (a : Setup D) → x < k → slice_get subs x ≡ Some a → IsTrue (goes x) → HasEnded subs s x
    untouched : (x : ℕ) → k ≤ x → slice_get s.lanes x ≡ slice_get (map (new_lane machine) subs) x
    same : SameAddresses m s.memory

  one_more : (k : ℕ) (a : Setup D) → slice_get subs k ≡ Some a → IsTrue (goes k) → UpTo k → UpTo (suc k)
  one_more k a is_sub going so_far =
      record {
        events = so_far.events ++ map (λ v. (k, v)) run.0;
        s = led.end;
        flight = steps_after machine subs goes waits so_far.events (map (λ v. (k, v)) run.0) (start_flight machine subs m) so_far.s led.end so_far.flight led.steps;
        ended = ended;
        untouched = λ x le. led.others x (λ e. omega (arith, le, e)) ∙ so_far.untouched x (omega (arith, le));
        same = subst (λ n. SameAddresses m n) (sym led.memory_is) (same_addresses-trans m so_far.s.memory run.1.memory so_far.same run.4);
      }
    where
      run : (vs : List Event) × (t : State P) × Steps machine a (start_state machine a so_far.s.memory) vs t × IsComplete a t × SameAddresses so_far.s.memory t.memory
      run = run_alone machine a so_far.s.memory (fits_after machine a m so_far.s.memory so_far.same (fits k a is_sub)) (engines k a is_sub)

      heeds : (x : ℕ) → IsTrue (waits x k) → HasEnded subs so_far.s x
      heeds x w =
          let (lt, goes_x) = back x k w in
          let b = element subs x (omega (arith, lt, slice_get_within subs k a is_sub)) in
          so_far.ended x b.0 lt b.1 goes_x

      led : Leads machine subs goes waits so_far.s k (map (λ v. (k, v)) run.0) run.1
      led =
          lead machine subs goes waits k a is_sub going (λ x w. (back x k w).0) run.0 so_far.s (new_lane machine a) run.1
          (so_far.untouched k (omega arith) ∙ new_lane_at subs k a is_sub) heeds run.2

      ended : (x : ℕ) (b : Setup D) → x < suc k → slice_get subs x ≡ Some b → IsTrue (goes x) → HasEnded subs led.end x
      ended x b lt is_b goes_x =
          elim (cases_eq x k) [
            | inl e ↦ subst (λ y. HasEnded subs led.end y) (sym e) (record { setup = a; is_sub = is_sub; lane = run.1.progress; is_lane = led.lane_is; complete = ended_anywhere a run.1.memory led.end.memory run.1.progress run.3 })
            | inr ne ↦
                let before = so_far.ended x b (omega (arith, lt, ne)) is_b goes_x in
                record {
                  setup = before.setup;
                  is_sub = before.is_sub;
                  lane = before.lane;
                  is_lane = led.others x ne ∙ before.is_lane;
                  complete = ended_anywhere before.setup so_far.s.memory led.end.memory before.lane before.complete;
                }
          ]

  left_out : (k : ℕ) (a : Setup D) → slice_get subs k ≡ Some a → goes k ≡ false → UpTo k → UpTo (suc k)
  left_out k a is_sub still so_far =
      record {
        events = so_far.events;
        s = so_far.s;
        flight = so_far.flight;
        ended = λ x b lt is_b goes_x. elim (cases_eq x k) [
          | inl e ↦ absurd (both_values (goes k) (subst (λ y. goes y ≡ true) e goes_x) still)
          | inr ne ↦ so_far.ended x b (omega (arith, lt, ne)) is_b goes_x
        ];
        untouched = λ x le. so_far.untouched x (omega (arith, le));
        same = so_far.same;
      }

  up_to : (k : ℕ) → k ≤ length subs → UpTo k
  up_to zero le =
      record {
        events = [];
        s = start_flight machine subs m;
        flight = refl;
        ended = λ x b lt is_b goes_x. absurd (omega (arith, lt));
        untouched = λ x le. refl;
        same = same_addresses-refl m;
      }
  up_to (suc k) le =
      let a = element subs k (omega (arith, le)) in
      elim (true_or_false (goes k)) [
        | inl going ↦ one_more k a.0 a.1 going (up_to k (omega (arith, le)))
        | inr still ↦ left_out k a.0 a.1 still (up_to k (omega (arith, le)))
      ]

pub complete_flights_exist : {D P : Type 0} (machine : Machine D P) → CompleteFlightsExist machine
complete_flights_exist machine subs goes waits m fits engines back =
    let all = up_to machine subs goes waits m fits engines back (length subs) (omega arith) in
    (all.events, all.s, all.flight, λ x a is_sub going. all.ended x a (slice_get_within subs x a is_sub) is_sub going)
