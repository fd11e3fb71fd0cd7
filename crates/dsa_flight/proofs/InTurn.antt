-- What every moment of a flight keeps, and where a complete flight ends.
use Rattle.std.proofs.Common.{◌≡◌, ℕ, zero, suc, ◌<◌, inl, inr, Bool, ◌⊎◌, IsTrue, true, false, List, [], ◌∷◌, length, map, Some, slice_get, slice_set, refl, sym, ap, ◌∙◌, subst, arith}
use Rattle.std.proofs.lemmas.Bool.{cases_eq}
use Rattle.std.proofs.lemmas.Option.{same_Some}
use Rattle.dsa_image.specs.Memory.{After, Memory, SameAddresses}
use Rattle.dsa_core.specs.Machine.{Machine, HoldsPiece, IsWithin}
use Rattle.dsa_core.specs.Run.{Setup, Progress, State, Step, IsComplete, IsFitting, state_with}
use Rattle.dsa_core.specs.Order.{statuses_in_order}
use Rattle.dsa_core.specs.StopPoint.{IsStopPoint}
use Rattle.dsa_core.specs.Laws.{IsInOrderTo}
use Rattle.dsa_core.specs.Run.Progress.{Waiting, Taken, Finished}
use Rattle.dsa_core.specs.declared.event.Event.{Event}
use Rattle.dsa_core.proofs.Bytes.{same_addresses-refl, same_addresses-trans}
use Rattle.dsa_core.proofs.Slots.{none_read, get_set_other}
use Rattle.dsa_core.proofs.Within.{holds_after}
use Rattle.dsa_core.proofs.SoFar.{Begun, ApartFrom}
use Rattle.dsa_core.proofs.Orderly.{IsOrderly, start_orderly, step_orderly}
use Rattle.dsa_core.proofs.Advance.{so_far_is_fold, same_count}
use Rattle.dsa_core.proofs.Ends.{complete_is_fold, element}
use Rattle.dsa_flight.specs.Flight.{Flight, lane_state, HasEnded, FlightStep, FlightSteps, new_lane, start_flight, IsFlight, AllEnded, WaitsCover, AllFitting}
use Rattle.dsa_flight.specs.Laws.{EndsInTurn, EveryFlightEndsInTurn, EndedIsLast}
use Rattle.dsa_flight.proofs.Pushing.{so_far_keeps, fits_after, all_fit, moves, shift}
use Rattle.dsa_flight.proofs.Ended.{ended_anywhere, no_step}

true_not_false : (b : Bool) → IsTrue b → b ≡ false → ⊥
true_not_false b t f = let wrong : true ≡ false = sym t ∙ f in cc

module _ {D P : Type 0} (machine : Machine D P) where
  -- each submission is in order from where those before it have come, and the last has come to this memory
  abbrev pub InOrder : List (Setup D) → List (List (Progress P)) → Memory → Memory → Type 0
  InOrder [] [] m end = end ≡ m
  InOrder [] (qs ∷ lanes) m end = ⊥
  InOrder (a ∷ subs) [] m end = ⊥
  InOrder (a ∷ subs) (qs ∷ lanes) m end = (mid : Memory) × IsOrderly machine a m (lane_state mid qs) × InOrder subs lanes mid end

  pub mid_same : (a : Setup D) (m mid : Memory) (qs : List (Progress P)) → IsFitting machine a m → IsOrderly machine a m (lane_state mid qs) → SameAddresses m mid
  mid_same a m mid qs fits orderly =
      subst (λ n. SameAddresses m n) (sym orderly.memory_is) (so_far_keeps machine a.pieces qs m (all_fit machine a m fits) orderly.in_step)

  fits_head : (a : Setup D) (subs : List (Setup D)) (m : Memory) → AllFitting machine (a ∷ subs) m → IsFitting machine a m
  fits_head a subs m fits = fits 0 a refl

  fits_tail : (a : Setup D) (subs : List (Setup D)) (m n : Memory) → SameAddresses m n → AllFitting machine (a ∷ subs) m → AllFitting machine subs n
  fits_tail a subs m n same fits = λ x b h. fits_after machine b m n same (fits (suc x) b h)

  -- the piece doesn't conflict with the begun pieces of these submissions
  abbrev ApartFromAll : D → List (Setup D) → List (List (Progress P)) → Type 0
  ApartFromAll d subs lanes =
      (z : ℕ) (b : Setup D) (rs : List (Progress P)) → slice_get subs z ≡ Some b → slice_get lanes z ≡ Some rs → ApartFrom machine d b.pieces rs

  record ShiftedAll {X : Type 0} (subs : List (Setup D)) (lanes : List (List (Progress P))) (m end : Memory) (f : Memory → After X) : Type 0 where
    in_order : InOrder subs lanes (f m).memory (f end).memory
    answer_is : (f end).answer ≡ (f m).answer

  shift_all :
      {X : Type 0} (subs : List (Setup D)) (lanes : List (List (Progress P))) (m end : Memory) (d : D) (f : Memory → After X) →
      IsWithin machine d f → HoldsPiece machine m d → AllFitting machine subs m → ApartFromAll d subs lanes →
      InOrder subs lanes m end → ShiftedAll subs lanes m end f
  shift_all [] [] m end d f within held fits apart order =
      record { in_order = ap (λ n. (f n).memory) order; answer_is = ap (λ n. (f n).answer) order }
  shift_all [] (qs ∷ lanes) m end d f within held fits apart order = absurd order
  shift_all (a ∷ subs) [] m end d f within held fits apart order = absurd order
  shift_all (a ∷ subs) (qs ∷ lanes) m end d f within held fits apart order =
      let mid : Memory = order.0 in
      let fits_a = fits_head a subs m fits in
      let same : SameAddresses m mid = mid_same a m mid qs fits_a order.1 in
      let first = shift machine a m mid qs d f within held fits_a (apart 0 a qs refl refl) order.1 in
      let rest = shift_all subs lanes mid end d f within (holds_after machine d m mid same held) (fits_tail a subs m mid same fits) (λ z. apart (suc z)) order.2 in
      record { in_order = ((f mid).memory, first.orderly, rest.in_order); answer_is = rest.answer_is ∙ first.answer_is }

  -- the piece of this event doesn't conflict with the begun pieces of the submissions after y
  abbrev ApartAfter : Setup D → Event → ℕ → List (Setup D) → List (List (Progress P)) → Type 0
  ApartAfter a v y subs lanes =
      (d : D) → slice_get a.pieces v.piece ≡ Some d → (z : ℕ) (b : Setup D) (rs : List (Progress P)) → y < z →
      slice_get subs z ≡ Some b → slice_get lanes z ≡ Some rs → ApartFrom machine d b.pieces rs

  advance_first :
      (a : Setup D) (qs : List (Progress P)) (subs : List (Setup D)) (lanes : List (List (Progress P))) (m end : Memory) (v : Event) (new : State P) →
      AllFitting machine (a ∷ subs) m → InOrder (a ∷ subs) (qs ∷ lanes) m end → Step machine a (lane_state end qs) v new →
      ApartAfter a v 0 (a ∷ subs) (qs ∷ lanes) → InOrder (a ∷ subs) (new.progress ∷ lanes) m new.memory
  advance_first a qs subs lanes m end v new fits order step apart =
      let mid : Memory = order.0 in
      let fits_a = fits_head a subs m fits in
      let same : SameAddresses m mid = mid_same a m mid qs fits_a order.1 in
      let to = moves machine a end m qs v new fits_a order.1.in_step step in
      let d : D = to.moves.piece in
      let f : Memory → After (Progress P) = to.moves.f in
      let here = step_orderly machine a m (lane_state mid qs) (state_with (lane_state mid qs) v.piece (f mid).answer (f mid).memory) v fits_a order.1 (to.moves.can mid) in
      let held = holds_after machine d m mid same (fits_a.held v.piece d to.moves.is_piece) in
      let rest = shift_all subs lanes mid end d f to.moves.within held (fits_tail a subs m mid same fits) (λ z b rs. apart d to.moves.is_piece (suc z) b rs (omega arith)) order.2 in
      let here' : IsOrderly machine a m (lane_state (f mid).memory (slice_set qs v.piece (f end).answer)) =
      subst (λ q. IsOrderly machine a m (lane_state (f mid).memory (slice_set qs v.piece q))) (sym rest.answer_is) here in
      let all : InOrder (a ∷ subs) (slice_set qs v.piece (f end).answer ∷ lanes) m (f end).memory = ((f mid).memory, here', rest.in_order) in
      subst (λ t. InOrder (a ∷ subs) (t.progress ∷ lanes) m t.memory) (sym to.new_is) all

  advance :
      (subs : List (Setup D)) (lanes : List (List (Progress P))) (m end : Memory) (y : ℕ) (a : Setup D) (qs : List (Progress P)) (v : Event) (new : State P) →
      AllFitting machine subs m → InOrder subs lanes m end → slice_get subs y ≡ Some a → slice_get lanes y ≡ Some qs →
      Step machine a (lane_state end qs) v new → ApartAfter a v y subs lanes → InOrder subs (slice_set lanes y new.progress) m new.memory
  advance [] lanes m end y a qs v new fits order is_sub is_lane step apart = absurd (none_read y a is_sub)
  advance (b ∷ subs) [] m end y a qs v new fits order is_sub is_lane step apart = absurd order
  advance (b ∷ subs) (rs ∷ lanes) m end zero a qs v new fits order is_sub is_lane step apart =
      let a_is : a ≡ b = sym (same_Some b a is_sub) in
      let q_is : qs ≡ rs = sym (same_Some rs qs is_lane) in
      let step' : Step machine b (lane_state end rs) v new = subst (λ x. Step machine x (lane_state end rs) v new) a_is (subst (λ x. Step machine a (lane_state end x) v new) q_is step) in
      let apart' : ApartAfter b v 0 (b ∷ subs) (rs ∷ lanes) = subst (λ x. ApartAfter x v 0 (b ∷ subs) (rs ∷ lanes)) a_is apart in
      advance_first b rs subs lanes m end v new fits order step' apart'
  advance (b ∷ subs) (rs ∷ lanes) m end (suc y) a qs v new fits order is_sub is_lane step apart =
      let mid : Memory = order.0 in
      let same : SameAddresses m mid = mid_same b m mid rs (fits_head b subs m fits) order.1 in
      (mid, order.1, advance subs lanes mid end y a qs v new (fits_tail b subs m mid same fits) order.2 is_sub is_lane step (λ d h z c ts lt. apart d h (suc z) c ts (omega arith)))

  -- memory has the same addresses at the end
  pub same_to_end : (subs : List (Setup D)) (lanes : List (List (Progress P))) (m end : Memory) → AllFitting machine subs m → InOrder subs lanes m end → SameAddresses m end
  same_to_end [] [] m end fits order = subst (λ n. SameAddresses m n) (sym order) (same_addresses-refl m)
  same_to_end [] (qs ∷ lanes) m end fits order = absurd order
  same_to_end (a ∷ subs) [] m end fits order = absurd order
  same_to_end (a ∷ subs) (qs ∷ lanes) m end fits order =
      let mid : Memory = order.0 in
      let same : SameAddresses m mid = mid_same a m mid qs (fits_head a subs m fits) order.1 in
      same_addresses-trans m mid end same (same_to_end subs lanes mid end (fits_tail a subs m mid same fits) order.2)

  -- each submission by itself
  pub record LaneOrderly (a : Setup D) (qs : List (Progress P)) : Type 0 where
    pub from : Memory
    pub to : Memory
    pub fits : IsFitting machine a from
    pub orderly : IsOrderly machine a from (lane_state to qs)

  pub lane_orderly :
      (subs : List (Setup D)) (lanes : List (List (Progress P))) (m end : Memory) (y : ℕ) (a : Setup D) (qs : List (Progress P)) →
      AllFitting machine subs m → InOrder subs lanes m end → slice_get subs y ≡ Some a → slice_get lanes y ≡ Some qs → LaneOrderly a qs
  lane_orderly [] lanes m end y a qs fits order is_sub is_lane = absurd (none_read y a is_sub)
  lane_orderly (b ∷ subs) [] m end y a qs fits order is_sub is_lane = absurd order
  lane_orderly (b ∷ subs) (rs ∷ lanes) m end zero a qs fits order is_sub is_lane =
      let here : LaneOrderly b rs = record { from = m; to = order.0; fits = fits_head b subs m fits; orderly = order.1 } in
      subst (λ x. LaneOrderly x qs) (same_Some b a is_sub) (subst (λ x. LaneOrderly b x) (same_Some rs qs is_lane) here)
  lane_orderly (b ∷ subs) (rs ∷ lanes) m end (suc y) a qs fits order is_sub is_lane =
      let mid : Memory = order.0 in
      let same : SameAddresses m mid = mid_same b m mid rs (fits_head b subs m fits) order.1 in
      lane_orderly subs lanes mid end y a qs (fits_tail b subs m mid same fits) order.2 is_sub is_lane

  ends_in_turn :
      (subs : List (Setup D)) (goes : ℕ → Bool) (lanes : List (List (Progress P))) (m end now : Memory) → AllFitting machine subs m → InOrder subs lanes m end →
      ((x : ℕ) (a : Setup D) (qs : List (Progress P)) → slice_get subs x ≡ Some a → slice_get lanes x ≡ Some qs → IsTrue (goes x) → IsComplete a (lane_state now qs)) →
      ((x : ℕ) (qs : List (Progress P)) (i : ℕ) (q : Progress P) → slice_get lanes x ≡ Some qs → slice_get qs i ≡ Some q → Begun q → IsTrue (goes x)) →
      EndsInTurn machine goes subs lanes m end
  ends_in_turn [] goes [] m end now fits order ended begun = order
  ends_in_turn [] goes (qs ∷ lanes) m end now fits order ended begun = absurd order
  ends_in_turn (a ∷ subs) goes [] m end now fits order ended begun = absurd order
  ends_in_turn (a ∷ subs) goes (qs ∷ lanes) m end now fits order ended begun =
      (mid, first.0, first.1, first.2, ends_in_turn subs (λ x. goes (suc x)) lanes mid end now (fits_tail a subs m mid same fits) order.2 (λ x. ended (suc x)) (λ x. begun (suc x)))
    where
      mid : Memory
      mid = order.0

      fits_a : IsFitting machine a m
      fits_a = fits_head a subs m fits

      same : SameAddresses m order.0
      same = mid_same a m order.0 qs fits_a order.1

      waits_at : (i : ℕ) → goes 0 ≡ false → i < length qs → slice_get qs i ≡ Some Waiting
      waits_at i still lt = by (element qs i lt)
        where
          by : ((q : Progress P) × (slice_get qs i ≡ Some q)) → slice_get qs i ≡ Some Waiting
          by (Waiting, h) = h
          by (Taken e t p, h) = absurd (true_not_false (goes 0) (begun 0 qs i (Taken e t p) refl h tt) still)
          by (Finished st, h) = absurd (true_not_false (goes 0) (begun 0 qs i (Finished st) refl h tt) still)

      none_below : (i : ℕ) → i < 0 → (st : ℕ) × (slice_get qs i ≡ Some (Finished st))
      none_below i lt = absurd (omega (arith, lt))

      left : goes 0 ≡ false → IsInOrderTo machine a m 0 (lane_state order.0 qs)
      left still =
          record {
            memory_is = order.1.memory_is ∙ so_far_is_fold machine 0 a.pieces qs m order.1.in_step none_below (λ i le lt. waits_at i still lt);
            below = λ i lt. absurd (omega (arith, lt));
            beyond = λ i le lt. waits_at i still (omega (arith, lt, same_count machine a.pieces qs m order.1.in_step));
          }

      cases : (b : Bool) → goes 0 ≡ b →
          (k : ℕ)
          × (IsTrue (goes 0) × IsStopPoint a.epoch (statuses_in_order machine a.pieces m) k ⊎ (goes 0 ≡ false) × (k ≡ 0))
          × IsInOrderTo machine a m k (lane_state order.0 qs)
      cases true e =
          let fold = complete_is_fold machine a m (lane_state order.0 qs) fits_a order.1 (ended_anywhere a now order.0 qs (ended 0 a qs refl refl e)) in
          (fold.0, inl (e, fold.1), fold.2)
      cases false e =
          (0, inr (e, refl), left e)

      first :
          (k : ℕ)
          × (IsTrue (goes 0) × IsStopPoint a.epoch (statuses_in_order machine a.pieces m) k ⊎ (goes 0 ≡ false) × (k ≡ 0))
          × IsInOrderTo machine a m k (lane_state order.0 qs)
      first = cases (goes 0) refl

-- a piece of the submission has begun
pub record HasBegun {P : Type 0} (s : Flight P) (y : ℕ) : Type 0 where
  pub lane : List (Progress P)
  pub is_lane : slice_get s.lanes y ≡ Some lane
  pub piece : ℕ
  pub progress : Progress P
  pub is_progress : slice_get lane piece ≡ Some progress
  pub begun : Begun progress

-- what every moment of a flight keeps: all is in order, and what a begun submission waits for has ended
pub record IsKept {D P : Type 0} (machine : Machine D P) (subs : List (Setup D)) (goes : ℕ → Bool) (waits : ℕ → ℕ → Bool) (m : Memory) (s : Flight P) : Type 0 where
  pub in_order : InOrder machine subs s.lanes m s.memory
  pub begun_goes : (y : ℕ) → HasBegun s y → IsTrue (goes y)
  pub gated : (x y : ℕ) → IsTrue (waits x y) → HasBegun s y → HasEnded subs s x

module _ {D P : Type 0} (machine : Machine D P) (subs : List (Setup D)) (goes : ℕ → Bool) (waits : ℕ → ℕ → Bool) (m : Memory) (fits : AllFitting machine subs m) (cover : WaitsCover machine subs goes waits) where
  start_in_order : (bs : List (Setup D)) (n : Memory) → InOrder machine bs (map (new_lane machine) bs) n n
  start_in_order [] n = refl
  start_in_order (b ∷ bs) n =
      let start = start_orderly machine b n in
      (n, record { in_step = start.in_step; memory_is = start.memory_is; earlier = start.earlier }, start_in_order bs n)

  none_begun : (bs : List (Setup D)) (y : ℕ) (qs : List (Progress P)) (i : ℕ) (q : Progress P) → slice_get (map (new_lane machine) bs) y ≡ Some qs → slice_get qs i ≡ Some q → Begun q → ⊥
  none_begun [] y qs i q h k b = none_read y qs h
  none_begun (c ∷ bs) zero qs i q h k b =
      let same : new_lane machine c ≡ qs = same_Some (new_lane machine c) qs h in
      all_waiting c.pieces i q (subst (λ x. slice_get x i ≡ Some q) (sym same) k) b
    where
      all_waiting : (ds : List D) (i : ℕ) (q : Progress P) → slice_get (map (λ d. Waiting) ds) i ≡ Some q → Begun q → ⊥
      all_waiting [] i q h b = none_read i q h
      all_waiting (d ∷ ds) zero q h b = subst Begun (sym (same_Some Waiting q h)) b
      all_waiting (d ∷ ds) (suc i) q h b = all_waiting ds i q h b
  none_begun (c ∷ bs) (suc y) qs i q h k b = none_begun bs y qs i q h k b

  pub start_kept : IsKept machine subs goes waits m (start_flight machine subs m)
  start_kept =
      record {
        in_order = start_in_order subs m;
        begun_goes = λ y begun. absurd (none_begun subs y begun.lane begun.piece begun.progress begun.is_lane begun.is_progress begun.begun);
        gated = λ x y w begun. absurd (none_begun subs y begun.lane begun.piece begun.progress begun.is_lane begun.is_progress begun.begun);
      }

  -- a submission that has ended makes no step
  pub ended_is_last : (s new : Flight P) (y : ℕ) (v : Event) → IsKept machine subs goes waits m s → HasEnded subs s y → FlightStep machine subs goes waits s y v new → ⊥
  ended_is_last s new y v kept ended step =
      let a_is : ended.setup ≡ step.setup = same_Some ended.setup step.setup (sym ended.is_sub ∙ step.is_sub) in
      let q_is : ended.lane ≡ step.lane = same_Some ended.lane step.lane (sym ended.is_lane ∙ step.is_lane) in
      let complete : IsComplete step.setup (lane_state s.memory step.lane) =
      subst (λ x. IsComplete x (lane_state s.memory step.lane)) a_is (subst (λ x. IsComplete ended.setup (lane_state s.memory x)) q_is ended.complete) in
      let lane = lane_orderly machine subs s.lanes m s.memory y step.setup step.lane fits kept.in_order step.is_sub step.is_lane in
      no_step machine step.setup lane.from lane.to s.memory step.lane lane.orderly complete v step.stepped step.step

  -- and another one's step leaves it ended
  pub still_ended : (s new : Flight P) (x y : ℕ) (v : Event) → IsKept machine subs goes waits m s → FlightStep machine subs goes waits s y v new → HasEnded subs s x → HasEnded subs new x
  still_ended s new x y v kept step ended =
      elim (cases_eq x y) [
        | inl e ↦ absurd (ended_is_last s new y v kept (subst (λ z. HasEnded subs s z) e ended) step)
        | inr ne ↦
            let other : HasEnded {P = P} subs (record { memory = step.stepped.memory; lanes = slice_set s.lanes y step.stepped.progress }) x =
            record {
              setup = ended.setup;
              is_sub = ended.is_sub;
              lane = ended.lane;
              is_lane = get_set_other s.lanes y x step.stepped.progress ne ∙ ended.is_lane;
              complete = ended_anywhere ended.setup s.memory step.stepped.memory ended.lane ended.complete;
            } in
            subst (λ t. HasEnded subs t x) (sym step.after) other
      ]

  pub step_kept : (s new : Flight P) (y : ℕ) (v : Event) → IsKept machine subs goes waits m s → FlightStep machine subs goes waits s y v new → IsKept machine subs goes waits m new
  step_kept s new y v kept step =
      record {
        in_order =
            subst (λ t. InOrder machine subs t.lanes m t.memory) (sym step.after)
            (advance machine subs s.lanes m s.memory y step.setup step.lane v step.stepped fits kept.in_order step.is_sub step.is_lane step.step apart);
        begun_goes = λ z begun.
            elim (cases_eq z y) [
              | inl e ↦ subst (λ n. IsTrue (goes n)) (sym e) step.not_withdrawn
              | inr ne ↦ kept.begun_goes z (begun_before z ne begun)
            ];
        gated = λ x z w begun. still_ended s new x y v kept step (gated_before x z w begun);
      }
    where
      apart : ApartAfter machine step.setup v y subs s.lanes
      apart d is_d z b rs lt is_b is_rs j e q is_e is_q begun conflict =
          let w = cover y z step.setup b lt step.not_withdrawn step.is_sub is_b (record { i = v.piece; j = j; d = d; e = e; is_d = is_d; is_e = is_e; conflict = conflict }) in
          ended_is_last s new y v kept (kept.gated y z w (record { lane = rs; is_lane = is_rs; piece = j; progress = q; is_progress = is_q; begun = begun })) step

      begun_before : (z : ℕ) → (z ≡ y → ⊥) → HasBegun new z → HasBegun s z
      begun_before z ne begun =
          let same : slice_get s.lanes z ≡ slice_get new.lanes z = sym (ap (λ t. slice_get t.lanes z) step.after ∙ get_set_other s.lanes y z step.stepped.progress ne) in
          record { lane = begun.lane; is_lane = same ∙ begun.is_lane; piece = begun.piece; progress = begun.progress; is_progress = begun.is_progress; begun = begun.begun }

      gated_before : (x z : ℕ) → IsTrue (waits x z) → HasBegun new z → HasEnded subs s x
      gated_before x z w begun =
          elim (cases_eq z y) [
            | inl e ↦ step.heeds x (subst (λ n. IsTrue (waits x n)) e w)
            | inr ne ↦ kept.gated x z w (begun_before z ne begun)
          ]

  steps_kept : (vs : List (ℕ × Event)) (s new : Flight P) → IsKept machine subs goes waits m s → FlightSteps machine subs goes waits s vs new → IsKept machine subs goes waits m new
  steps_kept [] s new kept steps = subst (λ t. IsKept machine subs goes waits m t) (sym steps) kept
  steps_kept (v ∷ vs) s new kept steps = steps_kept vs steps.0 new (step_kept s steps.0 v.0 v.1 kept steps.1) steps.2

  pub flight_kept : (vs : List (ℕ × Event)) (s : Flight P) → IsFlight machine subs goes waits m vs s → IsKept machine subs goes waits m s
  flight_kept vs s flight = steps_kept vs (start_flight machine subs m) s start_kept flight

  pub kept_ends : (s : Flight P) → IsKept machine subs goes waits m s → AllEnded subs goes s → EndsInTurn machine goes subs s.lanes m s.memory
  kept_ends s kept ended =
      ends_in_turn machine subs goes s.lanes m s.memory s.memory fits kept.in_order
      (λ x a qs is_sub is_lane going.
      let one = ended x a is_sub going in
      let a_is : one.setup ≡ a = same_Some one.setup a (sym one.is_sub ∙ is_sub) in
      let q_is : one.lane ≡ qs = same_Some one.lane qs (sym one.is_lane ∙ is_lane) in
      subst (λ b. IsComplete b (lane_state s.memory qs)) a_is (subst (λ r. IsComplete one.setup (lane_state s.memory r)) q_is one.complete))
      (λ x qs i q is_lane is_q begun. kept.begun_goes x (record { lane = qs; is_lane = is_lane; piece = i; progress = q; is_progress = is_q; begun = begun }))

  pub flight_ends : (vs : List (ℕ × Event)) (s : Flight P) → IsFlight machine subs goes waits m vs s → AllEnded subs goes s → EndsInTurn machine goes subs s.lanes m s.memory
  flight_ends vs s flight ended = kept_ends s (flight_kept vs s flight) ended

  pub flight_last : (vs : List (ℕ × Event)) (s new : Flight P) (y : ℕ) (v : Event) → IsFlight machine subs goes waits m vs s → HasEnded subs s y → FlightStep machine subs goes waits s y v new → ⊥
  flight_last vs s new y v flight ended step = ended_is_last s new y v (flight_kept vs s flight) ended step

pub every_flight_ends_in_turn : {D P : Type 0} (machine : Machine D P) → EveryFlightEndsInTurn machine
every_flight_ends_in_turn machine subs goes waits m vs s fits cover flight ended = flight_ends machine subs goes waits m fits cover vs s flight ended

pub ended_has_no_step : {D P : Type 0} (machine : Machine D P) → EndedIsLast machine
ended_has_no_step machine subs goes waits m vs s new y v fits cover flight ended step = flight_last machine subs goes waits m fits cover vs s new y v flight ended step
