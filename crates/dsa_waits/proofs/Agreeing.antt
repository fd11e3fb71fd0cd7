-- What agrees with a recording without missing waits and fences heeds all conflicts.
use Rattle.std.proofs.Common.{◌≡◌, ℕ, zero, suc, ◌+◌, ◌<◌, ◌≤◌, ◌⊎◌, inl, inr, Bool, true, false, IsTrue, List, [], ◌∷◌, length, None, Some, slice_get, slice_set, refl, sym, ap, ◌∙◌, subst, arith}
use Rattle.std.specs.Prelude.{nat_lt, ◌&&◌}
use Rattle.std.proofs.lemmas.Bool.{cases_eq, cases_lt}
use Rattle.std.proofs.lemmas.Bool.Decides.{nat_tests}
use Rattle.std.proofs.lemmas.Option.{slice_get-get_or, slice_get_within}
use Rattle.dsa_image.specs.Memory.{Memory}
use Rattle.dsa_core.specs.declared.event.Event.{Event as StepEvent}
use Rattle.dsa_core.specs.Machine.{Machine}
use Rattle.dsa_core.specs.Run.{Setup}
use Rattle.dsa_flight.specs.Flight.{AllFitting, Flight, FlightStep, FlightSteps, HasEnded, WaitsCover, start_flight}
use Rattle.dsa_flight.proofs.InTurn.{IsKept, every_flight_ends_in_turn, start_kept, still_ended, step_kept}
use Rattle.dsa_audit.specs.Members.{KnownConflict}
use Rattle.dsa_waits.specs.declared.course.Course.{Course}
use Rattle.dsa_waits.specs.Agreeing.{Act, Agrees, DoesAll, EntryWorks, HeedsConflicts, MissesNoFence, MissesNoWait, Moment, NoneFound, Shows, WaitsSuffice, waits_of}
use Rattle.dsa_waits.specs.Agreeing.Act.{Comes, Works}
use Rattle.dsa_waits.specs.Waits.{IsCourse, made_at, made_before, submission_of, tells}
use Rattle.dsa_waits.proofs.Courses.{made_grows}

true_or_false : (b : Bool) → (b ≡ true) ⊎ (b ≡ false)
true_or_false true = inl refl
true_or_false false = inr refl

all_true : (a b c : Bool) → a ≡ true → b ≡ true → c ≡ true → (a && b && c) ≡ true
all_true true true true p q r = refl
all_true true true false p q r = r
all_true true false c p q r = let wrong : false ≡ true = q in absurd cc
all_true false b c p q r = let wrong : false ≡ true = p in absurd cc

parts : (a b c : Bool) → (a && b && c) ≡ true → (a ≡ true) × (b ≡ true) × (c ≡ true)
parts true true true h = (refl, refl, refl)
parts true true false h = let wrong : false ≡ true = h in absurd cc
parts true false c h = let wrong : false ≡ true = h in absurd cc
parts false b c h = let wrong : false ≡ true = h in absurd cc

is_less : (x y : ℕ) → nat_lt x y ≡ true → x < y
is_less x y h = grind (arith, nat_tests)

less_is : (x y : ℕ) → x < y → nat_lt x y ≡ true
less_is x y h = grind (arith, nat_tests)

module _ {D P : Type 0} (machine : Machine D P) (c : Course) (subs : List (Setup D)) (goes : ℕ → Bool) (meets : ℕ → ℕ → Bool) (m : Memory)
    (course : IsCourse c) (fits : AllFitting machine subs m) (shows : Shows machine c subs meets) (no_wait : MissesNoWait c) (no_fence : MissesNoFence c) where
  abbrev waits : ℕ → ℕ → Bool
  waits = waits_of meets goes

  cover : WaitsCover machine subs goes waits
  cover x y a b lt going is_a is_b conflict = all_true (meets x y) (nat_lt x y) (goes x) (shows.cover x y a b lt is_a is_b conflict) (less_is x y lt) going

  -- entries are in the order of their submissions
  in_order : (x y : ℕ) → x < y → y < length c.entries.items → submission_of c x ≤ submission_of c y
  in_order x y lt inside =
      elim (cases_lt y (made_at c.made.items (submission_of c y)).end) [
        | inl own ↦ course.own x (submission_of c y) (omega (arith, lt, inside)) (course.made y inside) (omega (arith, lt, own))
        | inr other ↦ absurd (omega (arith, course.others y (submission_of c y) inside (course.made y inside) other))
      ]

  -- an event between the makings of the submissions of two entries tells the end of the earlier
  record IsTold (x n : ℕ) : Type 0 where
    event : ℕ
    before : made_before c.events.items event ≤ n
    told : tells c event x ≡ true

  -- none of the first events does
  abbrev NoneTold : ℕ → ℕ → ℕ → Type 0
  NoneTold x n count = (k : ℕ) → k < count → submission_of c x < made_before c.events.items k → made_before c.events.items k ≤ n → tells c k x ≡ false

  -- nor does one more
  one_more : (x n count : ℕ) → NoneTold x n count → ((n < made_before c.events.items count) ⊎ (tells c count x ≡ false)) → NoneTold x n (suc count)
  one_more x n count none (inl past) k lt made le =
      elim (cases_eq k count) [
        | inl e ↦ absurd (let here : made_before c.events.items count ≤ n = subst (λ j. made_before c.events.items j ≤ n) e le in omega (arith, past, here))
        | inr ne ↦ none k (omega (arith, lt, ne)) made le
      ]
  one_more x n count none (inr untold) k lt made le =
      elim (cases_eq k count) [
        | inl e ↦ subst (λ j. tells c j x ≡ false) (sym e) untold
        | inr ne ↦ none k (omega (arith, lt, ne)) made le
      ]

  told_or_not : (x n count : ℕ) → IsTold x n ⊎ NoneTold x n count
  told_or_not x n zero = inr (λ k lt. absurd (omega (arith, lt)))
  told_or_not x n (suc count) =
      elim (told_or_not x n count) [
        | inl found ↦ inl found
        | inr none ↦
            elim (cases_lt n (made_before c.events.items count)) [
              | inl past ↦ inr (one_more x n count none (inl past))
              | inr within ↦
                  elim (true_or_false (tells c count x)) [
                    | inl told ↦ inl (record { event = count; before = within; told = told })
                    | inr untold ↦ inr (one_more x n count none (inr untold))
                  ]
            ]
      ]

  is_told : (x y : ℕ) → x < y → y < length c.entries.items → submission_of c x < submission_of c y → KnownConflict c.members.items x y → IsTold x (submission_of c y)
  is_told x y lt inside earlier conflict =
      elim (told_or_not x (submission_of c y) (length c.events.items)) [
        | inl found ↦ found
        | inr none ↦ absurd (no_wait x y lt (record { inside = omega (arith, lt, inside); before = earlier; in_flight = none; conflict = conflict }))
      ]

  -- what the events up to now told is true
  Told : Moment P → Type 0
  Told s = (k x : ℕ) → k < s.recorded → IsTrue (goes x) → IsTrue (tells c k x) → HasEnded subs s.flight x

  -- so an entry that makes a step heeds what it waits for
  heeds : (s new : Moment P) (y : ℕ) (v : StepEvent) → Told s → EntryWorks machine c subs goes s y v new → (x : ℕ) → IsTrue (waits x y) → HasEnded subs s.flight x
  unfolding Told
  heeds s new y v told works x w =
      let both = parts (meets x y) (nat_lt x y) (goes x) w in
      let lt : x < y = is_less x y both.1 in
      let inside : y < length c.entries.items = omega (arith, slice_get_within subs y works.setup works.is_sub, shows.count) in
      let conflict : KnownConflict c.members.items x y = shows.known x y both.0 in
      elim (cases_lt (submission_of c x) (submission_of c y)) [
        | inl earlier ↦
            let found = is_told x y lt inside earlier conflict in
            told found.event x (come s y works.is_made found) both.2 found.told
        | inr same ↦ works.fenced x both.2 (no_fence x y lt inside (omega (arith, same, in_order x y lt inside)) conflict)
      ]
    where
      -- that event has come
      come : (s : Moment P) (y : ℕ) → submission_of c y < made_before c.events.items s.recorded → (found : IsTold x (submission_of c y)) → found.event < s.recorded
      come s y made found =
          elim (cases_lt found.event s.recorded) [
            | inl lt ↦ lt
            | inr late ↦ absurd (omega (arith, made_grows c.events.items s.recorded found.event late, found.before, made))
          ]

  flight_step : (s new : Moment P) (y : ℕ) (v : StepEvent) → Told s → (works : EntryWorks machine c subs goes s y v new) →
      FlightStep machine subs goes waits s.flight y v (record { memory = works.stepped.memory; lanes = slice_set s.flight.lanes y works.stepped.progress })
  flight_step s new y v told works =
      record {
        not_withdrawn = works.goes_on;
        setup = works.setup;
        is_sub = works.is_sub;
        lane = works.lane;
        is_lane = works.is_lane;
        stepped = works.stepped;
        step = works.step;
        heeds = heeds s new y v told works;
        after = refl;
      }

  -- the steps of the acts
  record Steps (s t : Moment P) : Type 0 where
    events : List (ℕ × StepEvent)
    steps : FlightSteps machine subs goes waits s.flight events t.flight

  steps_of : (acts : List Act) (s t : Moment P) → IsKept machine subs goes waits m s.flight → Told s → DoesAll machine c subs goes s acts t → Steps s t
  unfolding Told
  steps_of [] s t kept told does = record { events = []; steps = ap (λ x. x.flight) does }
  steps_of (Comes ∷ acts) s t kept told (mid, comes, rest) =
      let next : Moment P = record { recorded = s.recorded + 1; flight = s.flight } in
      let more : Told next = λ k x lt going tell. elim (cases_eq k s.recorded) [
        | inl e ↦ comes.told x going (subst (λ j. IsTrue (tells c j x)) e tell)
        | inr ne ↦ told k x (omega (arith, lt, ne)) going tell
      ] in
      let later = steps_of acts next t kept more (subst (λ z. DoesAll machine c subs goes z acts t) comes.after rest) in
      record { events = later.events; steps = later.steps }
  steps_of (Works y v ∷ acts) s t kept told (mid, works, rest) =
      let flown : Flight P = record { memory = works.stepped.memory; lanes = slice_set s.flight.lanes y works.stepped.progress } in
      let next : Moment P = record { recorded = s.recorded; flight = flown } in
      let step = flight_step s mid y v told works in
      let still : Told next = λ k x lt going tell. still_ended machine subs goes waits m fits cover s.flight flown x y v kept step (told k x lt going tell) in
      let later = steps_of acts next t (step_kept machine subs goes waits m fits cover s.flight flown y v kept step) still (subst (λ z. DoesAll machine c subs goes z acts t) works.after rest) in
      record { events = (y, v) ∷ later.events; steps = (flown, step, later.steps) }

  agreeing : (acts : List Act) (s : Moment P) → Agrees machine c subs goes m acts s → HeedsConflicts machine subs meets goes m s
  unfolding Told
  agreeing acts s agrees =
      let start : Moment P = record { recorded = 0; flight = start_flight machine subs m } in
      let got = steps_of acts start s (start_kept machine subs goes waits m fits cover) (λ k x lt. absurd (omega (arith, lt))) agrees in
      record {
        events = got.events;
        heeds = got.steps;
        in_turn = λ ended. every_flight_ends_in_turn machine subs goes waits m got.events s.flight fits cover got.steps (λ x a is_a going. ended x going);
      }

pub none_found : NoneFound
none_found c waits course count lasts none x y lt missing =
    let known = missing.conflict in
    let inside : y < length waits = omega (arith, slice_get_within c.members.items y known.1 known.3, course.members, count) in
    let is : slice_get waits y ≡ Some None = slice_get-get_or waits y None inside ∙ ap Some (none y inside) in
    lasts y None is x (lt, missing)

pub waits_suffice : {D P : Type 0} (machine : Machine D P) → WaitsSuffice machine
waits_suffice machine c subs goes meets m acts s course fits shows no_wait no_fence agrees = agreeing machine c subs goes meets m course fits shows no_wait no_fence acts s agrees
