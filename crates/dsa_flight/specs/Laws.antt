-- What holds of every flight.
use Rattle.std.specs.Prelude.{◌≡◌, ℕ, suc, ◌<◌, ◌⊎◌, Bool, false, IsTrue, List, [], ◌∷◌, Some, slice_get}
use Rattle.dsa_image.specs.Memory.{Memory}
use Rattle.dsa_core.specs.Machine.{Machine}
use Rattle.dsa_core.specs.Order.{statuses_in_order}
use Rattle.dsa_core.specs.Run.{Setup, Progress}
use Rattle.dsa_core.specs.StopPoint.{IsStopPoint}
use Rattle.dsa_core.specs.Laws.{IsInOrderTo}
use Rattle.dsa_core.specs.declared.event.Event.{Event}
use Rattle.dsa_flight.specs.Flight.{Flight, lane_state, HasEnded, FlightStep, IsFlight, AllEnded, WaitsCover, AllFitting}

-- The submissions have been done in turn: from the memory m the first leads to where its pieces lead in order up to its
-- own stop point, from there the next, and so on to this memory at the end. A submission that fails stops itself alone, and
-- no piece of a withdrawn one is done (this project's choice: without more waits it can't be otherwise, since one that
-- waits for nothing may have run before another fails).
abbrev pub EndsInTurn : {D P : Type 0} → Machine D P → (ℕ → Bool) → List (Setup D) → List (List (Progress P)) → Memory → Memory → Type 0
EndsInTurn machine goes [] [] m end = end ≡ m
EndsInTurn machine goes [] (qs ∷ rest) m end = ⊥
EndsInTurn machine goes (a ∷ subs) [] m end = ⊥
EndsInTurn machine goes (a ∷ subs) (qs ∷ lanes) m end =
    (mid : Memory) × (k : ℕ)
    × (IsTrue (goes 0) × IsStopPoint a.epoch (statuses_in_order machine a.pieces m) k ⊎ (goes 0 ≡ false) × (k ≡ 0))
    × IsInOrderTo machine a m k (lane_state mid qs)
    × EndsInTurn machine (λ x. goes (suc x)) subs lanes mid end

-- every complete flight leaves what its submissions leave in turn, in the order in which they were submitted
abbrev pub EveryFlightEndsInTurn : {D P : Type 0} → Machine D P → Type 0
EveryFlightEndsInTurn {D} {P} machine =
    (subs : List (Setup D)) (goes : ℕ → Bool) (waits : ℕ → ℕ → Bool) (m : Memory) (events : List (ℕ × Event)) (s : Flight P) →
    AllFitting machine subs m → WaitsCover machine subs goes waits →
    IsFlight machine subs goes waits m events s → AllEnded subs goes s →
    EndsInTurn machine goes subs s.lanes m s.memory

-- a submission that has ended has no next step
abbrev pub EndedIsLast : {D P : Type 0} → Machine D P → Type 0
EndedIsLast {D} {P} machine =
    (subs : List (Setup D)) (goes : ℕ → Bool) (waits : ℕ → ℕ → Bool) (m : Memory) (events : List (ℕ × Event)) (s new : Flight P) (y : ℕ) (v : Event) →
    AllFitting machine subs m → WaitsCover machine subs goes waits →
    IsFlight machine subs goes waits m events s → HasEnded subs s y → FlightStep machine subs goes waits s y v new → ⊥

-- two complete flights of the same submissions from the same memory end alike, whoever did what and whatever further waits
-- each of them heeded: with the same memory and the same progress of each piece
abbrev pub FlightsAgree : {D P : Type 0} → Machine D P → Type 0
FlightsAgree {D} {P} machine =
    (subs : List (Setup D)) (goes : ℕ → Bool) (waits waits' : ℕ → ℕ → Bool) (m : Memory) (events events' : List (ℕ × Event)) (s s' : Flight P) →
    AllFitting machine subs m → WaitsCover machine subs goes waits → WaitsCover machine subs goes waits' →
    IsFlight machine subs goes waits m events s → IsFlight machine subs goes waits' m events' s' →
    AllEnded subs goes s → AllEnded subs goes s' → s ≡ s'

-- each submission has an engine
abbrev pub AllHaveEngines : {D : Type 0} → List (Setup D) → Type 0
AllHaveEngines {D} subs = (x : ℕ) (setup : Setup D) → slice_get subs x ≡ Some setup → 0 < setup.engines

-- a submission waits only for earlier ones that were not withdrawn
abbrev pub WaitsLookBack : (ℕ → Bool) → (ℕ → ℕ → Bool) → Type 0
WaitsLookBack goes waits = (x y : ℕ) → IsTrue (waits x y) → (x < y) × IsTrue (goes x)

-- whatever the waits, if they look back there is a complete flight that heeds them: waits alone never lock submissions up
abbrev pub CompleteFlightsExist : {D P : Type 0} → Machine D P → Type 0
CompleteFlightsExist {D} {P} machine =
    (subs : List (Setup D)) (goes : ℕ → Bool) (waits : ℕ → ℕ → Bool) (m : Memory) →
    AllFitting machine subs m → AllHaveEngines subs → WaitsLookBack goes waits →
    (events : List (ℕ × Event)) × (s : Flight P) × IsFlight machine subs goes waits m events s × AllEnded subs goes s
