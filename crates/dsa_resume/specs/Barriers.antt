-- What the barriers of a list hold back, by how its pieces have ended. That lists have barriers, and that they are resumed
-- so, is this project's choice; what a barrier asks for is what a fence does (specification 341204, fence).
use Rattle.std.specs.Prelude.{◌≡◌, ℕ, ◌<◌, ◌≤◌, Bool, true, List, Option, Some, None, length, slice_get}
use Rattle.dsa_settings.specs.Barriers.{IsBarrier}
use Rattle.dsa_resume.specs.declared.status.Ended.{Ended}
use Rattle.dsa_resume.specs.Ended.{has_begun, is_open, stops}

-- the piece of this index has ended so
abbrev pub HasEnded : (Ended → Bool) → List Ended → ℕ → Type 0
HasEnded wanted ends i = (e : Ended) × (slice_get ends i ≡ Some e) × (wanted e ≡ true)

-- piece i is before the barrier of piece k, and has not succeeded: so the barrier holds
pub record Holds (barriers : List Bool) (ends : List Ended) (i k : ℕ) : Type 0 where
  pub barrier : IsBarrier barriers k
  pub before : i < k
  pub is_open : HasEnded is_open ends i

-- so many pieces are before the first barrier that holds; all if none does
pub record IsFront (barriers : List Bool) (ends : List Ended) (front : ℕ) : Type 0 where
  pub within : front ≤ length ends
  pub none : (i k : ℕ) → k < front → ¬ Holds barriers ends i k
  pub holds : front < length ends → (i : ℕ) × Holds barriers ends i front

-- piece j has begun, though piece i has not succeeded and a barrier is between them
abbrev pub IsPassed : List Bool → List Ended → ℕ → ℕ → Type 0
IsPassed barriers ends i j = (k : ℕ) × Holds barriers ends i k × (k ≤ j) × HasEnded has_begun ends j

-- no piece has begun so
abbrev pub NonePassed : List Bool → List Ended → Type 0
NonePassed barriers ends = (i j : ℕ) → ¬ IsPassed barriers ends i j

-- (i, j) has the least piece that has begun so, and the first that has not succeeded with a barrier between them
pub record IsFirstPassed (barriers : List Bool) (ends : List Ended) (i j : ℕ) : Type 0 where
  pub passed : IsPassed barriers ends i j
  pub least : (x y : ℕ) → IsPassed barriers ends x y → j ≤ y
  pub first : (x : ℕ) → IsPassed barriers ends x j → i ≤ x

-- piece i is the first of the front that will not succeed
pub record IsStop (ends : List Ended) (front i : ℕ) : Type 0 where
  pub inside : i < front
  pub stop : HasEnded stops ends i
  pub first : (x : ℕ) → HasEnded stops ends x → i ≤ x

-- no piece of the front will not
abbrev pub NoneStops : List Ended → ℕ → Type 0
NoneStops ends front = (i : ℕ) → i < front → ¬ HasEnded stops ends i

-- nothing that is known keeps executing the pieces one by one from coming to piece j: no piece that will not succeed has a
-- barrier between it and j
abbrev pub IsReached : List Bool → List Ended → ℕ → Type 0
IsReached barriers ends j = (i k : ℕ) → IsBarrier barriers k → i < k → k ≤ j → ¬ HasEnded stops ends i

-- ---- for private clauses

-- the first piece that has not succeeded, or their number
pub record IsFirstOpen (ends : List Ended) (first : ℕ) : Type 0 where
  pub within : first ≤ length ends
  pub none : (i : ℕ) → i < first → ¬ HasEnded is_open ends i
  pub here : first < length ends → HasEnded is_open ends first

-- the first piece from the front on that has begun
abbrev pub FindsBegun : List Ended → ℕ → Option ℕ → Type 0
FindsBegun ends front None = (j : ℕ) → front ≤ j → ¬ HasEnded has_begun ends j
FindsBegun ends front (Some j) = (front ≤ j) × HasEnded has_begun ends j × ((y : ℕ) → front ≤ y → HasEnded has_begun ends y → j ≤ y)

-- the first piece of the front that will not succeed
abbrev pub FindsStop : List Ended → ℕ → Option ℕ → Type 0
FindsStop ends front None = NoneStops ends front
FindsStop ends front (Some i) = IsStop ends front i

-- the first two pieces of which the second has begun too early
abbrev pub FindsPassed : List Bool → List Ended → Option (ℕ × ℕ) → Type 0
FindsPassed barriers ends None = NonePassed barriers ends
FindsPassed barriers ends (Some p) = IsFirstPassed barriers ends p.0 p.1
