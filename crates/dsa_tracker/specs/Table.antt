-- What a tracker knows: which slots have an outstanding submission, what it reads and writes, and what it waits for. (That
-- there are slots, and what a caller learns of them, is this project's choice.)
use Rattle.std.specs.Prelude.{◌≡◌, ◌≢◌, ℕ, ◌<◌, ◌↔◌, ◌⊎◌, List, Option, Some, None, length, slice_get}
use Rattle.dsa_descriptor.specs.declared.span.Span.{Span}
use Rattle.dsa_ranges.specs.Ranges.{SpansConflict}
use Rattle.dsa_tracker.specs.declared.owner.Owner.{Owner}
use Rattle.dsa_tracker.specs.declared.slots.Slots.{Slots}
use Rattle.dsa_tracker.specs.Sets.{Has, IsEmpty}

-- a submission that is outstanding: what it reads, what it writes, and the slots of those that it still waits for
pub record Outstanding : Type 0 where
  pub reads : List Span
  pub writes : List Span
  pub waits : Slots

-- what each slot has, a free one nothing; how many spans a submission may read, and how many it may write; and the owner
-- of the submissions, once one of descriptors came
pub record Table : Type 0 where
  pub slots : List (Option Outstanding)
  pub room : ℕ
  pub owner : Option Owner

-- the slot has an outstanding submission of which P holds
abbrev pub HasOne : List (Option Outstanding) → ℕ → (Outstanding → Type 0) → Type 0
HasOne slots s P = (o : Outstanding) × (slice_get slots s ≡ Some (Some o)) × P o

-- the slot has an outstanding submission
abbrev pub IsHeld : List (Option Outstanding) → ℕ → Type 0
IsHeld slots s = (o : Outstanding) × (slice_get slots s ≡ Some (Some o))

-- it has none
abbrev pub IsFree : List (Option Outstanding) → ℕ → Type 0
IsFree slots s = slice_get slots s ≡ Some None

-- the slot is free, and no earlier one is
abbrev pub IsFirstFree : List (Option Outstanding) → ℕ → Type 0
IsFirstFree slots s = IsFree slots s × ((k : ℕ) → k < s → IsHeld slots k)

-- no slot is free
abbrev pub IsFull : List (Option Outstanding) → Type 0
IsFull slots = (k : ℕ) → k < length slots → IsHeld slots k

-- the submission of slot s conflicts with what reads and writes these spans
abbrev pub ConflictsWith : List (Option Outstanding) → List Span → List Span → ℕ → Type 0
ConflictsWith slots reads writes s = HasOne slots s (λ o. SpansConflict o.reads o.writes reads writes)

-- a further submission that reads and writes these spans has to wait for that of slot s: they conflict, or the caller names
-- the slot besides
abbrev pub HasToWait : List (Option Outstanding) → List Span → List Span → Slots → ℕ → Type 0
HasToWait slots reads writes also s = HasOne slots s (λ o. SpansConflict o.reads o.writes reads writes ⊎ Has also s)

-- the submission of slot s waits for that of the other slot
abbrev pub WaitsFor : List (Option Outstanding) → ℕ → ℕ → Type 0
WaitsFor slots other s = HasOne slots s (λ o. Has o.waits other)

-- the submission of slot s waits for none, so it may be rung
abbrev pub IsReady : List (Option Outstanding) → ℕ → Type 0
IsReady slots s = HasOne slots s (λ o. IsEmpty o.waits)

-- the set has just the slots of which P holds
abbrev pub IsExactly : Slots → (ℕ → Type 0) → Type 0
IsExactly set P = (s : ℕ) → Has set s ↔ P s

-- the second set is the first without this slot
abbrev pub IsWithout : Slots → ℕ → Slots → Type 0
IsWithout set slot rest = IsExactly rest (λ s. Has set s × (s ≢ slot))
