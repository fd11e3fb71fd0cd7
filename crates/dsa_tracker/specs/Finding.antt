-- What the stores and rows of a tracker say of a slot. Private clauses alone cite these.
use Rattle.std.specs.Prelude.{ℕ, ◌+◌, ◌*◌, ◌/◌, ◌^◌, ◌<◌, ◌≤◌, ◌⊎◌, List, Bool, true, false, Option, Some, None, length}
use Rattle.std.specs.Int.{bit_at}
use Rattle.dsa_descriptor.specs.declared.span.Span.{Span}
use Rattle.dsa_descriptor.specs.Spans.{InSome}
use Rattle.dsa_tracker.specs.declared.grid.Grid.{Grid}
use Rattle.dsa_tracker.specs.declared.slots.Slots.{Slots}
use Rattle.dsa_tracker.specs.Kept.{Meet, Touches, kept, store_at}
use Rattle.dsa_tracker.specs.Rows.{IsMarked, IsNoted}
use Rattle.dsa_tracker.specs.Sets.{Has}

-- the words that keep what a slot reads
abbrev pub reads_store : ℕ → List ℕ → ℕ → List ℕ
reads_store width stores slot = store_at width stores (2 * slot)

-- and what it writes
abbrev pub writes_store : ℕ → List ℕ → ℕ → List ℕ
writes_store width stores slot = store_at width stores (2 * slot + 1)

-- these slots have stores
abbrev pub HaveStores : ℕ → List ℕ → Slots → Type 0
HaveStores width stores among = (s : ℕ) → Has among s → (2 * s + 2) * width ≤ length stores

-- each unit that a slot touches with these spans is marked for it, and each that it writes is marked as written
abbrev pub Marks : Grid → List ℕ → List Span → List Span → ℕ → Type 0
Marks grid rows reads writes k =
    ((a : ℕ) → InSome reads a ⊎ InSome writes a → IsMarked grid rows 0 (a / 2 ^ grid.log2_unit) k)
    × ((a : ℕ) → InSome writes a → IsMarked grid rows 1 (a / 2 ^ grid.log2_unit) k)

-- so it is, or the slot is known to have longer spans than are marked
abbrev pub Covers : Grid → List ℕ → Slots → List Span → List Span → ℕ → Type 0
Covers grid rows wide reads writes k = Has wide k ⊎ Marks grid rows reads writes k

-- the rows cover what each of these slots keeps
abbrev pub AreCovered : ℕ → List ℕ → Grid → List ℕ → Slots → Slots → Type 0
AreCovered width stores grid rows wide among =
    (k : ℕ) → Has among k → Covers grid rows wide (kept (reads_store width stores k)) (kept (writes_store width stores k)) k

-- what a slot keeps conflicts with a read, or a write, of the addresses from the first to the last
abbrev pub ConflictsHere : ℕ → List ℕ → Bool → ℕ → ℕ → ℕ → Type 0
ConflictsHere width stores false first last k = Touches (writes_store width stores k) first last
ConflictsHere width stores true first last k = Touches (writes_store width stores k) first last ⊎ Touches (reads_store width stores k) first last

-- what a slot keeps conflicts with reads, or writes, of what this store keeps
abbrev pub ConflictsWithStore : ℕ → List ℕ → Bool → List ℕ → ℕ → Type 0
ConflictsWithStore width stores false store k = Meet (writes_store width stores k) store
ConflictsWithStore width stores true store k = Meet (writes_store width stores k) store ⊎ Meet (reads_store width stores k) store

-- each unit that this store touches is noted for the slot
abbrev pub AreNoted : Grid → List ℕ → Bool → List ℕ → ℕ → Type 0
AreNoted grid rows is_written store slot = (a : ℕ) → InSome (kept store) a → IsNoted grid rows is_written (a / 2 ^ grid.log2_unit) slot

-- what a slot keeps conflicts with reads, or writes, of these spans
abbrev pub ConflictsWithSpans : ℕ → List ℕ → Bool → List Span → ℕ → Type 0
ConflictsWithSpans width stores false spans k = (a : ℕ) × InSome (kept (writes_store width stores k)) a × InSome spans a
ConflictsWithSpans width stores true spans k =
    ((a : ℕ) × InSome (kept (writes_store width stores k)) a × InSome spans a) ⊎ ((a : ℕ) × InSome (kept (reads_store width stores k)) a × InSome spans a)

-- what is marked for these slots, or not looked at since there were too many units, may conflict with a slot
abbrev pub MayConflict : Slots → Option ℕ → ℕ → Type 0
MayConflict wide None k = Unit {0}
MayConflict wide (Some noted) k = (0 < bit_at noted k) ⊎ Has wide k
