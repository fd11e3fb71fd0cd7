-- Stamps of units of addresses, and last conflicts that are noted by them, for private clauses.
use Rattle.std.specs.Prelude.{◌≡◌, ℕ, ◌*◌, ◌/◌, ◌%◌, ◌^◌, ◌<◌, ◌≤◌, ◌⊎◌, List, length, Option, Some, None, slice_get, slice_index}
use Rattle.dsa_descriptor.specs.Fields.{Fields}
use Rattle.dsa_descriptor.specs.Data.{sources, targets, record_span}
use Rattle.dsa_descriptor.specs.Spans.{InSome, InSpan}
use Rattle.dsa_ranges.specs.Ranges.{ConflictAt, SpansConflict}
use Rattle.dsa_conflicts.specs.Last.{IsBack}
use Rattle.dsa_conflicts.specs.Overlaps.{last_at}

-- the place of the stamp of a unit
unfoldable pub key_of : ℕ → ℕ
key_of unit = unit * 11400714819323198485 % 2 ^ 64 / 2 ^ 53

-- piece i reads or writes the address, beside its record
abbrev pub HasData : List Fields → ℕ → ℕ → Type 0
HasData fs i x = (f : Fields) × (slice_get fs i ≡ Some f) × (InSome (sources f.op f.size) x ⊎ InSome (targets f.op f.size) x)

-- the address is in the completion record of piece i
abbrev pub HasRecord : List Fields → ℕ → ℕ → Type 0
HasRecord fs i x = (f : Fields) × (slice_get fs i ≡ Some f) × InSpan (record_span f.record_at) x

-- the data of one of two descriptors holds an address that the other writes beside its record
abbrev pub DataConflict : Fields → Fields → Type 0
DataConflict f g = SpansConflict (sources f.op f.size) (targets f.op f.size) (sources g.op g.size) (targets g.op g.size)

-- the same of the descriptors at two places of a list
abbrev pub DataConflictAt : List Fields → ℕ → ℕ → Type 0
DataConflictAt fs i j = (f g : Fields) × (slice_get fs i ≡ Some f) × (slice_get fs j ≡ Some g) × DataConflict f g

-- piece a conflicts with piece b, at most `window` places later, and no piece between them conflicts with b by its data;
-- none: no piece of the window conflicts with b by its data
abbrev pub IsNoted : List Fields → ℕ → ℕ → Option ℕ → Type 0
IsNoted fs window b (Some a) = IsBack (ConflictAt fs) window b a × ((other : ℕ) → IsBack (DataConflictAt fs) window b other → other ≤ a)
IsNoted fs window b None = (other : ℕ) → IsBack (DataConflictAt fs) window b other → ⊥

-- what holds once the first n pieces are noted: the units of their data have later stamps than they; their last conflicts
-- are noted, and none of other pieces; no two share an address of their records; and the data and the records lie between
-- these addresses
pub record AreNoted (fs : List Fields) (stamps : List ℕ) (lasts : List (Option ℕ)) (window shift low high from to n : ℕ) : Type 0 where
  pub held : (i x : ℕ) → i < n → HasData fs i x → i < slice_index stamps (key_of (x / 2 ^ shift))
  pub most : (k : ℕ) → slice_index stamps k ≤ n
  pub noted : (b : ℕ) → b < n → IsNoted fs window b (last_at lasts b)
  pub rest : (b : ℕ) → n ≤ b → last_at lasts b ≡ None
  pub count : length lasts ≡ length fs
  pub data_within : (i x : ℕ) → i < n → HasData fs i x → (low ≤ x) × (x ≤ high)
  pub records_apart : (i j x : ℕ) → i < j → j < n → HasRecord fs i x → HasRecord fs j x → ⊥
  pub records_within : (i x : ℕ) → i < n → HasRecord fs i x → (from ≤ x) × (x < to)

-- no two pieces conflict
abbrev pub NoneConflict : List Fields → Type 0
NoneConflict fs = (i j : ℕ) → i < j → ConflictAt fs i j → ⊥
