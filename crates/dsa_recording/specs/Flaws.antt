-- What is wrong with an entry beside fences (this project's choice; what the device asks of records and batches is
-- specification 341204). `head` is the descriptor of its batch, or of a lone descriptor the entry itself.
use Rattle.std.specs.Prelude.{ℕ, ◌≡◌, ◌≢◌, ◌↔◌, ◌*◌, ◌-◌, ◌/◌, ◌%◌, ◌^◌, ◌<◌, ◌≤◌, ◌==◌, ◌&&◌, ◌||◌, not, Bool, false, List, [], ◌∷◌, length, get_or, IsTrue}
use Rattle.dsa_descriptor.specs.declared.span.Span.{Span}
use Rattle.dsa_descriptor.specs.Places.{u32_at, u64_at, code_at, flags_at}
use Rattle.dsa_ranges.specs.Ranges.{SpansConflict}
use Rattle.dsa_recording.specs.declared.flaws.Flaws.{Flaws}
use Rattle.dsa_recording.specs.Entries.{records_of, entry_reads, entry_targets, entry_writes}
use Rattle.dsa_recording.specs.Showing.{has_record}

-- the memory of a batch's descriptors, 64 bytes each (specification 341204, batch descriptor)
abbrev pub list_spans : List ℕ → List Span
list_spans head = record { first = u64_at 16 head; len = 64 * u32_at 32 head } ∷ []

-- the record of the entry, which is member k, lies within its own descriptor: the device has read that when it writes the
-- record
abbrev pub IsInOwnDescriptor : List ℕ → ℕ → List ℕ → Type 0
IsInOwnDescriptor head k e =
    (u64_at 16 head ≤ u64_at 8 e) × ((u64_at 8 e - u64_at 16 head) / 64 ≡ k) × ((u64_at 8 e - u64_at 16 head) % 64 ≤ 32)

-- what the entry writes meets the record of its batch; its data meet the batch's descriptors; or its record does, elsewhere
-- than within its own descriptor
pub data OverwritesBatch (head : List ℕ) (k : ℕ) (e : List ℕ) : Type 0 where
  meets_record : SpansConflict [] (entry_writes e) [] (records_of head) → OverwritesBatch head k e
  data_meet_list : SpansConflict [] (entry_targets e) [] (list_spans head) → OverwritesBatch head k e
  record_meets_list :
      SpansConflict [] (records_of e) [] (list_spans head) → (¬ IsInOwnDescriptor head k e) → OverwritesBatch head k e

-- its data meet its own record
abbrev pub HasDataOverRecord : List ℕ → Type 0
HasDataOverRecord e = SpansConflict (entry_reads e) (entry_targets e) [] (records_of e)

-- the address of its record, if it has one, is no multiple of 32
abbrev pub HasMisalignedRecord : List ℕ → Type 0
HasMisalignedRecord e = IsTrue (has_record (flags_at e)) × (u64_at 8 e % 32 ≢ 0)

-- the bytes 16 to 35 and 38 to 63 are zero, which a no-op and a drain reserve (specification 341204, no-op and drain); 36 and
-- 37 are the handle of an interrupt
abbrev pub is_bare : List ℕ → Bool
is_bare e =
    u64_at 16 e == 0 && u64_at 24 e == 0 && u32_at 32 e == 0 && u32_at 36 e / 2 ^ 16 == 0
    && u64_at 40 e == 0 && u64_at 48 e == 0 && u64_at 56 e == 0

-- a no-op (code 0x00), or a drain (0x02) without flags of its own, has others there
abbrev pub has_reserved_bytes : List ℕ → Bool
has_reserved_bytes e = (code_at e == 0 || (code_at e == 2 && flags_at e / 2 ^ 16 == 0)) && not (is_bare e)

-- all that is wrong with an entry, which is member k of a batch, or alone
pub record AreFlaws (is_batch : Bool) (head : List ℕ) (k : ℕ) (e : List ℕ) (f : Flaws) : Type 0 where
  pub overwrites_batch : IsTrue f.overwrites_batch ↔ (IsTrue is_batch × OverwritesBatch head k e)
  pub data_over_record : IsTrue f.data_over_record ↔ HasDataOverRecord e
  pub misaligned_record : IsTrue f.misaligned_record ↔ HasMisalignedRecord e
  pub reserved_bytes : f.reserved_bytes ≡ has_reserved_bytes e

-- nothing is wrong
abbrev pub no_flaws : Flaws
no_flaws = record { overwrites_batch = false; data_over_record = false; misaligned_record = false; reserved_bytes = false }

-- of each entry
pub record AreAllFlaws (is_batch : Bool) (head : List ℕ) (es : List (List ℕ)) (fs : List Flaws) : Type 0 where
  pub count : length fs ≡ length es
  pub each : (k : ℕ) → k < length es → AreFlaws is_batch head k (get_or es k []) (get_or fs k no_flaws)
