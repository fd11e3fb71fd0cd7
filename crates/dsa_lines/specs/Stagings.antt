-- The text of a staging area, before a run and after it.
use Rattle.std.specs.Prelude.{◌≡◌, ◌≢◌, ◌⊎◌, ℕ, ◌+◌, ◌*◌, ◌/◌, ◌<◌, ◌≤◌, ◌==◌, Bool, true, List, [], ◌∷◌, ◌++◌, length, take, drop, replicate, slice_index, slice_range, codes, decimal, if◌then◌else◌}
use Rattle.std.specs.List.{AllByRecursion, concat, flat_map}
use Rattle.std.specs.Simd.{first_chunks}
use Rattle.std.specs.Str.{bytes_eq}
use Rattle.hex.specs.Hex.{IsBytes, encode_lower}
use Rattle.dsa_descriptor.specs.declared.fault.FieldFault.{FieldFault}
use Rattle.dsa_descriptor.specs.Faults.{AreZero}
use Rattle.dsa_descriptor.specs.Places.{u32_at}
use Rattle.dsa_descriptor.specs.Records.{layout}
use Rattle.dsa_emission.specs.declared.emission_fault.EmissionFault.TheVariants.{StagingLength}
use Rattle.dsa_descriptor.specs.Fences.{fenced, unfenced}
use Rattle.dsa_operations.specs.declared.operation.Operation.{Operation}
use Rattle.dsa_operations.specs.Faults.{IsFirstOperationFault}
use Rattle.dsa_operations.specs.OperationFields.{operation_fields}
use Rattle.dsa_operations.specs.Operations.{spelling_of}
use Rattle.dsa_lines.specs.declared.fault.EmittedFault.{EmittedFault}
use Rattle.dsa_lines.specs.Words.{Word}
use Rattle.dsa_lines.specs.Numbers.{hex}
use Rattle.dsa_lines.specs.Text.{text_of, line_text}
use Rattle.dsa_lines.specs.Portals.{IsFirstLengthFault, other_words}

-- ---- what is in a staging area: entries of 64 bytes, and after them records of 32

-- a piece of a batch: whether it is fenced, and its operation
pub record StagedPiece : Type 0 where
  pub fence : Bool
  pub piece : Operation

-- the bytes of a piece, with its fence
abbrev pub staged_bytes : StagedPiece → List ℕ
staged_bytes p = fenced p.fence (spelling_of p.piece)

-- an entry: a piece; or other bytes, with the first fault that makes them no piece
pub data StagedEntry : Type 0 where
  Piece : (p : StagedPiece) → StagedEntry
  Other : (bytes : List ℕ) (fault : FieldFault) → StagedEntry

-- the bytes of an entry
abbrev pub entry_bytes : StagedEntry → List ℕ
entry_bytes (Piece p) = staged_bytes p
entry_bytes (Other bytes fault) = bytes

-- these 64 bytes are no piece: without their fence they are no operation, for this fault
pub record IsNoPiece (bytes : List ℕ) (fault : FieldFault) : Type 0 where
  pub fault_is : IsFirstOperationFault (unfenced bytes) fault
  pub whole : length bytes ≡ 64
  pub are_bytes : IsBytes bytes

-- the 64 bytes are those of the piece, or these others
abbrev pub Shows : List ℕ → StagedEntry → Type 0
Shows bytes (Piece p) = bytes ≡ staged_bytes p
Shows bytes (Other others fault) = (bytes ≡ others) × IsNoPiece others fault

-- The records begin at the first slot whose byte 7 is 0, and whose byte 0 is not 0 or whose bytes 8 to 31 are all 0 (this
-- project's choice, since no byte says how many entries there are). In a record, byte 7 is the high byte of the number of
-- finished descriptors, which is below 2^24, and byte 0 is the status, which is not 0 once it is written. So a record is
-- known whether it is written or all zero. In an entry, byte 7 is the operation code, which is 0 for a no-op only: a no-op
-- is taken for a record if the low byte of its PASID is not 0, or if bytes 8 to 31, with the address of its record, are 0
abbrev pub BeginsRecord : List ℕ → Type 0
BeginsRecord bytes =
    (slice_index bytes 7 ≡ 0) × ((slice_index bytes 0 ≢ 0) ⊎ AreZero (slice_range bytes 8 32))

-- an entry is what its bytes show, and they begin no record
pub record IsEntry (e : StagedEntry) : Type 0 where
  pub shown : Shows (entry_bytes e) e
  pub no_record : ¬ BeginsRecord (entry_bytes e)

-- the record of a batch is any 32 bytes
pub record IsRecord (bytes : List ℕ) : Type 0 where
  pub whole : length bytes ≡ 32
  pub are_bytes : IsBytes bytes

-- The bytes are these entries, and after them these records. Two records or more have 64 bytes, as an entry has, so their
-- bytes must begin as a record does; a single record may be any
pub record IsStaging (bytes : List ℕ) (entries : List StagedEntry) (records : List (List ℕ)) : Type 0 where
  pub bytes_are : bytes ≡ flat_map entry_bytes entries ++ concat records
  pub each_entry : AllByRecursion IsEntry entries
  pub each_record : AllByRecursion IsRecord records
  pub first_record : 2 ≤ length records → BeginsRecord (concat records)

-- ---- its text

-- the line of a piece, after `fence` if it is fenced
abbrev pub piece_text : StagedPiece → List ℕ
piece_text p = (if p.fence then codes "fence " else []) ++ line_text (operation_fields p.piece)

-- other bytes have the same line as in a portal
abbrev pub entry_text : StagedEntry → List ℕ
entry_text (Piece p) = piece_text p
entry_text (Other bytes fault) = text_of (other_words bytes fault)

-- a line for each entry
unfoldable pub entries_text : List StagedEntry → List ℕ
entries_text [] = []
entries_text (e ∷ es) = (entry_text e ++ 10 ∷ []) ++ entries_text es

-- a record with this status and this number of finished descriptors, and nothing else (linux/idxd.h, struct
-- dsa_completion_record: status in byte 0, descs_completed in bytes 4 to 7)
abbrev pub written_record : ℕ → ℕ → List ℕ
written_record status finished = layout (record { status = status; result = 0; bytes_completed = finished })

-- byte 0 of a record, its status
abbrev pub status_at : List ℕ → ℕ
status_at bytes = slice_index bytes 0

-- bytes 4 to 7 of a record, how many descriptors finished
abbrev pub finished_at : List ℕ → ℕ
finished_at bytes = u32_at 4 bytes

-- the record has nothing but its status and how many have finished
abbrev pub is_plain : List ℕ → Bool
is_plain bytes = bytes_eq bytes (written_record (status_at bytes) (finished_at bytes))

-- all bytes of a record
abbrev pub byte_words : List ℕ → List Word
byte_words bytes = codes "," ∷ codes "32" ∷ codes "bytes" ∷ encode_lower bytes ∷ []

-- the same, if the record has more than its status and how many have finished
abbrev pub more_words : List ℕ → List Word
more_words bytes = if is_plain bytes then [] else byte_words bytes

-- the words of a record that was written; its status is the whole of byte 0
abbrev pub written_words : List ℕ → List Word
written_words bytes =
    codes ":" ∷ codes "status" ∷ hex (status_at bytes) ∷
    codes "," ∷ decimal (finished_at bytes) ∷ codes "finished" ∷ more_words bytes

-- nothing for a record that is all zero, as it is before a run
abbrev pub written_text : List ℕ → List ℕ
written_text bytes = if bytes_eq bytes (replicate 32 0) then [] else text_of (written_words bytes)

-- the batch of a record, and the address of the record
abbrev pub record_place : ℕ → ℕ → List ℕ
record_place batch address = codes "record " ++ (decimal batch ++ (codes " at " ++ hex address))

-- it can be the record of a batch: fewer than 2^24 descriptors have finished
abbrev pub is_plausible : List ℕ → Bool
is_plausible bytes = slice_index bytes 7 == 0

-- the same as a statement
abbrev pub IsPlausible : List ℕ → Type 0
IsPlausible bytes = is_plausible bytes ≡ true

-- the line of a record of a batch: a comment, if the bytes can be such a record; else a line that all readers refuse
abbrev pub record_text : ℕ → ℕ → List ℕ → List ℕ
record_text batch address bytes =
    if is_plausible bytes
    then codes "# " ++ (record_place batch address ++ written_text bytes)
    else codes "unknown " ++ (record_place batch address ++ text_of (byte_words bytes))

-- a line for each record, from that of this batch at this address on
unfoldable pub records_text : ℕ → ℕ → List (List ℕ) → List ℕ
records_text batch address [] = []
records_text batch address (r ∷ rs) =
    (record_text batch address r ++ 10 ∷ []) ++ records_text (batch + 1) (address + 32) rs

-- the text of a staging area at this address: its entries, and then its records
abbrev pub staging_text : ℕ → List StagedEntry → List (List ℕ) → List ℕ
staging_text at entries records = entries_text entries ++ records_text 0 (at + 64 * length entries) records

-- ---- why bytes are no staging area

-- why bytes are no staging area: records have 32 bytes
abbrev pub IsFirstStagingFault : List ℕ → EmittedFault → Type 0
IsFirstStagingFault bytes fault = IsFirstLengthFault 32 StagingLength bytes fault

-- ---- laws

-- the entries and records of a staging area are determined, so it has one text at each address
abbrev pub OneStagingShown : Type 0
OneStagingShown =
    (bytes : List ℕ) (es fs : List StagedEntry) (rs ts : List (List ℕ)) → IsStaging bytes es rs → IsStaging bytes fs ts →
    (es ≡ fs) × (rs ≡ ts)

-- at one address, staging areas of one text have the same entries and records, and so the same bytes
abbrev pub OneStagingText : Type 0
OneStagingText =
    (at : ℕ) (bytes other : List ℕ) (es fs : List StagedEntry) (rs ts : List (List ℕ)) → IsStaging bytes es rs →
    IsStaging other fs ts → staging_text at es rs ≡ staging_text at fs ts → (es ≡ fs) × (rs ≡ ts) × (bytes ≡ other)

-- ---- for private clauses

-- the records that the bytes hold
abbrev pub records_of : List ℕ → List (List ℕ)
records_of bytes = first_chunks 32 (length bytes / 32) bytes

-- the bytes begin with these `number` entries; after them the records begin, or fewer than 64 bytes are left
pub record AreEntries (bytes : List ℕ) (number : ℕ) (entries : List StagedEntry) : Type 0 where
  pub count : length entries ≡ number
  pub inside : number ≤ length bytes / 64
  pub bytes_are : take (64 * number) bytes ≡ flat_map entry_bytes entries
  pub each : AllByRecursion IsEntry entries
  pub ends : number < length bytes / 64 → BeginsRecord (drop (64 * number) bytes)
