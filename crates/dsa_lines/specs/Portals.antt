-- The text of a portal.
use Rattle.std.specs.Prelude.{◌≡◌, ◌≢◌, ⊤, ℕ, ◌%◌, ◌^◌, ◌<◌, true, false, List, [], ◌∷◌, ◌++◌, length, slice_index, codes, decimal}
use Rattle.std.specs.List.{AllZip}
use Rattle.hex.specs.Hex.{IsBytes, encode_lower}
use Rattle.dsa_descriptor.specs.declared.fault.FieldFault.{FieldFault}
use Rattle.dsa_descriptor.specs.Causes.{field_name}
use Rattle.dsa_descriptor.specs.Lists.{entries}
use Rattle.dsa_descriptor.specs.Places.{u32_at, u64_at}
use Rattle.dsa_emission.specs.declared.emission_fault.EmissionFault.{EmissionFault}
use Rattle.dsa_emission.specs.declared.emission_fault.EmissionFault.TheVariants.{PortalLength}
use Rattle.dsa_emission.specs.EmissionFaults.{is_batch_entry}
use Rattle.dsa_operations.specs.declared.operation.Operation.{Operation}
use Rattle.dsa_operations.specs.Faults.{IsFirstOperationFault}
use Rattle.dsa_operations.specs.OperationFields.{operation_fields}
use Rattle.dsa_operations.specs.Operations.{spelling_of}
use Rattle.dsa_lines.specs.declared.fault.EmittedFault.{EmittedFault}
use Rattle.dsa_lines.specs.declared.fault.EmittedFault.TheVariants.{Emission, Memory}
use Rattle.dsa_lines.specs.Words.{Word}
use Rattle.dsa_lines.specs.Numbers.{hex}
use Rattle.dsa_lines.specs.Text.{text_of, line_text}

-- ---- what entries submit

-- a batch of so many operations, with their address and that of its record; a lone operation; or other bytes, with the
-- first fault that makes them no operation
pub data Submission : Type 0 where
  Batch : (count list_at record_at : ℕ) → Submission
  Lone : (o : Operation) → Submission
  Other : (bytes : List ℕ) (fault : FieldFault) → Submission

-- the entry is that of this batch, whatever its other bytes are (specification 341204, batch descriptor)
pub record IsBatchOf (count list_at record_at : ℕ) (bytes : List ℕ) : Type 0 where
  pub code : is_batch_entry bytes ≡ true
  pub count_there : u32_at 32 bytes ≡ count
  pub list_there : u64_at 16 bytes ≡ list_at
  pub record_there : u64_at 8 bytes ≡ record_at
  -- each number fits its place
  pub count_fits : count < 2 ^ 32
  pub list_fits : list_at < 2 ^ 64
  pub record_fits : record_at < 2 ^ 64

-- these 64 bytes are no batch entry, and this fault makes them no operation
pub record IsOther (bytes : List ℕ) (fault : FieldFault) : Type 0 where
  pub no_batch : is_batch_entry bytes ≡ false
  pub fault_is : IsFirstOperationFault bytes fault
  pub whole : length bytes ≡ 64
  pub are_bytes : IsBytes bytes

-- the 64 bytes submit it: they are those of such a batch, or of the operation, or these others
abbrev pub Submits : List ℕ → Submission → Type 0
Submits bytes (Batch count list_at record_at) = IsBatchOf count list_at record_at bytes
Submits bytes (Lone o) = bytes ≡ spelling_of o
Submits bytes (Other others fault) = (bytes ≡ others) × IsOther others fault

-- the bytes are a portal that submits these, entry by entry
pub record IsPortal (bytes : List ℕ) (submissions : List Submission) : Type 0 where
  pub whole : length bytes % 64 ≡ 0
  pub each : AllZip Submits (entries bytes) submissions

-- it is a batch or an operation
abbrev pub IsKnown : Submission → Type 0
IsKnown (Batch count list_at record_at) = ⊤
IsKnown (Lone o) = ⊤
IsKnown (Other bytes fault) = ⊥

-- ---- their text

-- the words of a batch: its size, and the addresses of its operations and of its record
abbrev pub batch_words : ℕ → ℕ → ℕ → List Word
batch_words count list_at record_at =
    codes "batch" ∷ codes "of" ∷ decimal count ∷ codes "at" ∷ hex list_at ∷ codes "," ∷ codes "record" ∷ hex record_at ∷ []

-- the name of a fault, in parentheses
abbrev pub why : FieldFault → List ℕ
why fault = codes "(" ++ (field_name fault ++ codes ")")

-- other bytes: the operation code in byte 7, why they are no operation, and all of them
abbrev pub other_words : List ℕ → FieldFault → List Word
other_words bytes fault =
    codes "unknown" ∷ hex (slice_index bytes 7) ∷ why fault ∷ codes "," ∷ codes "64" ∷ codes "bytes" ∷ encode_lower bytes ∷ []

-- a line, with no newline
abbrev pub submission_text : Submission → List ℕ
submission_text (Batch count list_at record_at) = text_of (batch_words count list_at record_at)
submission_text (Lone o) = line_text (operation_fields o)
submission_text (Other bytes fault) = text_of (other_words bytes fault)

-- a line for each entry
unfoldable pub portal_text : List Submission → List ℕ
portal_text [] = []
portal_text (s ∷ ss) = (submission_text s ++ 10 ∷ []) ++ portal_text ss

-- ---- why bytes are no portal

-- the only fault: the length is no multiple of this. Out of memory is reported once it is (this project's choice)
abbrev pub IsFirstLengthFault : ℕ → EmissionFault → List ℕ → EmittedFault → Type 0
IsFirstLengthFault unit wrong bytes (Emission fault) = (fault ≡ wrong) × (length bytes % unit ≢ 0)
IsFirstLengthFault unit wrong bytes Memory = length bytes % unit ≡ 0

-- why bytes are no portal: its entries have 64 bytes
abbrev pub IsFirstPortalFault : List ℕ → EmittedFault → Type 0
IsFirstPortalFault bytes fault = IsFirstLengthFault 64 PortalLength bytes fault

-- ---- laws

-- what a portal submits is determined, so it has one text
abbrev pub OnePortalShown : Type 0
OnePortalShown = (bytes : List ℕ) (ss ts : List Submission) → IsPortal bytes ss → IsPortal bytes ts → ss ≡ ts

-- portals with the same text submit the same
abbrev pub OnePortalText : Type 0
OnePortalText =
    (bytes other : List ℕ) (ss ts : List Submission) → IsPortal bytes ss → IsPortal other ts →
    portal_text ss ≡ portal_text ts → ss ≡ ts
