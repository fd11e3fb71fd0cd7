-- What is written of a portal or a staging area is read again.
use Rattle.std.specs.Prelude.{◌≡◌, ℕ, List, [], ◌∷◌, map, Some}
use Rattle.std.specs.List.{AllByRecursion, flat_map}
use Rattle.dsa_operations.specs.OperationFields.{OperationFields, operation_fields}
use Rattle.dsa_operations.specs.Operations.{spelling_of}
use Rattle.dsa_lines.specs.declared.recording.Recorded.{Recorded}
use Rattle.dsa_lines.specs.declared.recording.Recorded.TheVariants.{Batch as BatchSaid, Entry as EntrySaid}
use Rattle.dsa_lines.specs.Texts.{lines_of, TextSpells}
use Rattle.dsa_lines.specs.Recordings.{all_recorded, LinesSpell}
use Rattle.dsa_lines.specs.Portals.{Submission, IsKnown, IsPortal, portal_text}
use Rattle.dsa_lines.specs.Portals.Submission.{Batch, Lone, Other}
use Rattle.dsa_lines.specs.Stagings.{StagedPiece, IsPlausible, IsStaging, staged_bytes, staging_text}
use Rattle.dsa_lines.specs.Stagings.StagedEntry.{Piece}

-- the fields of the operations that are submitted by themselves, in order
abbrev pub lone_fields : List Submission → List OperationFields
lone_fields [] = []
lone_fields (Batch count list_at record_at ∷ ss) = lone_fields ss
lone_fields (Lone o ∷ ss) = operation_fields o ∷ lone_fields ss
lone_fields (Other bytes fault ∷ ss) = lone_fields ss

-- the text of a portal without other bytes spells its lone operations
abbrev pub PortalTextIsRead : Type 0
PortalTextIsRead =
    (bytes : List ℕ) (ss : List Submission) → IsPortal bytes ss → AllByRecursion IsKnown ss →
    TextSpells (portal_text ss) (lone_fields ss)

-- the text of a staging area without other bytes spells its pieces, but for their fences, if each record can be one
abbrev pub StagingTextIsRead : Type 0
StagingTextIsRead =
    (at : ℕ) (bytes : List ℕ) (ps : List StagedPiece) (records : List (List ℕ)) →
    IsStaging bytes (map Piece ps) records → AllByRecursion IsPlausible records →
    TextSpells (staging_text at (map Piece ps) records) (map (λ p. operation_fields p.piece) ps)

-- ---- as a recording

-- what the entries of a portal say: each batch, and the bytes of each lone operation
abbrev pub said_by : List Submission → List Recorded
said_by [] = []
said_by (Batch count list_at record_at ∷ ss) =
    BatchSaid (record { count = count; list_at = list_at; record_at = record_at }) ∷ said_by ss
said_by (Lone o ∷ ss) = EntrySaid (spelling_of o) ∷ said_by ss
said_by (Other bytes fault ∷ ss) = said_by ss

-- read as a recording, the text of a portal without other bytes says its batches and its lone operations
abbrev pub PortalTextIsRecorded : Type 0
PortalTextIsRecorded =
    (bytes : List ℕ) (ss : List Submission) → IsPortal bytes ss → AllByRecursion IsKnown ss →
    all_recorded (lines_of (portal_text ss)) ≡ Some (said_by ss)

-- read as a recording, the text of a staging area without other bytes spells the bytes of its pieces, with their fences,
-- if each record can be one
abbrev pub StagingTextIsRecorded : Type 0
StagingTextIsRecorded =
    (at : ℕ) (bytes : List ℕ) (ps : List StagedPiece) (records : List (List ℕ)) →
    IsStaging bytes (map Piece ps) records → AllByRecursion IsPlausible records →
    LinesSpell (lines_of (staging_text at (map Piece ps) records)) (flat_map staged_bytes ps)
