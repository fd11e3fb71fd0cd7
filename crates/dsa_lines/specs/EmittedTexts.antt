-- What the planner submits has a text.
use Rattle.std.specs.Prelude.{List, map, replicate, ℕ}
use Rattle.std.specs.List.{AllByRecursion}
use Rattle.dsa_descriptor.specs.declared.descriptor.Descriptor.{Descriptor}
use Rattle.dsa_descriptor.specs.Descriptors.{fields}
use Rattle.dsa_settings.specs.Plan.{Plan}
use Rattle.dsa_settings.specs.Settings.{Limits, AreInLimits}
use Rattle.dsa_emission.specs.Emission.{portal_bytes, portal_of, staging_bytes, staging_of, CanBeEmitted, CanBeEmittedAs}
use Rattle.dsa_operations.specs.declared.operation.Operation.{Operation}
use Rattle.dsa_operations.specs.Operations.{operation_kind, spelling_of}
use Rattle.dsa_lines.specs.Portals.{Submission, IsKnown, IsPortal}
use Rattle.dsa_lines.specs.Stagings.{StagedPiece, IsStaging}
use Rattle.dsa_lines.specs.Stagings.StagedEntry.{Piece}

-- the bytes are a portal and a staging area, so both have a text: that of batches and lone pieces, all known; and that of
-- the pieces of batches, and of a record for each batch that is all zero
abbrev pub HaveTexts : List ℕ → List ℕ → Type 0
HaveTexts portal staging =
    ((submissions : List Submission) × IsPortal portal submissions × AllByRecursion IsKnown submissions)
    × ((pieces : List StagedPiece) × (batches : ℕ)
    × IsStaging staging (map Piece pieces) (replicate batches (replicate 32 0)))

-- the bytes that submit a plan of operations have texts
abbrev pub EmissionsHaveTexts : Type 0
EmissionsHaveTexts =
    (s : Limits) (plan : Plan) (os : List Operation) → AreInLimits s → CanBeEmittedAs operation_kind s plan os →
    HaveTexts (portal_of spelling_of s plan os) (staging_of spelling_of plan os)

-- so have those of a plan of descriptors
abbrev pub DescriptorsHaveTexts : Type 0
DescriptorsHaveTexts =
    (s : Limits) (plan : Plan) (ds : List Descriptor) → AreInLimits s → CanBeEmitted s plan (map fields ds) →
    HaveTexts (portal_bytes s plan (map fields ds)) (staging_bytes plan (map fields ds))
