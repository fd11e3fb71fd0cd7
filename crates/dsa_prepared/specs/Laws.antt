-- What filling writes, and what it requires.
use Rattle.std.specs.Prelude.{◌≡◌, ℕ, List, length, Ok}
use Rattle.std.specs.List.{AllByRecursion}
use Rattle.dsa_descriptor.specs.declared.descriptor.Descriptor.{Descriptor}
use Rattle.dsa_descriptor.specs.declared.span.Span.{Span}
use Rattle.dsa_settings.specs.Plan.{Plan}
use Rattle.dsa_settings.specs.Settings.{Limits}
use Rattle.dsa_emission.specs.Emission.{portal_of, staging_of}
use Rattle.dsa_calls.specs.Fenced.{HasNoFences}
use Rattle.dsa_calls.specs.Lists.{IsListOf}
use Rattle.dsa_calls.specs.Planned.{Submission, Plans}
use Rattle.dsa_operations.specs.declared.operation.Operation.{Operation}
use Rattle.dsa_lists.specs.Submissions.{OperationSubmission}
use Rattle.dsa_prepared.specs.Relocated.{relocated_spelling}
use Rattle.dsa_prepared.specs.Regions.{relocated, AllPiecesLie}
use Rattle.dsa_prepared.specs.Submissions.{staged_at}
use Rattle.dsa_prepared.specs.Listed.{IsAlignedThere}
use Rattle.dsa_prepared.specs.Templates.{template_of, filled_portal, filled_staging, Template}
use Rattle.dsa_prepared.specs.Preparing.{IsAnyPreparedOf, IsPreparedOf, relocation}
use Rattle.dsa_prepared.specs.Filling.{HasBases, AllAligned, AllTied, CanFill, IsAnyPlannedAnew, IsPlannedAnew}

-- a filled template has the bytes that submit the same plan of the relocated pieces, whatever the bases are
abbrev pub FilledIsEmission : Type 0
FilledIsEmission =
    (rs : List Span) (bases : List ℕ) (staging : ℕ) (s : Limits) (operations pieces : List Operation) (plan : Plan) →
    length bases ≡ length rs → AllPiecesLie rs pieces →
    (filled_portal (template_of rs operations plan pieces) bases staging
    ≡ portal_of (relocated_spelling (relocated (relocation rs bases))) (staged_at staging s) plan pieces)
    × (filled_staging (template_of rs operations plan pieces) bases staging
    ≡ staging_of (relocated_spelling (relocated (relocation rs bases))) plan pieces)

-- if bases keep the units and the ties of operations, each operation is aligned at its relocated addresses
abbrev pub AlignedBasesAlign : Type 0
AlignedBasesAlign =
    (rs : List Span) (bases : List ℕ) (operations pieces : List Operation) (plan : Plan) →
    length bases ≡ length rs → AllPiecesLie rs operations →
    AllAligned (template_of rs operations plan pieces) bases →
    AllTied (template_of rs operations plan pieces) bases →
    AllByRecursion (IsAlignedThere (relocated (relocation rs bases))) operations

-- what is filled of a prepared list is what planning the list on the new buffers answers
abbrev pub FilledIsPlanned : Type 0
FilledIsPlanned =
    (list : List ℕ) (s : Limits) (rs : List Span) (ds : List Descriptor) (t : Template) (bases : List ℕ) (staging : ℕ) →
    IsPreparedOf list s rs ds t → HasBases t bases → CanFill t bases staging →
    (p : Submission) × IsPlannedAnew rs bases staging s list ds p
    × (p.portal ≡ filled_portal t bases staging) × (p.staging ≡ filled_staging t bases staging)

-- the same of a list that may have checksums
abbrev pub FilledAnyIsPlanned : Type 0
FilledAnyIsPlanned =
    (list : List ℕ) (s : Limits) (rs : List Span) (operations : List Operation) (t : Template) (bases : List ℕ) (staging : ℕ) →
    IsAnyPreparedOf list s rs operations t → HasBases t bases → CanFill t bases staging →
    (p : OperationSubmission) × IsAnyPlannedAnew rs bases staging s list operations p
    × (p.portal ≡ filled_portal t bases staging) × (p.staging ≡ filled_staging t bases staging)

-- a list without the flag spells the operations of which it is prepared, and planning it without barriers answers the
-- submission that is prepared
abbrev pub PreparedWithoutFences : Type 0
PreparedWithoutFences =
    (list : List ℕ) (s : Limits) (rs : List Span) (ds : List Descriptor) (t : Template) →
    HasNoFences list → (prepared : IsPreparedOf list s rs ds t) →
    IsListOf list ds × Plans list s (Ok prepared.submission)
