-- What is worth a warning about the plan of a list, as C lays it out (this project's choice).
use Rattle.std.specs.Prelude.{◌≡◌, ℕ, ◌==◌, Bool, List, [], map, Option, Some, None, if◌then◌else◌}
use Rattle.dsa_operations.specs.declared.operation.Operation.{Operation}
use Rattle.dsa_operations.specs.Operations.{writes_of}
use Rattle.dsa_settings.specs.Plan.{Plan}
use Rattle.dsa_warnings.specs.declared.concerns.Concern.{Concern}
use Rattle.dsa_warnings.specs.declared.concerns.Concern.TheVariants.{Overlap, SharedRecord, Unchecked, Unguarded}
use Rattle.dsa_warnings.specs.declared.warnings.Warning.{Warning}
use Rattle.dsa_warnings.specs.Concerned.{descriptor_of}
use Rattle.dsa_warnings.specs.Sentences.{warning_words}
use Rattle.dsa_warnings.specs.Warnings.{AreWarnings}
use Rattle.dsa_c.specs.declared.refusal.RawRefusal.{RawRefusal}
use Rattle.dsa_c.specs.declared.settings.RawSettings.{RawSettings}
use Rattle.dsa_c.specs.declared.warnings.RawWarning.{RawWarning}
use Rattle.dsa_c.specs.Planning.{AreOfPlanInto, RefusesOfPlan}

-- a warning of this kind about a piece, and another piece
abbrev pub raw_warning : ℕ → ℕ → ℕ → RawWarning
raw_warning kind piece other = record { kind = kind; piece = piece; other = other }

-- a piece and what is worth a warning about it
abbrev pub raw_concern : ℕ → Concern → RawWarning
raw_concern piece (SharedRecord earlier) = raw_warning 1 piece earlier
raw_concern piece Unchecked = raw_warning 2 piece 0
raw_concern piece Unguarded = raw_warning 3 piece 0
raw_concern piece Overlap = raw_warning 4 piece 0

-- a warning
abbrev pub raw_warning_of : Warning → RawWarning
raw_warning_of w = raw_concern w.piece w.concern

-- what is worth a warning, by the number of its kind
abbrev pub concern_in : RawWarning → Option Concern
concern_in r =
    if r.kind == 1 then Some (SharedRecord r.other) else (
    if r.kind == 2 then Some Unchecked else (if r.kind == 3 then Some Unguarded else (if r.kind == 4 then Some Overlap else None)))

-- the sentence about a piece; none if nothing is worth a warning
abbrev pub words_with : ℕ → Option Concern → List ℕ
words_with piece None = []
words_with piece (Some concern) = warning_words (record { piece = piece; concern = concern })

-- the sentence of a warning
abbrev pub warning_words_of : RawWarning → List ℕ
warning_words_of r = words_with r.piece (concern_in r)

-- the warnings of a plan of pieces and their barriers
pub record AreRawWarningsOf (pieces : List Operation) (barriers : List Bool) (plan : Plan) (raw : List RawWarning) : Type 0 where
  pub warnings : List Warning
  pub are : AreWarnings writes_of descriptor_of pieces barriers plan warnings
  pub raw_are : raw ≡ map raw_warning_of warnings

-- those of the plan that planning the list answers are at the front of the array, and there are so many
abbrev pub AreWarningsInto : RawSettings → List ℕ → List ℕ → List RawWarning → List RawWarning → ℕ → Type 0
AreWarningsInto s table list array new_array count = AreOfPlanInto AreRawWarningsOf s table list array new_array count

-- why nothing is written; the refusal of an array that is too small for the warnings has number 95 (this project's choice)
abbrev pub RefusesWarn : RawSettings → List ℕ → List ℕ → ℕ → RawRefusal → Type 0
RefusesWarn s table list room r = RefusesOfPlan AreRawWarningsOf 95 s table list room r
