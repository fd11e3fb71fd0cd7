-- What explaining the plan of a list promises.
use Rattle.std.specs.Prelude.{◌≡◌, ℕ, List, map}
use Rattle.dsa_descriptor.specs.declared.descriptor.Descriptor.{Descriptor}
use Rattle.dsa_operations.specs.declared.operation.Operation.{Operation}
use Rattle.dsa_operations.specs.declared.operation.Operation.TheVariants as operation
use Rattle.dsa_operations.specs.Operations as operations
use Rattle.dsa_ranges.specs.Pieces.{writes_of}
use Rattle.dsa_reasons.specs.declared.fences.Fence.{Fence}
use Rattle.dsa_reasons.specs.Sentences.{fence_words}
use Rattle.dsa_c.specs.declared.reasons.RawReason.{RawReason}
use Rattle.dsa_c.specs.declared.refusal.RawRefusal.{RawRefusal}
use Rattle.dsa_c.specs.declared.settings.RawSettings.{RawSettings}
use Rattle.dsa_c.specs.Planning.{AreOfPlanInto, RefusesOfPlan}
use Rattle.dsa_c.specs.Reasons.{AreReasonsOf, raw_reasons, sentence_of}

-- the reasons of the plan that planning the list answers are at the front of the array, and there are so many
abbrev pub IsExplainedInto : RawSettings → List ℕ → List ℕ → List RawReason → List RawReason → ℕ → Type 0
IsExplainedInto s table list array new_array count = AreOfPlanInto AreReasonsOf s table list array new_array count

-- why nothing is written; the refusal of an array that is too small for the reasons has number 94 (this project's choice)
abbrev pub RefusesExplain : RawSettings → List ℕ → List ℕ → ℕ → RawRefusal → Type 0
RefusesExplain s table list room r = RefusesOfPlan AreReasonsOf 94 s table list room r

-- the sentences of the reasons are those that an explanation has for the fences
abbrev pub ReasonsSayAsExplained : Type 0
ReasonsSayAsExplained =
    (pieces : List Operation) (marks : List ℕ) (group : ℕ) (fences : List Fence) →
    map sentence_of (raw_reasons pieces marks group fences) ≡ map (fence_words operations.writes_of pieces) fences

-- of descriptors as operations it has the sentence that it has of descriptors
abbrev pub DescriptorsSayAlike : Type 0
DescriptorsSayAlike =
    (ds : List Descriptor) (fence : Fence) →
    fence_words operations.writes_of (map operation.Descriptor ds) fence ≡ fence_words writes_of ds fence
