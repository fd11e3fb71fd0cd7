-- Marks and plans spell each other; and what calls answer of lists without fences or checksums.
use Rattle.std.specs.Prelude.{◌≡◌, ℕ, ◌<◌, true, List, [], ◌∷◌, All, length, map, Ok}
use Rattle.dsa_settings.specs.Plan.{Plan, piece_count}
use Rattle.dsa_descriptor.specs.declared.descriptor.Descriptor.{Descriptor}
use Rattle.dsa_descriptor.specs.Descriptors.{fields}
use Rattle.dsa_descriptor.specs.Fences.{marked_spelling}
use Rattle.dsa_plan.specs.Certificate.{Contents}
use Rattle.dsa_emission.specs.EmissionFaults.{IsEmission}
use Rattle.dsa_calls.specs.Checked.{Checks}
use Rattle.dsa_calls.specs.Fenced.{HasNoFences}
use Rattle.dsa_calls.specs.Judge.{Judges}
use Rattle.dsa_calls.specs.Laws.{IsLeastAndShown}
use Rattle.dsa_calls.specs.Planned.{Submission, Plans}
use Rattle.dsa_resume.specs.Rest.{Remainder}
use Rattle.dsa_resume.specs.Resumed.{Resumes}
use Rattle.dsa_lists.specs.AnyLists.{IsOfDescriptors, counted}
use Rattle.dsa_lists.specs.Resuming.{as_operations}
use Rattle.dsa_lists.specs.Submissions.{OperationSubmission}
use Rattle.dsa_c.specs.declared.resuming.RawResumed.{RawResumed}
use Rattle.dsa_c.specs.declared.settings.RawSettings.{RawSettings}
use Rattle.dsa_c.specs.Marks.{marks_of, plan_of, begins_group}
use Rattle.dsa_c.specs.Checking.{IsCheckedCost}
use Rattle.dsa_c.specs.Judging.{IsJudgedCost}
use Rattle.dsa_c.specs.Planning.{IsPlannedList}
use Rattle.dsa_c.specs.Raw.{limits_of, AreSettings}
use Rattle.dsa_c.specs.Resuming.{IsLeftIn, order_of, resumed_of}

-- the marks of a plan spell it, and there are as many marks as pieces
pub record AreSpelt (plan : Plan) : Type 0 where
  pub spell : plan_of (marks_of plan) ≡ plan
  pub count : length (marks_of plan) ≡ piece_count plan

-- this holds of each plan without empty groups
abbrev pub MarksSpellPlans : Type 0
MarksSpellPlans = (plan : Plan) → All (λ group. 0 < length group) plan → AreSpelt plan

-- marks of two bits; the first mark begins a group
abbrev pub AreMarks : List ℕ → Type 0
AreMarks [] = Unit {0}
AreMarks (first ∷ rest) = (begins_group first ≡ true) × All (λ mark. mark < 4) (first ∷ rest)

-- such marks are those of the plan that they spell
abbrev pub PlansSpellMarks : Type 0
PlansSpellMarks = (marks : List ℕ) → AreMarks marks → marks_of (plan_of marks) ≡ marks

-- this is what planning a list without barriers answers, with its pieces: no legal plan of these costs less, the certificate
-- is good, and checking the bytes alone with it answers the cost
abbrev pub IsPlannedWithoutBarriers : RawSettings → List ℕ → List ℕ → Submission → Type 0
IsPlannedWithoutBarriers s table list p = Plans list (limits_of s table) (Ok p) × IsLeastAndShown (limits_of s table) p

-- a list of descriptors without the flag is planned so
abbrev pub PlannedWithoutFences : Type 0
PlannedWithoutFences = (s : RawSettings) (table list : List ℕ) (p : OperationSubmission) →
    HasNoFences list → IsOfDescriptors list → IsPlannedList s table list p →
    AreSettings s table × ((q : Submission) × (p ≡ counted q) × IsPlannedWithoutBarriers s table list q)

-- and judged so
abbrev pub JudgedWithoutFences : Type 0
JudgedWithoutFences = (s : RawSettings) (table list marks : List ℕ) (cost : ℕ) →
    HasNoFences list → IsOfDescriptors list → IsJudgedCost s table list marks cost →
    AreSettings s table × Judges list (plan_of marks) (limits_of s table) (Ok cost)

-- what checking accepts as submitting descriptors is accepted, at the same cost
abbrev pub CheckedWithoutChecksums : Type 0
CheckedWithoutChecksums = (s : RawSettings) (table portal staging : List ℕ) (c : Contents) (cost : ℕ) →
    AreSettings s table → Checks portal staging (limits_of s table) c (Ok cost) → IsCheckedCost s table portal staging c cost

-- and of bytes that submit descriptors, checking accepts what is accepted
abbrev pub CheckedAsDescriptors : Type 0
CheckedAsDescriptors = (s : RawSettings) (table portal staging : List ℕ) (c : Contents) (cost : ℕ) (plan : Plan) (ds : List Descriptor) →
    IsEmission (limits_of s table) portal staging plan ds → IsCheckedCost s table portal staging c cost →
    AreSettings s table × Checks portal staging (limits_of s table) c (Ok cost)

-- what is left of a list of descriptors is what resuming it answers, and is written as a list of descriptors, with what is
-- left out
abbrev pub ResumedWithoutChecksums : Type 0
ResumedWithoutChecksums = (s : RawSettings) (table list records given_up : List ℕ) (failed_first : ℕ) (bytes : List ℕ) (resumed : RawResumed) →
    IsOfDescriptors list → IsLeftIn s table list records given_up failed_first bytes resumed →
    (rest : Remainder Descriptor) × Resumes (limits_of s table) list records given_up (order_of failed_first) (Ok rest)
    × (bytes ≡ marked_spelling (map fields rest.pieces) rest.barriers) × (resumed ≡ resumed_of (as_operations rest))
