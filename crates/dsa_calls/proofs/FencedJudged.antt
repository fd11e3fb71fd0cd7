-- Judging a plan for a list with fences has one outcome.
use Rattle.std.proofs.Common.{◌≡◌, inr, ℕ, Bool, List, map, Result, Ok, Err, subst}
use Rattle.dsa_descriptor.specs.declared.descriptor.Descriptor.{Descriptor}
use Rattle.dsa_descriptor.specs.declared.fault.ListFault.{ListFault}
use Rattle.dsa_descriptor.specs.Descriptors.{fields}
use Rattle.dsa_descriptor.specs.Lists.{IsFirstListFault}
use Rattle.dsa_ranges.specs.Ranges.{ConflictAt}
use Rattle.dsa_settings.specs.Barriers.{WithBarriers}
use Rattle.dsa_settings.specs.Plan.{Plan}
use Rattle.dsa_settings.specs.Settings.{Limits}
use Rattle.dsa_calls.specs.declared.fault.PlanFault.{PlanFault}
use Rattle.dsa_calls.specs.Fault.{list_cause}
use Rattle.dsa_calls.specs.Lists.{IsListOf, OrMemory, IsOrMemory}
use Rattle.dsa_calls.specs.Judge.{JudgesPiecesBy, sizes_of}
use Rattle.dsa_descriptor.specs.Fences.{barriers_of, unfenced_list}
use Rattle.dsa_calls.specs.Fenced.{JudgesFenced}
use Rattle.dsa_calls.proofs.Over.{list_refused, one_over_list, only_outcome}
use Rattle.dsa_calls.proofs.JudgedOnce.{one_judged_by, sizes_alike}

pub one_judged_fenced : (bytes : List ℕ) (plan : Plan) (s : Limits) (o p : Result ℕ PlanFault) → JudgesFenced bytes plan s o → JudgesFenced bytes plan s p → o ≡ p
one_judged_fenced bytes plan s =
    one_over_list (λ fs o. JudgesPiecesBy (WithBarriers (ConflictAt fs) (barriers_of bytes)) (sizes_of fs) plan s o)
    (λ fs o p. one_judged_by (WithBarriers (ConflictAt fs) (barriers_of bytes)) (sizes_of fs) plan s o p) (unfenced_list bytes)

pub judged_refused : (bytes : List ℕ) (plan : Plan) (s : Limits) (cause : ListFault) (fault : PlanFault) → fault ≡ list_cause cause → IsFirstListFault (unfenced_list bytes) cause
    → OrMemory {X = ℕ} {Y = ℕ} (λ cost. cost) (JudgesFenced bytes plan s) (Err fault)
judged_refused bytes plan s cause fault is first =
    list_refused (λ cost. cost) (λ fs o. JudgesPiecesBy (WithBarriers (ConflictAt fs) (barriers_of bytes)) (sizes_of fs) plan s o) (unfenced_list bytes) cause fault is first

pub judged_answer : (bytes : List ℕ) (plan : Plan) (s : Limits) (ds : List Descriptor) (barriers : List Bool) (r : Result ℕ PlanFault) → IsListOf (unfenced_list bytes) ds → barriers ≡ barriers_of bytes
    → JudgesPiecesBy (WithBarriers (ConflictAt (map fields ds)) barriers) (map (λ d. d.size) ds) plan s r → OrMemory (λ cost. cost) (JudgesFenced bytes plan s) r
judged_answer bytes plan s ds barriers r listed is judges =
    go r (inr (ds, listed, subst (λ (marks : List Bool). JudgesPiecesBy (WithBarriers (ConflictAt (map fields ds)) marks) (sizes_of (map fields ds)) plan s r) is sized))
  where
    sized : JudgesPiecesBy (WithBarriers (ConflictAt (map fields ds)) barriers) (sizes_of (map fields ds)) plan s r
    sized = subst (λ (sizes : List ℕ). JudgesPiecesBy (WithBarriers (ConflictAt (map fields ds)) barriers) sizes plan s r) (sizes_alike ds) judges

    go : (o : Result ℕ PlanFault) → JudgesFenced bytes plan s o → OrMemory (λ cost. cost) (JudgesFenced bytes plan s) o
    go (Ok cost) h = h
    go (Err fault) h = inr h

pub judged_only : (bytes : List ℕ) (plan : Plan) (s : Limits) (r : Result ℕ PlanFault) → OrMemory (λ cost. cost) (JudgesFenced bytes plan s) r → (o : Result ℕ PlanFault) → JudgesFenced bytes plan s o
    → IsOrMemory (λ cost. cost) o r
judged_only bytes plan s r told = only_outcome (λ cost. cost) (JudgesFenced bytes plan s) (one_judged_fenced bytes plan s) r told
