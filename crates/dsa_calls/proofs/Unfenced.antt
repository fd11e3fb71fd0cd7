-- A list whose fences say nothing is planned as without them.
use Rattle.std.proofs.Common.{◌≡◌, ℕ, suc, ◌<◌, ◌↔◌, inl, inr, Bool, true, false, List, [], ◌∷◌, map, Result, Ok, Err, refl, sym, subst, ◌∙◌, arith}
use Rattle.std.specs.List.{list_any}
use Rattle.dsa_descriptor.specs.declared.descriptor.Descriptor.{Descriptor}
use Rattle.dsa_descriptor.specs.Lists.{entries}
use Rattle.dsa_descriptor.proofs.Plain.{none_listed, unfenced_stays}
use Rattle.dsa_descriptor.proofs.Seen.{cond_false, list_any-of}
use Rattle.dsa_descriptor.specs.Fields.{Fields}
use Rattle.dsa_descriptor.specs.Descriptors.{fields}
use Rattle.dsa_ranges.specs.Ranges.{ConflictAt}
use Rattle.dsa_settings.specs.Barriers.{IsBarrier, WithBarriers}
use Rattle.dsa_settings.specs.Plan.{Plan}
use Rattle.dsa_settings.specs.Settings.{Limits}
use Rattle.dsa_calls.specs.declared.fault.PlanFault.{PlanFault}
use Rattle.dsa_calls.specs.Judge.{Judges, JudgesPieces, JudgesPiecesBy, sizes_of}
use Rattle.dsa_calls.specs.Lists.{IsListOf, OverList}
use Rattle.dsa_calls.specs.Planned.{Plans, PlansOperations}
use Rattle.dsa_descriptor.specs.Fences.{fences_of, unfenced_list, after_first, barriers_of}
use Rattle.dsa_calls.specs.Fenced.{JudgesFenced, PlansWith, PlansFenced, NoMarksPlanAlike, NoBarriersPlanAlike, NoFencesPlanAlike, NoFencesJudgeAlike}
use Rattle.dsa_calls.proofs.Submissions.{of_pieces, submission_of_operations}

-- ---- marks that are not set

abbrev AreUnset : List Bool → Type 0
AreUnset marks = (k : ℕ) → IsBarrier marks k → ⊥

-- only the first mark may be set
abbrev AreUnsetLater : List Bool → Type 0
AreUnsetLater marks = (k : ℕ) → 0 < k → IsBarrier marks k → ⊥

none_set : (marks : List Bool) → AreUnset marks → list_any (λ mark. mark) marks ≡ false
none_set [] none = refl
none_set (true ∷ marks) none = absurd (none 0 refl)
none_set (false ∷ marks) none = none_set marks (λ k is. none (suc k) is)

none_after_first : (marks : List Bool) → AreUnsetLater marks → list_any (λ mark. mark) (after_first marks) ≡ false
none_after_first [] none = refl
none_after_first (mark ∷ marks) none = none_set marks (λ k is. none (suc k) (omega arith) is)

-- then there are no barriers
pub no_barriers : (bytes : List ℕ) → AreUnsetLater (fences_of bytes) → barriers_of bytes ≡ []
no_barriers bytes none =
    cond_false (list_any (λ mark. mark) (after_first (fences_of bytes))) (after_first (fences_of bytes)) (none_after_first (fences_of bytes) none)

-- ---- planning

-- planning operations without barriers says what planning operations says
pub no_marks_plan_alike : NoMarksPlanAlike
unfolding WithBarriers
no_marks_plan_alike s fs (Ok p) = (λ h. submission_of_operations s fs p h.split h.pieces_are h.of_pieces, λ h. record { split = h.split; pieces_are = h.pieces_are; of_pieces = of_pieces s fs p h })
no_marks_plan_alike s fs (Err fault) = (λ h. h, λ h. h)

over_goes : {X : Type 0} (Says Tells : List Fields → Result X PlanFault → Type 0) → ((fs : List Fields) (o : Result X PlanFault) → Says fs o → Tells fs o) → (bytes : List ℕ) (o : Result X PlanFault)
    → OverList Says bytes o → OverList Tells bytes o
over_goes Says Tells to bytes o (inl refused) = inl refused
over_goes Says Tells to bytes o (inr (ds, list, says)) = inr (ds, list, to (map fields ds) o says)

pub no_barriers_plan_alike : NoBarriersPlanAlike
no_barriers_plan_alike bytes s outcome none =
    subst (λ (marks : List Bool). OverList (PlansWith marks s) (unfenced_list bytes) outcome ↔ Plans (unfenced_list bytes) s outcome) (sym (no_barriers bytes none)) (
      over_goes (PlansWith [] s) (PlansOperations s) (λ fs o. (no_marks_plan_alike s fs o).0) (unfenced_list bytes) outcome,
      over_goes (PlansOperations s) (PlansWith [] s) (λ fs o. (no_marks_plan_alike s fs o).1) (unfenced_list bytes) outcome,
    )

-- ---- bytes with no flag

-- the bytes are the same without it
pub unfenced_unset : (bytes : List ℕ) → AreUnset (fences_of bytes) → unfenced_list bytes ≡ bytes
unfenced_unset bytes none = unfenced_stays bytes (sym (list_any-of (entries bytes)) ∙ none_set (fences_of bytes) none)

-- so what a list spells it spells without its fences
pub listed_unfenced : (bytes : List ℕ) (ds : List Descriptor) → IsListOf bytes ds → IsListOf (unfenced_list bytes) ds
listed_unfenced bytes ds listed =
    subst (λ (b : List ℕ). IsListOf b ds) (sym (unfenced_stays bytes (none_listed bytes ds listed.spelled listed.owner))) listed

-- judging without barriers says what judging says
no_marks_judge_alike : (plan : Plan) (s : Limits) (fs : List Fields) (outcome : Result ℕ PlanFault) → JudgesPiecesBy (WithBarriers (ConflictAt fs) []) (sizes_of fs) plan s outcome ↔ JudgesPieces fs plan s outcome
unfolding WithBarriers
no_marks_judge_alike plan s fs (Ok cost) = (λ h. h, λ h. h)
no_marks_judge_alike plan s fs (Err fault) = (λ h. h, λ h. h)

pub no_fences_judge_alike : NoFencesJudgeAlike
no_fences_judge_alike bytes plan s outcome none =
    subst (λ (plain : List ℕ). JudgesFenced bytes plan s outcome ↔ Judges plain plan s outcome) (unfenced_unset bytes none)
    (subst (λ (marks : List Bool). OverList (λ fs o. JudgesPiecesBy (WithBarriers (ConflictAt fs) marks) (sizes_of fs) plan s o) (unfenced_list bytes) outcome ↔ Judges (unfenced_list bytes) plan s outcome)
    (sym (no_barriers bytes (λ k some is. none k is))) (
      over_goes (λ fs o. JudgesPiecesBy (WithBarriers (ConflictAt fs) []) (sizes_of fs) plan s o) (λ fs o. JudgesPieces fs plan s o) (λ fs o. (no_marks_judge_alike plan s fs o).0) (unfenced_list bytes) outcome,
      over_goes (λ fs o. JudgesPieces fs plan s o) (λ fs o. JudgesPiecesBy (WithBarriers (ConflictAt fs) []) (sizes_of fs) plan s o) (λ fs o. (no_marks_judge_alike plan s fs o).1) (unfenced_list bytes) outcome,
    ))

pub no_fences_plan_alike : NoFencesPlanAlike
no_fences_plan_alike bytes s outcome none =
    subst (λ (plain : List ℕ). PlansFenced bytes s outcome ↔ Plans plain s outcome) (unfenced_unset bytes none)
    (no_barriers_plan_alike bytes s outcome (λ k some is. none k is))
