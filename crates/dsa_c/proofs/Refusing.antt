-- Why calls refuse, and what planning answers.
use Rattle.std.proofs.Common.{List, Result, ℕ, ◌≡◌, ◌⊎◌, ◌<◌, Ok, Err, inl, inr, length, refl, sym, ap, subst, ◌∙◌, arith}
use Rattle.dsa_settings.specs.Settings.{Limits}
use Rattle.dsa_plan.specs.Certificate.{Contents}
use Rattle.dsa_settings.specs.Plan.{piece_count}
use Rattle.dsa_calls.specs.declared.fault.PlanFault.{PlanFault}
use Rattle.dsa_calls.specs.declared.fault.PlanFault.TheVariants.{Memory}
use Rattle.dsa_calls.specs.declared.checking.FencedFault.{FencedFault}
use Rattle.dsa_calls.specs.declared.checking.FencedFault.TheVariants.{Call}
use Rattle.dsa_lists.specs.AnyLists.{ChecksAnyList, IsLeastEmissionOfAnyList, IsLeastOfAnyList, PlansAnyList}
use Rattle.dsa_lists.specs.Submissions.{OperationSubmission}
use Rattle.dsa_c.specs.declared.settings.RawSettings.{RawSettings}
use Rattle.dsa_c.specs.declared.refusal.RawRefusal.{RawRefusal}
use Rattle.dsa_c.specs.Raw.{limits_of, AreSettings, RefusesUnder, refusal_of, no_room}
use Rattle.dsa_c.specs.Checking.{IsCheckedListCost}
use Rattle.dsa_c.specs.Planning.{IsPlannedList, Refuses, RefusesToPlan}

-- a call has a fault, or an allocation failed
pub refuses : {F : Type 0} (refusal_of_fault : F → RawRefusal) (HasFault : Limits → F → Type 0) (memory : F) (s : RawSettings) (table : List ℕ) (l : Limits) (fault : F) (r : RawRefusal)
    → refusal_of_fault memory ≡ refusal_of Memory → l ≡ limits_of s table → AreSettings s table → (fault ≡ memory) ⊎ HasFault l fault → r ≡ refusal_of_fault fault
    → RefusesUnder refusal_of_fault HasFault s table r
refuses refusal_of_fault HasFault memory s table l fault r same is are (inl none) value = inr (inl (value ∙ ap refusal_of_fault none ∙ same, are))
refuses refusal_of_fault HasFault memory s table l fault r same is are (inr refused) value = inr (inr (fault, are, subst (λ (x : Limits). HasFault x fault) is refused, value))

-- what planning a list that may have checksums answers under the settings that the numbers are
pub planned_list : (s : RawSettings) (table list : List ℕ) (l : Limits) (p : OperationSubmission) → l ≡ limits_of s table → AreSettings s table
    → PlansAnyList list l (Ok p) → IsLeastOfAnyList list l p → ChecksAnyList list p.portal p.staging l p.certificate (Ok p.cost) → IsPlannedList s table list p
planned_list s table list l p is are planned least checks =
    record {
      settings = are;
      planned = subst (λ (x : Limits). PlansAnyList list x (Ok p)) is planned;
      least = subst (λ (x : Limits). IsLeastOfAnyList list x p) is least;
      checks = subst (λ (x : Limits). ChecksAnyList list p.portal p.staging x p.certificate (Ok p.cost)) is checks;
    }

-- its plan has as many pieces as were planned
pub as_many : (list : List ℕ) (l : Limits) (p : OperationSubmission) → IsLeastOfAnyList list l p → piece_count p.plan ≡ p.pieces
as_many list l p (inl (q, least, is)) = ap (λ (x : OperationSubmission). piece_count x.plan) is ∙ least.least.legal.covers ∙ sym (ap (λ (x : OperationSubmission). x.pieces) is)
as_many list l p (inr least) = least.least.legal.covers ∙ sym least.pieces_are

-- planning it refuses
pub refuses_any_list : (s : RawSettings) (table list : List ℕ) (l : Limits) (fault : PlanFault) (r : RawRefusal) → l ≡ limits_of s table → AreSettings s table
    → (fault ≡ Memory) ⊎ PlansAnyList list l (Err fault) → r ≡ refusal_of fault → RefusesToPlan s table list r
refuses_any_list s table list l fault r = refuses refusal_of (λ x f. PlansAnyList list x (Err f)) Memory s table l fault r refl

-- a buffer is too small
pub refuses_buffers : (s : RawSettings) (table list : List ℕ) (portal staging : ℕ) (p : OperationSubmission) (r : RawRefusal) → IsPlannedList s table list p
    → (portal < length p.portal) ⊎ (staging < length p.staging) → r ≡ no_room (length p.portal) (length p.staging) → Refuses s table list portal staging r
refuses_buffers s table list portal staging p r planned (inl short) value = inr (p, planned, (λ fits. omega (arith, fits.0, short)), value)
refuses_buffers s table list portal staging p r planned (inr short) value = inr (p, planned, (λ fits. omega (arith, fits.1, short)), value)

-- why a call for a list refuses
pub list_fault : (Refused : FencedFault → Type 0) (fault : FencedFault) → (◌≡◌ {A = Result ℕ FencedFault} (Err fault) (Err (Call Memory))) ⊎ Refused fault
    → (fault ≡ Call Memory) ⊎ Refused fault
list_fault Refused fault (inl memory) =
    let cause : fault ≡ Call Memory = cc in
    inl cause
list_fault Refused fault (inr refused) = inr refused

-- what checking for a list answers
pub checked_list_cost : (s : RawSettings) (table list portal staging : List ℕ) (l : Limits) (c d : Contents) (cost : ℕ) → l ≡ limits_of s table → AreSettings s table → d ≡ c
    → (◌≡◌ {A = Result ℕ FencedFault} (Ok cost) (Err (Call Memory))) ⊎ ChecksAnyList list portal staging l d (Ok cost) → IsLeastEmissionOfAnyList list portal staging l cost
    → IsCheckedListCost s table list portal staging c cost
checked_list_cost s table list portal staging l c d cost is are same (inl memory) least = cc
checked_list_cost s table list portal staging l c d cost is are same (inr checks) least =
    let for_c = subst (λ (x : Contents). ChecksAnyList list portal staging l x (Ok cost)) same checks in
    record {
      settings = are;
      checks = subst (λ (x : Limits). ChecksAnyList list portal staging x c (Ok cost)) is for_c;
      least = subst (λ (x : Limits). IsLeastEmissionOfAnyList list portal staging x cost) is least;
    }
