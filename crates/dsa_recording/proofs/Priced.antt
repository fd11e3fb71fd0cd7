-- What a plan of submissions costs, as the sum of what each of them does.
use Rattle.std.proofs.Common.{ℕ, ◌≡◌, ◌+◌, ◌≤◌, Bool, true, false, List, [], ◌∷◌, length, take, min, refl, sym, ap, ◌∙◌, arith}
use Rattle.std.specs.Prelude.{if◌then◌else◌}
use Rattle.std.specs.List.{sum_by}
use Rattle.std.proofs.lemmas.List.{take_all}
use Rattle.std.proofs.lemmas.List.Sums.{sum_by-append}
use Rattle.dsa_settings.specs.Plan.{Tariff, Group, Plan, group_cost, plan_cost}
use Rattle.dsa_settings.specs.Settings.{Limits, tariff_of}
use Rattle.dsa_recording.specs.declared.costs.FenceSet.{FenceSet}
use Rattle.dsa_recording.specs.declared.submission.Audited.{Audited}
use Rattle.dsa_recording.specs.Costs.{has_price, fences_of, plan_of, submission_cost}

one_more : {A : Type 0} (f : A → ℕ) (x : A) (xs : List A) → sum_by f (x ∷ xs) ≡ f x + sum_by f xs
one_more f x xs =
    let one : sum_by f (x ∷ []) ≡ 0 + f x = refl in
    let step : sum_by f (x ∷ xs) ≡ sum_by f (x ∷ []) + sum_by f xs = sum_by-append f (x ∷ []) xs in
    omega (arith, one, step)

-- with a group or without it
with_group : (t : Tariff) (b : Bool) (g : Group) (rest : Plan) (sum : ℕ) → plan_cost t rest ≡ sum
    → plan_cost t (if b then g ∷ rest else rest) ≡ (if b then group_cost t g else 0) + sum
with_group t true g rest sum e = one_more (group_cost t) g rest ∙ ap (λ (n : ℕ). group_cost t g + n) e
with_group t false g rest sum e = let none : 0 + sum ≡ sum = omega arith in e ∙ sym none

pub cost_is_sum : (s : Limits) (set : FenceSet) (audits : List Audited)
    → plan_cost (tariff_of s) (plan_of s.greatest_batch set audits) ≡ sum_by (λ a. submission_cost s a.is_batch (fences_of set a)) audits
unfolding plan_of
cost_is_sum s set [] = refl
cost_is_sum s set (a ∷ audits) =
    with_group (tariff_of s) (has_price s.greatest_batch a.is_batch (fences_of set a)) (fences_of set a) (plan_of s.greatest_batch set audits) _ (cost_is_sum s set audits)
    ∙ sym (one_more (λ (x : Audited). submission_cost s x.is_batch (fences_of set x)) a audits)

pub all_summed : (s : Limits) (set : FenceSet) (audits : List Audited) (i cost : ℕ) → length audits ≤ i
    → cost ≡ min (sum_by (λ a. submission_cost s a.is_batch (fences_of set a)) (take i audits)) 18446744073709551615
    → cost ≡ min (plan_cost (tariff_of s) (plan_of s.greatest_batch set audits)) 18446744073709551615
all_summed s set audits i cost le so_far =
    let all : take i audits ≡ audits = take_all i audits le in
    so_far
    ∙ ap (λ (l : List Audited). min (sum_by (λ a. submission_cost s a.is_batch (fences_of set a)) l) 18446744073709551615) all
    ∙ ap (λ (n : ℕ). min n 18446744073709551615) (sym (cost_is_sum s set audits))
