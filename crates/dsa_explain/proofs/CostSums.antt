-- The costs of the groups of a plan.
use Rattle.std.proofs.Common.{ℕ, ◌+◌, [], ◌∷◌, refl, sym, ap, ◌∙◌}
use Rattle.std.proofs.lemmas.List.Sums.{sum_by-cons}
use Rattle.dsa_settings.specs.Plan.{group_cost}
use Rattle.dsa_plan.specs.declared.costs.GroupCost.{GroupCost}
use Rattle.dsa_plan.specs.Costs.{costs_of_group, costs_of_groups}
use Rattle.dsa_explain.specs.Laws.{GroupCostsAddUp}

pub costs_add_up : GroupCostsAddUp
costs_add_up tariff [] = refl
costs_add_up tariff (g ∷ plan) =
    sum_by-cons (λ (p : GroupCost). p.cost) (costs_of_group tariff g) (costs_of_groups tariff plan)
    ∙ ap (λ (n : ℕ). group_cost tariff g + n) (costs_add_up tariff plan)
    ∙ sym (sum_by-cons (group_cost tariff) g plan)
