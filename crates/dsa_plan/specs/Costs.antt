-- What the groups of a plan cost.
use Rattle.std.specs.Prelude.{ℕ, ◌≡◌, ◌*◌, List, length, map}
use Rattle.dsa_settings.specs.Plan.{Tariff, Group, Plan, fence_count, group_cost, plan_cost}
use Rattle.dsa_settings.specs.Settings.{Limits, tariff_of}
use Rattle.dsa_plan.specs.declared.costs.GroupCost.{GroupCost}
use Rattle.dsa_plan.specs.declared.costs.Costs.{Costs}

-- how many pieces and fences a group has, and its cost
abbrev pub costs_of_group : Tariff → Group → GroupCost
costs_of_group tariff group =
    record { size = length group; fences = fence_count group; cost = group_cost tariff group }

-- the same for each group, in order
abbrev pub costs_of_groups : Tariff → Plan → List GroupCost
costs_of_groups tariff plan = map (costs_of_group tariff) plan

-- the costs of the groups and of the plan, and that of so many lone submissions
pub record AreCosts (s : Limits) (pieces : ℕ) (plan : Plan) (costs : Costs) : Type 0 where
  pub groups : costs.groups.items ≡ costs_of_groups (tariff_of s) plan
  pub cost : costs.cost ≡ plan_cost (tariff_of s) plan
  pub lone : costs.lone ≡ s.lone * pieces
