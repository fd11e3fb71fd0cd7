-- What explanations promise.
use Rattle.std.specs.Prelude.{ℕ, ◌≡◌, ◌*◌, ◌<◌, ◌≤◌, length, count_by, sum_by}
use Rattle.dsa_settings.specs.Plan.{Tariff, Plan, fence_count, plan_cost, piece_count}
use Rattle.dsa_settings.specs.Legal.{IsLeast}
use Rattle.dsa_explain.specs.Cells.{cells_from}
use Rattle.dsa_plan.specs.Costs.{costs_of_groups}

-- a least plan of n pieces costs at most as much as n lone submissions
abbrev pub LeastPlansSave : (ℕ → ℕ → Type 0) → Type 0
LeastPlansSave C =
    (greatest_batch : ℕ) (tariff : Tariff) (n : ℕ) (plan : Plan) → 0 < greatest_batch →
    IsLeast C greatest_batch tariff n plan → plan_cost tariff plan ≤ tariff.lone * n

-- as many cells as pieces, and as many fenced ones as fences
abbrev pub CellsArePiecesAndFences : Type 0
CellsArePiecesAndFences =
    (plan : Plan) → (length (cells_from 0 plan) ≡ piece_count plan)
    × (count_by (λ cell. cell.fenced) (cells_from 0 plan) ≡ sum_by fence_count plan)

-- the costs of the groups add up to the plan's
abbrev pub GroupCostsAddUp : Type 0
GroupCostsAddUp =
    (tariff : Tariff) (plan : Plan) →
    sum_by (λ group. group.cost) (costs_of_groups tariff plan) ≡ plan_cost tariff plan
