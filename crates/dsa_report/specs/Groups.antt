-- ---- for private clauses: the groups of a plan, as far as they are kept
use Rattle.std.specs.Prelude.{◌≡◌, ◌≢◌, ◌↔◌, ◌<◌, Bool, true, false, IsTrue, List, [], ◌∷◌, ◌++◌, length, take, drop, Option}
use Rattle.std.specs.List.{flat_map}
use Rattle.serde_json.specs.Data.{Data, array, Items}
use Rattle.dsa_tokens.specs.Spelled.{ReadsKept}
use Rattle.dsa_report.specs.Plan.{group_value, kept_plan, most_groups, plan_value}
use Rattle.dsa_report.specs.declared.plan.Groups.{Groups}

-- what is kept is of this plan
pub record AreGroups (g : Groups) (plan : List (List Bool)) : Type 0 where
  pub first : g.first.items ≡ take most_groups plan
  pub rest : g.rest.items ≡ flat_map (λ flags. flags) (drop most_groups plan)
  pub has_rest : IsTrue g.has_rest ↔ (most_groups < length plan)

-- the value is a group, which was added to those that are kept, or it is none
abbrev pub AddsGroup : Groups → Groups → Data → Bool → Type 0
AddsGroup old new d true =
    (group : List Bool) × (d ≡ group_value group) × ((plan : List (List Bool)) → AreGroups old plan → AreGroups new (plan ++ group ∷ []))
AddsGroup old new d false = (group : List Bool) → d ≢ group_value group

-- the items are those of a plan, of which this is kept, or are not
abbrev pub ReadsGroups : Items → Option (List (List Bool)) → Type 0
ReadsGroups ds found = ReadsKept {X = List (List Bool)} plan_value kept_plan (λ plan. plan) (array ds) found
