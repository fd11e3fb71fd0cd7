use Rattle.std.proofs.Common.{◌≡◌, take}
use Rattle.dsa_settings.specs.Settings.{tariff_of}
use Rattle.dsa_plan.specs.Costs.{costs_of_groups}
use Rattle.dsa_plan.proofs.costs.costs_of_groups.Given as goal

abbrev pub invariant-loop-group : goal.invariant-loop-group
invariant-loop-group l = l.groups.items ≡ costs_of_groups (tariff_of l.settings) (take l.group-index l.group-items)
