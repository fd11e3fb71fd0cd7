use Rattle.std.proofs.Common.{Bool, List, length, map}
use Rattle.dsa_tokens.proofs.Items.{Trail}
use Rattle.dsa_report.specs.Groups.{AreGroups}
use Rattle.dsa_report.specs.Plan.{group_value}
use Rattle.dsa_report.proofs.plan.groups_of.Given as goal

-- the groups of this plan were taken so far
abbrev pub invariant-groups : goal.invariant-groups
invariant-groups l = (plan : List (List Bool)) × Trail l.depth l.initial.reader l.reader (map group_value plan) × AreGroups l.groups plan

abbrev pub decreases-groups : goal.decreases-groups
decreases-groups l = length l.reader
