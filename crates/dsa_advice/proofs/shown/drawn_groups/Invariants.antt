use Rattle.std.proofs.Common.{◌≡◌, ◌≤◌, ◌+◌, length}
use Rattle.dsa_advice.specs.Shown.{drawn_groups}
use Rattle.dsa_advice.proofs.shown.drawn_groups.Given as goal

-- what is drawn of the groups so far and of those that are left
abbrev pub invariant-loop-rest : goal.invariant-loop-rest
invariant-loop-rest l =
    (l.drawn + drawn_groups l.first l.last l.rest ≡ drawn_groups l.fn.range.first l.fn.range.last l.groups)
    × (l.drawn + length l.rest ≤ length l.groups)

abbrev pub decreases-loop-rest : goal.decreases-loop-rest
decreases-loop-rest l = length l.rest
