use Rattle.dsa_audit.specs.Repeats.{OrderMatters}
use Rattle.dsa_audit.proofs.Accepting.{LeftFrom}
use Rattle.dsa_audit.proofs.accepted.last_left.Given as goal

abbrev pub invariant-loop-i : goal.invariant-loop-i
invariant-loop-i g l = LeftFrom (OrderMatters l.relation.actions.now l.relation.members.now) (g.A.Acceptance.lists l.acceptance) l.later l.i

abbrev pub decreases-loop-i : goal.decreases-loop-i
decreases-loop-i g l = l.i
