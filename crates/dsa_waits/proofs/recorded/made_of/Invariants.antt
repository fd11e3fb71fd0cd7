use Rattle.dsa_waits.specs.RecordedSteps.{AreMade}
use Rattle.dsa_waits.proofs.recorded.made_of.Given as goal

abbrev pub invariant-loop-number : goal.invariant-loop-number
invariant-loop-number l = AreMade l.all l.submissions l.queues l.watched l.failed l.number l.made.items
