use Rattle.dsa_conflicts.specs.Last.{IsLastOf}
use Rattle.dsa_audit.specs.Steps.{NoneAcross}
use Rattle.dsa_audit.proofs.needless.across.Given as goal

abbrev pub invariant-loop-later : goal.invariant-loop-later
invariant-loop-later l = NoneAcross (IsLastOf l.lasts) l.epoch l.at l.later
