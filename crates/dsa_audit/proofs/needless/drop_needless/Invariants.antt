use Rattle.dsa_conflicts.specs.Last.{IsLastOf}
use Rattle.dsa_audit.proofs.Reducing.{Reducing}
use Rattle.dsa_audit.proofs.needless.drop_needless.Given as goal

abbrev pub invariant-loop-at : goal.invariant-loop-at
invariant-loop-at l = Reducing (IsLastOf l.lasts) l.reasons.fallible.now l.reasons.visible.now l.reasons.held.now l.fences l.at l.given l.epoch l.uses.items l.kept.items
