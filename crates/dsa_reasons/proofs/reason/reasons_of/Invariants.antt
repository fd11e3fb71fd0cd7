use Rattle.dsa_reasons.specs.Reasons.{HasReasonsSoFar}
use Rattle.dsa_reasons.proofs.reason.reasons_of.Given as goal

abbrev pub invariant-loop-later : goal.invariant-loop-later
invariant-loop-later g l = HasReasonsSoFar g.P.Touching.reads g.P.Touching.writes l.pieces l.start l.fences l.at l.later l.at l.reasons.items
