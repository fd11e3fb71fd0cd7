use Rattle.std.proofs.Common.{◌≡◌, length}
use Rattle.dsa_advice.specs.Comments.{after_mark}
use Rattle.dsa_advice.proofs.comments.after_mark.Given as goal

abbrev pub invariant-loop-rest : goal.invariant-loop-rest
invariant-loop-rest l = after_mark l.rest ≡ after_mark l.line

abbrev pub decreases-loop-rest : goal.decreases-loop-rest
decreases-loop-rest l = length l.rest
