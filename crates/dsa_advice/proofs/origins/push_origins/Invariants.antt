use Rattle.std.proofs.Common.{◌≡◌, ◌++◌}
use Rattle.dsa_advice.specs.Origins.{first_origins}
use Rattle.dsa_advice.proofs.origins.push_origins.Given as goal

abbrev pub invariant-loop-piece : goal.invariant-loop-piece
invariant-loop-piece l = l.origins.items ≡ l.fn.origins.items ++ first_origins l.operation l.pieces l.piece
