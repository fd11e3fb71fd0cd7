use Rattle.std.proofs.Common.{◌≡◌, drop}
use Rattle.dsa_warnings.specs.Warnings.{last_barrier}
use Rattle.dsa_warnings.proofs.warnings.last_barrier.Given as goal

abbrev pub invariant-loop-piece : goal.invariant-loop-piece
invariant-loop-piece l = last_barrier l.piece l.last (drop l.piece l.barriers) ≡ last_barrier 0 0 l.barriers
