use Rattle.std.proofs.Common.{length}
use Rattle.dsa_waits.specs.Lines.{SpellsUpTo}
use Rattle.dsa_waits.proofs.lines.read_lines.Given as goal

abbrev pub invariant-loop-rest : goal.invariant-loop-rest
invariant-loop-rest l = SpellsUpTo l.text l.lines.items l.rest

abbrev pub decreases-loop-rest : goal.decreases-loop-rest
decreases-loop-rest l = length l.rest
