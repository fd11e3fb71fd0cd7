use Rattle.std.proofs.Common.{◌≡◌, ◌+◌, length}
use Rattle.dsa_lines.specs.Texts.{before}
use Rattle.dsa_lines.proofs.lines.before.Given as goal

abbrev pub invariant-loop-rest : goal.invariant-loop-rest
invariant-loop-rest l = (l.len + before l.byte l.rest ≡ before l.byte l.text) × (l.len + length l.rest ≡ length l.text)

abbrev pub decreases-loop-rest : goal.decreases-loop-rest
decreases-loop-rest l = length l.rest
