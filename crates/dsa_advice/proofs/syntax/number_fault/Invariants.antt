use Rattle.std.proofs.Common.{length}
use Rattle.dsa_advice.proofs.syntax.number_fault.Given as goal

abbrev pub decreases-tokens : goal.decreases-tokens
decreases-tokens l = length l.reader
