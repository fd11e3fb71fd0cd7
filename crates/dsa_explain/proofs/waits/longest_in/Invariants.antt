use Rattle.std.proofs.Common.{◌≡◌}
use Rattle.dsa_explain.specs.Waits.{longest_in}
use Rattle.dsa_explain.proofs.waits.longest_in.Given as goal

abbrev pub invariant-loop-number : goal.invariant-loop-number
invariant-loop-number l = l.longest ≡ longest_in l.slots l.set l.chains l.number
