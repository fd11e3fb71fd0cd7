use Rattle.std.proofs.Common.{◌≡◌}
use Rattle.dsa_explain.specs.Waits.{longest}
use Rattle.dsa_explain.proofs.waits.longest.Given as goal

abbrev pub invariant-loop-chain : goal.invariant-loop-chain
invariant-loop-chain l = l.longest ≡ longest l.chains l.chain-index
