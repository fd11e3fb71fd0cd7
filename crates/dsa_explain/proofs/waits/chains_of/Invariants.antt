use Rattle.std.proofs.Common.{◌≡◌, length}
use Rattle.dsa_explain.specs.Waits.{chains_of}
use Rattle.dsa_explain.proofs.waits.chains_of.Given as goal

abbrev pub invariant-loop-set : goal.invariant-loop-set
invariant-loop-set l =
    record {
      so_far : l.chains.items ≡ chains_of l.slots l.sets l.set-index;
      count : length l.chains.items ≡ l.set-index;
    }
