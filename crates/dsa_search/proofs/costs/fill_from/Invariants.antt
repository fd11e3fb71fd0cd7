use Rattle.std.proofs.Common.{◌-◌, length}
use Rattle.dsa_settings.specs.Settings.{tariff_of}
use Rattle.dsa_search.specs.Filled.{HasProgress}
use Rattle.dsa_search.proofs.costs.fill_from.Given as goal

-- the starts so far have made their offers
abbrev pub invariant-loop-progress : goal.invariant-loop-progress
invariant-loop-progress l = record {
  so_far :
      HasProgress l.settings.greatest_batch (tariff_of l.settings) l.pairs l.progress.start l.progress.chain.0 l.progress.chain.1
      l.progress.leader.start l.progress.leader.chain.0 l.progress.leader.chain.1 l.costs;
}

abbrev pub decreases-loop-progress : goal.decreases-loop-progress
decreases-loop-progress l = length l.pairs - l.progress.start
