use Rattle.dsa_core.proofs.Barriers.{nothing_passes_a_barrier, legal_without_barriers}
use Rattle.dsa_core.proofs.laws.nothing_passes_a_barrier.Goals as goal

pub returns : goal.returns
returns c = record { passes = nothing_passes_a_barrier; legal = legal_without_barriers }
