use Rattle.dsa_settings.specs.Barriers.{WithBarriers}
use Rattle.dsa_settings.proofs.legal.is_legal.Goals as goal

pub returns-clause-legal : goal.returns-clause-legal
unfolding WithBarriers
returns-clause-legal c = c.is_legal_with.ensures.legal

pub returns-clause-fault : goal.returns-clause-fault
unfolding WithBarriers
returns-clause-fault c = c.is_legal_with.ensures.fault
