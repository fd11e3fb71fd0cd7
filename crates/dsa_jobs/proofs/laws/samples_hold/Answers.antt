use Rattle.std.proofs.Common.{refl}
use Rattle.dsa_jobs.specs.Jobs.{lines_of}
use Rattle.dsa_jobs.proofs.laws.samples_hold.Goals as goal

pub returns-clause-lines : goal.returns-clause-lines
unfolding lines_of
returns-clause-lines c = refl

pub returns-clause-last : goal.returns-clause-last
unfolding lines_of
returns-clause-last c = refl

pub returns-clause-nothing : goal.returns-clause-nothing
unfolding lines_of
returns-clause-nothing c = refl

pub returns-clause-begun : goal.returns-clause-begun
unfolding lines_of
returns-clause-begun c = refl
