use Rattle.dsa_c.proofs.WithoutFences.{checked_as_descriptors, checked_without_checksums}
use Rattle.dsa_c.proofs.laws.checked_without_checksums.Goals as goal

pub returns-clause-there : goal.returns-clause-there
returns-clause-there c = checked_without_checksums

pub returns-clause-back : goal.returns-clause-back
returns-clause-back c = checked_as_descriptors
