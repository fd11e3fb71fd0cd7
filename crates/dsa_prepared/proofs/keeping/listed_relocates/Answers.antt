use Rattle.dsa_prepared.proofs.Listed.{listed_relocates}
use Rattle.dsa_prepared.proofs.keeping.listed_relocates.Goals as goal

pub returns : goal.returns
returns c = listed_relocates
