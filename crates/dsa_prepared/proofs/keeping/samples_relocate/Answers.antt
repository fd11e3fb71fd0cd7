use Rattle.dsa_prepared.proofs.Samples.{sample_may, sample_goes, sample_aligned}
use Rattle.dsa_prepared.proofs.keeping.samples_relocate.Goals as goal

pub returns : goal.returns
returns c = record { may = sample_may; list = sample_goes; aligned = sample_aligned }
