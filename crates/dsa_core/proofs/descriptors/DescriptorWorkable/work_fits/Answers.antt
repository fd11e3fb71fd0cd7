use Rattle.dsa_core.proofs.DescriptorsFit.{descriptors_fit}
use Rattle.dsa_core.proofs.descriptors.DescriptorWorkable.work_fits.Goals as goal

pub returns : goal.returns
returns c = descriptors_fit
