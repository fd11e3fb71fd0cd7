use Rattle.dsa_descriptor.proofs.Fenced.{fenced_alike}
use Rattle.dsa_descriptor.proofs.writing_list.descriptors_are_fenced_alike.Goals as goal

pub returns : goal.returns
returns c = fenced_alike
