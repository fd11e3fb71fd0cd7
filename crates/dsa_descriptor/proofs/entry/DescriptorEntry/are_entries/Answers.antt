use Rattle.dsa_descriptor.proofs.Listed.{are_entries}
use Rattle.dsa_descriptor.proofs.entry.DescriptorEntry.are_entries.Goals as goal

pub returns : goal.returns
returns c = are_entries
