use Rattle.dsa_descriptor.proofs.Marked.{read_back}
use Rattle.dsa_descriptor.proofs.writing_list.entries_read_back.Goals as goal

pub returns : goal.returns
returns g c = read_back _ _ _ c.are_entries.ensures
