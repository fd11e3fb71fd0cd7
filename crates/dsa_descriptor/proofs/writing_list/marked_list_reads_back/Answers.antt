use Rattle.dsa_descriptor.proofs.Marked.{marked_list_reads_back}
use Rattle.dsa_descriptor.proofs.writing_list.marked_list_reads_back.Goals as goal

pub returns : goal.returns
returns c = marked_list_reads_back
