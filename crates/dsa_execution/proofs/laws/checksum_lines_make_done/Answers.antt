use Rattle.dsa_core.proofs.Lines as laws
use Rattle.dsa_execution.proofs.laws.checksum_lines_make_done.Goals as goal

pub returns : goal.returns
returns c = record { memory = laws.lines_make_done; value = laws.lines_make_value }
