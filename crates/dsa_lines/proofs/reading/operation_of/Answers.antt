use Rattle.dsa_lines.specs.Words.{words_of}
use Rattle.dsa_lines.specs.Views.{view}
use Rattle.dsa_lines.proofs.OneLine.{read_fields}
use Rattle.dsa_lines.proofs.reading.operation_of.Goals as goal

pub returns-in-Ok-read-clause-gives : goal.returns-in-Ok-read-clause-gives
returns-in-Ok-read-clause-gives c =
    read_fields (words_of c.args.text.now) (view c.in-Ok.line) c.bytes.result c.in-Ok-read.operation c.in-Ok.ensures.gives c.bytes.ensures c.in-Ok-read.ensures.found
