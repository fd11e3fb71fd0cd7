use Rattle.std.specs.Prelude.{string_bytes}
use Rattle.dsa_lines.proofs.StagingAnswers.{only_text, refused_text}
use Rattle.dsa_lines.proofs.staging.disassemble_staging.Goals as goal

pub returns-clause-only : goal.returns-clause-only
returns-clause-only c = only_text _ string_bytes c.args.bytes.now c.args.at c.text_of_staging.result (c.text_of_staging.ensures.ok, c.text_of_staging.ensures.err)

pub returns-clause-refused : goal.returns-clause-refused
returns-clause-refused c = refused_text _ string_bytes c.args.bytes.now c.args.at c.text_of_staging.result (c.text_of_staging.ensures.ok, c.text_of_staging.ensures.err)
