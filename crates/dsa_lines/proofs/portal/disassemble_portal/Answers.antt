use Rattle.std.specs.Prelude.{string_bytes}
use Rattle.dsa_lines.proofs.PortalLemmas.{only_text, refused_text}
use Rattle.dsa_lines.proofs.portal.disassemble_portal.Goals as goal

pub returns-clause-only : goal.returns-clause-only
returns-clause-only c = only_text _ string_bytes c.args.bytes.now c.text_of_portal.result (c.text_of_portal.ensures.ok, c.text_of_portal.ensures.err)

pub returns-clause-refused : goal.returns-clause-refused
returns-clause-refused c = refused_text _ string_bytes c.args.bytes.now c.text_of_portal.result (c.text_of_portal.ensures.ok, c.text_of_portal.ensures.err)
