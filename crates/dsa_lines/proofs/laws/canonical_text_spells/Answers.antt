use Rattle.dsa_lines.proofs.Marks.{canonical_text_spells}
use Rattle.dsa_lines.proofs.laws.canonical_text_spells.Goals as goal

pub returns : goal.returns
returns c = canonical_text_spells
