use Rattle.std.proofs.Common.{ap, ◌∙◌}
use Rattle.std.specs.Int.{div_ceil}
use Rattle.dsa_image.specs.Parts.{quotient_up}
use Rattle.dsa_core.proofs.checksum_lines.checksum_lines.Goals as goal

pub returns : goal.returns
unfolding quotient_up
returns c = c.div_ceil.ensures ∙ ap (λ n. div_ceil n 4096) c.from.ensures
