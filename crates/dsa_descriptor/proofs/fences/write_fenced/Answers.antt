use Rattle.std.proofs.Common.{◌∙◌}
use Rattle.dsa_descriptor.proofs.Fenced.{fenced_alike}
use Rattle.dsa_descriptor.proofs.fences.write_fenced.Goals as goal

pub returns : goal.returns
returns c = c.write_fenced_entry.ensures ∙ fenced_alike c.args.descriptor.now c.args.fence
