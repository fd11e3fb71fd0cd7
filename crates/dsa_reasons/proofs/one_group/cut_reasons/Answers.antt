use Rattle.std.proofs.Common.{ap, ◌∙◌}
use Rattle.dsa_settings.specs.Plan.{piece_count}
use Rattle.dsa_reasons.proofs.OneGroup.{whole_count}
use Rattle.dsa_reasons.proofs.one_group.cut_reasons.Goals as goal

pub fences_of-requires-clause-all : goal.fences_of-requires-clause-all
fences_of-requires-clause-all g c = ap piece_count c.in_ok-whole.ensures ∙ whole_count c.args.plan.now ∙ c.requires.all
