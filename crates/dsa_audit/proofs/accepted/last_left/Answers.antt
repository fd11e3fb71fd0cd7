use Rattle.std.proofs.Common.{◌∙◌, Some, None, ap, arith}
use Rattle.std.proofs.lemmas.Option.{slice_get-get_or}
use Rattle.dsa_audit.specs.Repeats.{OrderMatters}
use Rattle.dsa_audit.proofs.Accepting.{left_none, left_start}
use Rattle.dsa_audit.proofs.accepted.last_left.Goals as goal

pub returns-in_default : goal.returns-in_default
returns-in_default g c =
    left_none (OrderMatters c.args.relation.actions.now c.args.relation.members.now) (g.A.Acceptance.lists c.args.acceptance.now) c.args.epoch c.args.later
    (c.requires.lasts c.args.later None (slice_get-get_or c.args.lasts.now c.args.later None (omega (arith, c.requires.within, c.requires.count)) ∙ ap Some c.in_default.is))

pub loop-i-init : goal.loop-i-init
loop-i-init g c =
    left_start (OrderMatters c.args.relation.actions.now c.args.relation.members.now) (g.A.Acceptance.lists c.args.acceptance.now) c.args.later c.in-Some.last
    (c.requires.lasts c.args.later (Some c.in-Some.last) (slice_get-get_or c.args.lasts.now c.args.later None (omega (arith, c.requires.within, c.requires.count)) ∙ ap Some c.in-Some.is))
