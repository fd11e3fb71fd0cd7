use Rattle.std.proofs.Common.{◌∙◌, Some, None, ap}
use Rattle.std.proofs.lemmas.Option.{slice_get-get_or}
use Rattle.dsa_audit.specs.Members.{PossibleConflict}
use Rattle.dsa_audit.proofs.OuterLasts.{none_before, one_before}
use Rattle.dsa_audit.proofs.outer.outer_last.Goals as goal

pub returns-in_default : goal.returns-in_default
returns-in_default c =
    none_before (PossibleConflict c.args.members.now) c.args.epoch c.args.later c.requires.ordered
    (c.requires.lasts c.args.later None (slice_get-get_or c.args.lasts.now c.args.later None c.if-later-lasts.true ∙ ap Some c.in_default.is))

pub returns-then-last-epoch : goal.returns-then-last-epoch
returns-then-last-epoch c =
    one_before (PossibleConflict c.args.members.now) c.args.epoch c.args.later c.in-Some.last c.requires.ordered c.if-last-epoch.true
    (c.requires.lasts c.args.later (Some c.in-Some.last) (slice_get-get_or c.args.lasts.now c.args.later None c.if-later-lasts.true ∙ ap Some c.in-Some.is))
