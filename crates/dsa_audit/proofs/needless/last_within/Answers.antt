use Rattle.std.proofs.Common.{◌∙◌, Some, None, ap}
use Rattle.std.proofs.lemmas.Option.{slice_get-get_or}
use Rattle.dsa_audit.proofs.LastConflicts.{early_of, late_of, none_of, one_of}
use Rattle.dsa_audit.proofs.needless.last_within.Goals as goal

pub returns-in_default : goal.returns-in_default
returns-in_default c =
    none_of c.args.lasts.now c.args.epoch c.args.at c.args.later (slice_get-get_or c.args.lasts.now c.args.later None c.requires.within ∙ ap Some c.in_default.is)

pub returns-then-last-epoch : goal.returns-then-last-epoch
returns-then-last-epoch c =
    early_of c.args.lasts.now c.args.epoch c.args.at c.args.later c.in-Some.last (slice_get-get_or c.args.lasts.now c.args.later None c.requires.within ∙ ap Some c.in-Some.is) c.if-last-epoch.true

pub returns-then-last-at : goal.returns-then-last-at
returns-then-last-at c =
    late_of c.args.lasts.now c.args.epoch c.args.at c.args.later c.in-Some.last (slice_get-get_or c.args.lasts.now c.args.later None c.requires.within ∙ ap Some c.in-Some.is) c.if-last-at.true

pub returns : goal.returns
returns c =
    one_of c.args.lasts.now c.args.epoch c.args.at c.args.later c.in-Some.last (slice_get-get_or c.args.lasts.now c.args.later None c.requires.within ∙ ap Some c.in-Some.is) c.if-last-epoch.false c.if-last-at.false
