use Rattle.std.proofs.Common.{◌<◌, sym, subst}
use Rattle.dsa_conflicts.specs.Access.{IsGreatest}
use Rattle.dsa_audit.specs.declared.member.Member.TheVariants.{Known, Unknown}
use Rattle.dsa_audit.specs.Members.{PossibleConflict}
use Rattle.dsa_audit.proofs.LastConflicts.{last_of_known, last_of_unknown, member_there, seen_known}
use Rattle.dsa_audit.proofs.lasts.possible_last.Goals as goal

pub returns-in-Known : goal.returns-in-Known
returns-in-Known c =
    let at = member_there c.args.members.now c.args.later c.index-members-later.result (Known c.in-Known.field-0) c.requires.within c.index-members-later.is c.in-Known.is in
    let last = last_of_known c.args.members.now c.args.end c.args.later (Known c.in-Known.field-0) c.args.unknown c.args.known at (seen_known c.args.members.now c.args.later c.in-Known.field-0 at) c.requires.unknown c.requires.known in
    subst (IsGreatest (λ a. (a < c.args.end) × PossibleConflict c.args.members.now a c.args.later)) (sym c.later_of.ensures) last

pub returns-in-Unknown : goal.returns-in-Unknown
returns-in-Unknown c =
    let at = member_there c.args.members.now c.args.later c.index-members-later.result (Unknown c.in-Unknown.field-0) c.requires.within c.index-members-later.is c.in-Unknown.is in
    last_of_unknown c.args.members.now c.args.end c.args.later c.in-Unknown.field-0 c.before-in-Unknown.result c.requires.ordered at c.before-in-Unknown.ensures
