use Rattle.dsa_audit.specs.declared.member.Member.TheVariants.{Known, Unknown}
use Rattle.dsa_audit.proofs.LastConflicts.{member_there, now_unknown, seen_known, still_unknown}
use Rattle.dsa_audit.proofs.lasts.last_unknown.Goals as goal

pub returns-in-Known : goal.returns-in-Known
returns-in-Known c =
    let at = member_there c.args.members.now c.args.k c.index-members-k.result (Known c.in-Known.field-0) c.requires.within c.index-members-k.is c.in-Known.is in
    still_unknown c.args.members.now c.args.k c.args.unknown (seen_known c.args.members.now c.args.k c.in-Known.field-0 at) c.requires.unknown

pub returns-in-Unknown : goal.returns-in-Unknown
returns-in-Unknown c =
    let at = member_there c.args.members.now c.args.k c.index-members-k.result (Unknown c.in-Unknown.field-0) c.requires.within c.index-members-k.is c.in-Unknown.is in
    now_unknown c.args.members.now c.args.k (c.in-Unknown.field-0, at)
