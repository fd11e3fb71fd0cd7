use Rattle.dsa_recording.proofs.Pushed.{member_pushed}
use Rattle.dsa_recording.proofs.findings.push_members.Goals as goal

pub loop-member-preserved : goal.loop-member-preserved
loop-member-preserved c =
    member_pushed c.args.number c.args.audited.now c.loop-member.member c.args.findings.now.items c.loop-member.findings.items c.push_kinds.new.findings.items
    c.member_kinds-kinds.result c.loop-member.invariant c.member_kinds-kinds.ensures c.in_ok-push_kinds.ensures
