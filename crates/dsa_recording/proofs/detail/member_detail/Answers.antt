use Rattle.dsa_recording.proofs.Placed.{after_entry}
use Rattle.dsa_recording.proofs.detail.member_detail.Goals as goal

pub shared_records-requires-clause-earlier : goal.shared_records-requires-clause-earlier
shared_records-requires-clause-earlier c =
    after_entry c.args.submission.first c.args.member c.in-Some.entry c.in-Some-member_cause.cause c.in-Some.ensures.1 c.in-Some-member_cause.ensures.after
