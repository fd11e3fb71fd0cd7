use Rattle.std.proofs.Common.{take}
use Rattle.dsa_recording.specs.Pairs.{terms}
use Rattle.dsa_recording.specs.Submissions.{AreAudited}
use Rattle.dsa_recording.proofs.submission.audit_submissions.Given as goal

-- the submissions so far are audited
abbrev pub invariant-loop-submission : goal.invariant-loop-submission
invariant-loop-submission l = AreAudited (terms l.accepted l.assumptions) l.all (take l.submission-index l.submissions) l.audits.items
