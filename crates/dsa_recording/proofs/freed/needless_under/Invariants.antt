use Rattle.std.proofs.Common.{take}
use Rattle.dsa_recording.specs.declared.accepted.Accepted.{Accepted}
use Rattle.dsa_recording.specs.Freed.{AreNeedless, HasAuditsAccepting}
use Rattle.dsa_recording.specs.Pairs.{terms}
use Rattle.dsa_recording.proofs.freed.needless_under.Given as goal

-- so many fences of the submissions so far are needless
abbrev pub invariant-loop-number : goal.invariant-loop-number
invariant-loop-number l =
    (accepted : Accepted) → HasAuditsAccepting accepted l.all l.report → AreNeedless (terms accepted l.assumptions) l.all (take l.number l.report.submissions.items) l.needless
