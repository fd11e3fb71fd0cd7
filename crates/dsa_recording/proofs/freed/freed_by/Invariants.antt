use Rattle.std.specs.List.{AllByRecursion}
use Rattle.dsa_recording.specs.declared.accepted.Accepted.{Accepted}
use Rattle.dsa_recording.specs.Freed.{HasAuditsAccepting, IsFreed}
use Rattle.dsa_recording.proofs.freed.freed_by.Given as goal

-- what is there so far is right
abbrev pub invariant-loop-more : goal.invariant-loop-more
invariant-loop-more l = (accepted : Accepted) → HasAuditsAccepting accepted l.all l.report → AllByRecursion (IsFreed accepted l.all l.report) l.freed.items
