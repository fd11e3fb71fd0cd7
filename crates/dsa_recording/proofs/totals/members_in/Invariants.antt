use Rattle.std.proofs.Common.{◌≡◌, take}
use Rattle.std.specs.List.{sum_by}
use Rattle.dsa_recording.specs.Totals.{member_count}
use Rattle.dsa_recording.proofs.totals.members_in.Given as goal

abbrev pub invariant-loop-audited : goal.invariant-loop-audited
invariant-loop-audited l = l.members ≡ sum_by member_count (take l.audited-index l.audits)
