use Rattle.std.proofs.Common.{◌≡◌, ◌++◌}
use Rattle.dsa_recording.specs.Findings.{findings_upto}
use Rattle.dsa_recording.proofs.findings.push_members.Given as goal

-- the findings so far are those of the members so far
abbrev pub invariant-loop-member : goal.invariant-loop-member
invariant-loop-member l = l.findings.items ≡ l.fn.findings.items ++ findings_upto l.number l.audited l.member
