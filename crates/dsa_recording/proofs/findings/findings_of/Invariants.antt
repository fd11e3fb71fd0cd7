use Rattle.std.proofs.Common.{◌≡◌, ◌++◌, drop}
use Rattle.dsa_recording.specs.Findings.{recording_findings}
use Rattle.dsa_recording.proofs.findings.findings_of.Given as goal

-- the findings so far, and those of what is left, are all
abbrev pub invariant-loop-number : goal.invariant-loop-number
invariant-loop-number l = l.findings.items ++ recording_findings l.number (drop l.number l.audits) ≡ recording_findings 0 l.audits
