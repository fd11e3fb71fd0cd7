use Rattle.std.proofs.Common.{◌≡◌, ◌++◌, take}
use Rattle.dsa_recording.specs.Findings.{all_found}
use Rattle.dsa_recording.proofs.findings.push_kinds.Given as goal

-- the findings so far are those of the kinds so far
abbrev pub invariant-loop-found : goal.invariant-loop-found
invariant-loop-found l = l.findings.items ≡ l.fn.findings.items ++ all_found l.submission l.place (take l.found-index l.kinds)
