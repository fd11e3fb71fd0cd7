use Rattle.std.proofs.Common.{◌≡◌, ◌++◌, ◌+◌, drop}
use Rattle.dsa_recording.specs.Uses.{stale_from}
use Rattle.dsa_recording.proofs.stale.stale_lines.Given as goal

-- the stale lines so far, and those of the lines that are left, are all
abbrev pub invariant-loop-at : goal.invariant-loop-at
invariant-loop-at l = l.numbers.items ++ stale_from (l.at + 1) l.with_events l.used (drop l.at l.accepted.lines.items) ≡ stale_from 1 l.with_events l.used l.accepted.lines.items
