use Rattle.std.proofs.Common.{◌-◌, ◌≤◌, length}
use Rattle.dsa_recording.proofs.parts.whole_bytes.Given as goal

-- the submissions so far are of entries
abbrev pub invariant-loop-at : goal.invariant-loop-at
invariant-loop-at l = l.at ≤ length l.all

abbrev pub decreases-loop-at : goal.decreases-loop-at
decreases-loop-at l = length l.all - l.at
