use Rattle.std.proofs.Common.{◌-◌, ◌≤◌, length}
use Rattle.dsa_recording.specs.Streams.{ReadsUpTo}
use Rattle.dsa_recording.proofs.stream.submissions_of.Given as goal

-- the submissions so far, up to the next entry
abbrev pub invariant-loop-at : goal.invariant-loop-at
invariant-loop-at l = record {
  read : ReadsUpTo l.all 0 l.list.items l.at;
  within : l.at ≤ length l.all;
}

abbrev pub decreases-loop-at : goal.decreases-loop-at
decreases-loop-at l = length l.all - l.at
