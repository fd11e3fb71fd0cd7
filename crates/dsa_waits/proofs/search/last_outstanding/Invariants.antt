use Rattle.std.proofs.Common.{ℕ, ◌<◌, ◌≤◌, length, get_or}
use Rattle.std.specs.Prelude.{All}
use Rattle.dsa_waits.specs.Keys.{IsLeftConflict}
use Rattle.dsa_waits.specs.Steps.{IsKnown}
use Rattle.dsa_waits.proofs.search.last_outstanding.Given as goal

-- none from place i on is left
abbrev pub invariant-loop-i : goal.invariant-loop-i
invariant-loop-i l = record {
  within : l.i ≤ length l.outstanding;
  apart : (x : ℕ) → l.i ≤ x → x < length l.outstanding
      → ¬ IsLeftConflict l.keyed.accepted.now l.keyed.all.now l.keyed.submissions.now l.course (get_or l.outstanding x 0) l.entry;
  known : All (IsKnown l.keyed.accepted.now l.keyed.all.now l.keyed.submissions.now l.course l.entry) l.known.items;
}

abbrev pub decreases-loop-i : goal.decreases-loop-i
decreases-loop-i l = l.i
