use Rattle.std.proofs.Common.{◌≡◌, ℕ, ◌<◌, ◌≤◌, ◌⊎◌, true, false}
use Rattle.dsa_descriptor.specs.Fences.{is_fenced}
use Rattle.dsa_recording.specs.Submissions.{head_at}
use Rattle.dsa_waits.specs.Recorded.{bytes_of}
use Rattle.dsa_waits.specs.RecordedSteps.{WithEntries}
use Rattle.dsa_waits.proofs.recorded.add_entries.Given as goal

abbrev pub invariant-loop-entry : goal.invariant-loop-entry
invariant-loop-entry l = record {
  added : WithEntries l.all l.submission l.number l.entry l.fn.entries.items l.fn.members.items l.entries.items l.members.items;
  begun : head_at l.submission ≤ l.epoch;
  reached : l.epoch ≤ l.entry;
  fence : (l.epoch ≡ head_at l.submission) ⊎ (is_fenced (bytes_of l.all l.epoch) ≡ true);
  last : (k : ℕ) → l.epoch < k → k < l.entry → is_fenced (bytes_of l.all k) ≡ false;
}
