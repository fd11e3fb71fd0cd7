use Rattle.std.proofs.Common.{◌≡◌, ◌++◌, ◌-◌, ◌≤◌, ℕ, List, length, max, vec_len}
use Rattle.std.specs.Io.KnownBytes.{Consumes}
use Rattle.dsa_recording.proofs.reading.fill.Given as goal

-- the buffer has what was read, and not more than is asked for
abbrev pub invariant-loop-chunk : goal.invariant-loop-chunk
invariant-loop-chunk g l = record {
  read : (more : List ℕ) × Consumes (g.R.Read.remaining l.initial.reader) (g.R.Read.remaining l.reader) more × (l.buffer.items ≡ l.initial.buffer.items ++ more);
  few : length l.buffer.items ≤ max l.most (length l.initial.buffer.items);
}

abbrev pub decreases-loop-chunk : goal.decreases-loop-chunk
decreases-loop-chunk g l = l.most - vec_len l.buffer
