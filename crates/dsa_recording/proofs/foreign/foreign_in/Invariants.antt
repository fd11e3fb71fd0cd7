use Rattle.std.proofs.Common.{ℕ, ◌<◌, ◌≤◌, []}
use Rattle.std.specs.Prelude.{slice_index_or}
use Rattle.dsa_recording.specs.Foreign.{IsForeign}
use Rattle.dsa_recording.proofs.foreign.foreign_in.Given as goal

-- none of the entries so far is foreign
abbrev pub invariant-loop-entry : goal.invariant-loop-entry
invariant-loop-entry l = (k : ℕ) → l.fn.submission.first ≤ k → k < l.entry → ¬ IsForeign (slice_index_or l.all l.head []) (slice_index_or l.all k [])
