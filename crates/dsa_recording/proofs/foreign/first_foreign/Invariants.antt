use Rattle.std.proofs.Common.{◌≡◌, ℕ, ◌<◌, Some, slice_get}
use Rattle.dsa_recording.specs.declared.stream.Submission.{Submission}
use Rattle.dsa_recording.specs.Foreign.{HasForeign}
use Rattle.dsa_recording.proofs.foreign.first_foreign.Given as goal

-- none of the submissions so far has a foreign entry
abbrev pub invariant-loop-submission : goal.invariant-loop-submission
invariant-loop-submission l = (k : ℕ) (s : Submission) → k < l.submission-index → slice_get l.submissions k ≡ Some s → ¬ HasForeign l.all s
