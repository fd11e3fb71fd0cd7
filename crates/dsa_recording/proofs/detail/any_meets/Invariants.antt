use Rattle.std.proofs.Common.{◌≡◌, drop}
use Rattle.dsa_recording.specs.Details.{any_meets}
use Rattle.dsa_recording.proofs.detail.any_meets.Given as goal

-- no span before this one has a byte of the record
abbrev pub invariant-loop-span : goal.invariant-loop-span
invariant-loop-span l = any_meets l.record_at (drop l.span-index l.spans) ≡ any_meets l.record_at l.spans
