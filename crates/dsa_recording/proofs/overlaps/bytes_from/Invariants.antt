use Rattle.std.proofs.Common.{◌≡◌, drop}
use Rattle.dsa_recording.specs.Overlaps.{bytes_from}
use Rattle.dsa_recording.proofs.overlaps.bytes_from.Given as goal

-- no span before this one has the address
abbrev pub invariant-loop-span : goal.invariant-loop-span
invariant-loop-span l = bytes_from l.address (drop l.span-index l.spans) ≡ bytes_from l.address l.spans
