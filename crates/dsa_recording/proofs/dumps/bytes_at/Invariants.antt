use Rattle.std.proofs.Common.{◌≡◌, drop}
use Rattle.dsa_recording.specs.Dumps.{bytes_at}
use Rattle.dsa_recording.proofs.dumps.bytes_at.Given as goal

-- the dumps that are left have what all have
abbrev pub invariant-loop-dump : goal.invariant-loop-dump
invariant-loop-dump l = bytes_at l.fn.at l.fn.size (drop l.dump-index l.dumps) ≡ bytes_at l.fn.at l.fn.size l.dumps
