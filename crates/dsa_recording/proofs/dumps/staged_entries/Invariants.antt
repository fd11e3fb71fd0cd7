use Rattle.std.proofs.Common.{◌≡◌, ◌≤◌, length, take, Some}
use Rattle.dsa_recording.specs.Dumps.{longest_stream, stream_of}
use Rattle.dsa_recording.proofs.dumps.staged_entries.Given as goal

-- the bytes so far are the stream of the entries so far, and not too many
abbrev pub invariant-loop-at : goal.invariant-loop-at
invariant-loop-at l = record {
  staged : stream_of l.dumps (take l.at l.all) ≡ Some l.bytes.items;
  few : length l.bytes.items ≤ longest_stream;
}
