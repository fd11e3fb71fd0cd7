use Rattle.std.proofs.Common.{◌≡◌, ℕ, ◌+◌, ◌≤◌, List, ◌++◌, length, Some}
use Rattle.dsa_lines.specs.declared.recording.Recorded.{Recorded}
use Rattle.dsa_lines.specs.Texts.{lines_of}
use Rattle.dsa_lines.specs.Recordings.{all_recorded, AreRecorded}
use Rattle.dsa_lines.proofs.recording.assemble_recording.Given as goal

-- the bytes so far and the batch that waits are what the lines so far say, and the number is that of the next line
abbrev pub invariant-lines : goal.invariant-lines
invariant-lines l = record {
  before : List (List ℕ);
  said : List Recorded;
  bytes : AreRecorded l.bytes.items l.pending said;
  spelled : all_recorded before ≡ Some said;
  lines : lines_of l.text ≡ before ++ lines_of l.rest;
  number : l.number ≡ length before + 1;
  room : length before + length l.rest ≤ length l.text;
}

abbrev pub decreases-lines : goal.decreases-lines
decreases-lines l = length l.rest
