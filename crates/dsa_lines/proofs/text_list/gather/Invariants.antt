use Rattle.std.proofs.Common.{◌+◌, ◌≤◌, length}
use Rattle.dsa_lines.specs.Texts.{lines_of}
use Rattle.dsa_lines.proofs.Gathering.{Sofar}
use Rattle.dsa_lines.proofs.text_list.gather.Given as goal

abbrev pub invariant-lines : goal.invariant-lines
invariant-lines l =
    Sofar l.keep_fences (lines_of l.text) (lines_of l.rest) l.number l.pending l.gathered
    × (l.number + length l.rest ≤ length l.text + 1)

abbrev pub decreases-lines : goal.decreases-lines
decreases-lines l = length l.rest
