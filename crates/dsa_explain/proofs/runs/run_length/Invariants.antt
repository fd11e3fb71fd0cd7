use Rattle.std.proofs.Common.{◌≡◌, ◌+◌, length}
use Rattle.dsa_explain.specs.Runs.{listed, run_length}
use Rattle.dsa_explain.proofs.runs.run_length.Given as goal

-- the pieces so far, and those of what is left, are all
abbrev pub invariant-loop-rest : goal.invariant-loop-rest
invariant-loop-rest l =
    (l.count + run_length (listed l.listing) (l.index + l.count) l.rest ≡ run_length (listed l.listing) l.index l.cells)
    × (l.count + length l.rest ≡ length l.cells)

abbrev pub decreases-loop-rest : goal.decreases-loop-rest
decreases-loop-rest l = length l.rest
