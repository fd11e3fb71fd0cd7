use Rattle.std.proofs.Common.{◌≡◌, ◌+◌, ◌++◌, length}
use Rattle.std.specs.Prelude.{string_bytes}
use Rattle.dsa_explain.specs.Runs.{listed}
use Rattle.dsa_explain.specs.Words.{cell_lines}
use Rattle.dsa_explain.proofs.listing.push_cells.Given as goal

-- the lines so far, and those of what is left, are all
abbrev pub invariant-loop-rest : goal.invariant-loop-rest
invariant-loop-rest l =
    (string_bytes l.text ++ cell_lines (listed l.listing) l.index l.left l.rest
    ≡ string_bytes l.fn.text ++ cell_lines (listed l.listing) 0 l.fences l.cells)
    × (l.index + length l.rest ≡ length l.cells)

abbrev pub decreases-loop-rest : goal.decreases-loop-rest
decreases-loop-rest l = length l.rest
