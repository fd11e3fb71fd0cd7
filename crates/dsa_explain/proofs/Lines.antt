-- The lines of an explanation, one piece after another.
use Rattle.std.proofs.Common.{◌≡◌, ℕ, ◌+◌, List, ◌∷◌, ◌++◌, subst, add-one, append_assoc}
use Rattle.dsa_explain.specs.declared.cells.Cell.{Cell}
use Rattle.dsa_reasons.specs.declared.fences.Fence.{Fence}
use Rattle.dsa_explain.specs.Runs.{Listed}
use Rattle.dsa_explain.specs.Words.{cell_lines, fences_left, lines_at}

-- the lines of one piece more
pub lines_more : (x : Listed) (i : ℕ) (fences left : List Fence) (cell : Cell) (rest after : List Cell) (t0 t1 whole : List ℕ)
    → rest ≡ cell ∷ after
    → left ≡ fences_left fences cell
    → t1 ≡ t0 ++ lines_at x i fences cell after
    → t0 ++ cell_lines x i fences rest ≡ whole
    → t1 ++ cell_lines x (i + 1) left after ≡ whole
lines_more x i fences left cell rest after t0 t1 whole here is e h =
    let all = subst (λ (cs : List Cell). t0 ++ cell_lines x i fences cs ≡ whole) here h in
    rw (add-one, is, e) (simp append_assoc all)
