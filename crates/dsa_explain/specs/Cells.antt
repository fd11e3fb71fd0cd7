-- The cells of a picture.
use Rattle.std.specs.Prelude.{ℕ, suc, List, [], ◌∷◌, ◌++◌}
use Rattle.dsa_settings.specs.Plan.{Group, Plan}
use Rattle.dsa_explain.specs.declared.cells.Cell.{Cell}

-- the cells of a group, from this column on
abbrev pub row_cells : ℕ → ℕ → Group → List Cell
row_cells row column [] = []
row_cells row column (fenced ∷ group) = record { row = row; column = column; fenced = fenced } ∷ row_cells row (suc column) group

-- the cells of groups, from this row on
abbrev pub cells_from : ℕ → Plan → List Cell
cells_from row [] = []
cells_from row (group ∷ plan) = row_cells row 0 group ++ cells_from (suc row) plan
