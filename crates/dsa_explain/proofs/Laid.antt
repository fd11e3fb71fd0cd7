-- The cells of a plan.
use Rattle.std.proofs.Common.{◌≡◌, ℕ, suc, ◌+◌, Bool, cond, [], ◌∷◌, length, refl, sym, ap, ◌∙◌, length-append, arith}
use Rattle.std.specs.Prelude.{sum_by}
use Rattle.std.proofs.lemmas.List.Sums.{sum_by-cons, sum_by-append}
use Rattle.dsa_settings.specs.Plan.{Group, Plan, fence_count, piece_count}
use Rattle.dsa_explain.specs.declared.cells.Cell.{Cell}
use Rattle.dsa_explain.specs.Cells.{row_cells, cells_from}
use Rattle.dsa_explain.specs.Laws.{CellsArePiecesAndFences}

abbrev cell : ℕ → ℕ → Bool → Cell
cell row column fenced = record { row = row; column = column; fenced = fenced }

row_length : (row column : ℕ) (g : Group) → length (row_cells row column g) ≡ length g
row_length row column [] = refl
row_length row column (fenced ∷ g) = ap suc (row_length row (suc column) g)

cells_length : (row : ℕ) (plan : Plan) → length (cells_from row plan) ≡ piece_count plan
cells_length row [] = refl
cells_length row (g ∷ plan) =
    omega (arith, length-append (row_cells row 0 g) (cells_from (suc row) plan), row_length row 0 g, cells_length (suc row) plan, sum_by-cons length g plan)

abbrev one_if : Bool → ℕ
one_if fenced = cond fenced 1 0

row_fences : (row column : ℕ) (g : Group) → sum_by (λ c. one_if c.fenced) (row_cells row column g) ≡ sum_by one_if g
row_fences row column [] = refl
row_fences row column (fenced ∷ g) =
    sum_by-cons (λ (c : Cell). one_if c.fenced) (cell row column fenced) (row_cells row (suc column) g)
    ∙ ap (λ (n : ℕ). one_if fenced + n) (row_fences row (suc column) g)
    ∙ sym (sum_by-cons one_if fenced g)

cells_fences : (row : ℕ) (plan : Plan) → sum_by (λ c. one_if c.fenced) (cells_from row plan) ≡ sum_by fence_count plan
cells_fences row [] = refl
cells_fences row (g ∷ plan) =
    sum_by-append (λ (c : Cell). one_if c.fenced) (row_cells row 0 g) (cells_from (suc row) plan)
    ∙ ap (λ (n : ℕ). n + sum_by (λ c. one_if c.fenced) (cells_from (suc row) plan)) (row_fences row 0 g)
    ∙ ap (λ (n : ℕ). fence_count g + n) (cells_fences (suc row) plan)
    ∙ sym (sum_by-cons fence_count g plan)

pub cells_counted : CellsArePiecesAndFences
cells_counted plan = (cells_length 0 plan, cells_fences 0 plan)
