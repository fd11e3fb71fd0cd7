-- The words of an explanation (this project's choice).
use Rattle.std.specs.Prelude.{ℕ, suc, ◌+◌, ◌-◌, ◌==◌, nat_le, nat_lt, Bool, false, List, [], ◌∷◌, ◌++◌, codes, decimal, drop, length, slice_get, slice_index_or, Option, Some, None, if◌then◌else◌}
use Rattle.std.specs.List.{flat_map}
use Rattle.dsa_operations.specs.declared.operation.Operation.{Operation}
use Rattle.dsa_operations.specs.declared.operation.Operation.TheVariants as operation
use Rattle.dsa_operations.specs.OperationFields.{operation_fields}
use Rattle.dsa_lines.specs.Text.{line_text}
use Rattle.dsa_settings.specs.Settings.{Limits}
use Rattle.dsa_plan.specs.declared.costs.Costs.{Costs}
use Rattle.dsa_plan.specs.declared.costs.GroupCost.{GroupCost}
use Rattle.dsa_operations.specs.Operations.{size_of, writes_of}
use Rattle.dsa_reasons.specs.declared.fences.Detail.{Detail}
use Rattle.dsa_reasons.specs.declared.fences.Fence.{Fence}
use Rattle.dsa_reasons.specs.declared.reason.Reason.{Reason}
use Rattle.dsa_reasons.specs.Sentences.{fence_words, reason_words}
use Rattle.dsa_explain.specs.declared.cells.Cell.{Cell}
use Rattle.dsa_explain.specs.declared.explanation.Explanation.{Explanation}
use Rattle.dsa_explain.specs.declared.labels.Origin.{Origin}
use Rattle.dsa_explain.specs.Runs.{Labelling, Listed, continues, run_length}

-- ---- the parts

-- an s, unless the number is 1
abbrev pub plural : ℕ → List ℕ
plural n = if n == 1 then [] else codes "s"

-- how many fences a batch has, how many epochs they divide it into, and its cost
unfoldable pub fences_words : ℕ → ℕ → List ℕ
fences_words fences cost =
    decimal fences ++ (codes " fence" ++ (plural fences ++ (codes ", " ++ (decimal (fences + 1) ++ (codes " epoch" ++ (plural (fences + 1) ++ (codes ", cost " ++ decimal cost)))))))

-- a lone submission, and what it costs
abbrev pub lone_words : ℕ → ℕ → List ℕ
lone_words number cost =
    codes "group " ++ (decimal number ++ (codes ": lone submission, cost " ++ decimal cost))

-- that a batch is as large as it may be
abbrev pub full_words : ℕ → ℕ → List ℕ
full_words greatest size = if size == greatest then codes " (full)" else []

-- the size of a batch, its fences and epochs, and what it costs
abbrev pub size_words : ℕ → GroupCost → List ℕ
size_words greatest group =
    decimal group.size ++ (full_words greatest group.size ++ (codes ", " ++ fences_words group.fences group.cost))

-- a batch: its size, and what it costs
abbrev pub batch_words : ℕ → ℕ → GroupCost → List ℕ
batch_words greatest number group = codes "group " ++ (decimal number ++ (codes ": batch of " ++ size_words greatest group))

-- a group: a lone piece or a batch
abbrev pub group_words : ℕ → ℕ → GroupCost → List ℕ
group_words greatest number group =
    if group.size == 1 then lone_words number group.cost else batch_words greatest number group

-- groups that are alike: lone pieces or batches
abbrev pub alike_words : ℕ → GroupCost → List ℕ
alike_words greatest group =
    if group.size == 1
    then codes " lone submissions, cost " ++ decimal group.cost
    else codes " batches of " ++ size_words greatest group

-- the groups of these numbers, which are alike
abbrev pub groups_words : ℕ → ℕ → ℕ → GroupCost → List ℕ
groups_words greatest first last group =
    if first == last
    then group_words greatest first group
    else codes "groups "
    ++ (decimal first
    ++ (codes " to "
    ++ (decimal last ++ (codes ": " ++ (decimal (last + 1 - first) ++ (alike_words greatest group ++ codes " each"))))))

-- the line of each further conflict that is named
abbrev pub further_lines : List Operation → List Reason → List ℕ
further_lines pieces reasons = flat_map (λ r. codes "     and " ++ (reason_words writes_of pieces r ++ codes "\n")) reasons

-- which piece of its operation this is, if that has several
abbrev pub origin_words : Option Origin → List ℕ
origin_words None = []
origin_words (Some origin) =
    if nat_lt 1 origin.pieces
    then codes " (operation " ++ (decimal origin.operation ++ (codes ", piece " ++ (decimal origin.piece ++ (codes " of " ++ (decimal origin.pieces ++ codes ")")))))
    else []

-- how far each piece of a run is from the one before: lower, if it runs down
abbrev pub step_words : ℕ → Bool → List ℕ
step_words size is_down = codes ", each " ++ (decimal size ++ (if is_down then codes " bytes lower)" else codes " bytes further)"))

-- which pieces of their operation the pieces of a run are
abbrev pub parts_words : ℕ → Origin → List ℕ
parts_words more origin =
    codes ", pieces "
    ++ (decimal origin.piece ++ (codes " to " ++ (decimal (origin.piece + more) ++ (codes " of " ++ decimal origin.pieces))))

-- the operation that the pieces of a run are of, and how far apart they are
abbrev pub origins_words : ℕ → ℕ → Bool → Option Origin → List ℕ
origins_words more size is_down None = []
origins_words more size is_down (Some origin) =
    codes " (operation " ++ (decimal origin.operation ++ (parts_words more origin ++ step_words size is_down))

-- the name of an operation, as the comment of its line
abbrev pub name_words : List ℕ → List ℕ
name_words [] = []
name_words (c ∷ cs) = codes " # " ++ c ∷ cs

-- the name of the operation that a piece is of, if it has one
abbrev pub name_of : List (List ℕ) → Option Origin → List ℕ
name_of names None = []
name_of names (Some origin) = slice_index_or names origin.operation []

-- a piece: its canonical line, its operation, and the name of that
abbrev pub piece_words : Operation → Option Origin → List ℕ → List ℕ
piece_words d origin name = line_text (operation_fields d) ++ (origin_words origin ++ name_words name)

-- a run of a piece and so many more: what the first one does, their operation, and the name of that
abbrev pub run_words : ℕ → Bool → Operation → Option Origin → List ℕ → List ℕ
run_words more is_down d origin name = line_text (operation_fields d) ++ (origins_words more (size_of d) is_down origin ++ name_words name)

-- what is saved, or how much less lone submissions cost
abbrev pub saved_words : ℕ → ℕ → List ℕ
saved_words cost lone =
    if nat_le cost lone then codes "saved " ++ decimal (lone - cost) else decimal (cost - lone) ++ codes " less"

-- that so many lone submissions cost the number that follows
unfoldable pub pieces_words : ℕ → List ℕ
pieces_words pieces = decimal pieces ++ (if pieces == 1 then codes " lone submission costs" else codes " lone submissions cost")

-- what the plan costs, what as many lone submissions would, and what is saved
abbrev pub cost_words : Costs → ℕ → List ℕ
cost_words costs pieces =
    codes "cost " ++ (decimal costs.cost ++ (codes "; " ++ (pieces_words pieces ++ (codes " " ++ (decimal costs.lone ++ (codes ", " ++ saved_words costs.cost costs.lone))))))

-- ---- the lines

-- the line of the groups of these numbers, before the first piece
abbrev pub line_of_groups : ℕ → ℕ → ℕ → Option GroupCost → List ℕ
line_of_groups greatest first last None = []
line_of_groups greatest first last (Some group) = groups_words greatest first last group ++ codes "\n"

-- the line of the groups that a run has until the group `last`, if its first piece begins a group
abbrev pub group_line : ℕ → List GroupCost → Cell → ℕ → List ℕ
group_line greatest groups first last =
    if first.column == 0 then line_of_groups greatest first.row last (slice_get groups first.row) else []

-- the lines of the first of these fences, before a fenced piece
abbrev pub line_of_fence : ℕ → List Operation → Option Fence → List ℕ
line_of_fence price pieces None = []
line_of_fence price pieces (Some fence) =
    codes "  -- fence, cost "
    ++ (decimal price
    ++ (codes ": " ++ (fence_words writes_of pieces fence ++ (codes "\n" ++ further_lines pieces (drop 1 fence.named.items)))))

-- the lines of the fence before this piece, if there is one
abbrev pub fence_line : ℕ → List Operation → List Fence → Cell → List ℕ
fence_line price pieces fences cell =
    if cell.fenced then line_of_fence price pieces (slice_get fences 0) else []

-- the fences that are left after the piece
abbrev pub fences_left : List Fence → Cell → List Fence
fences_left fences cell = if cell.fenced then drop 1 fences else fences

-- the line of a piece that shares its line with no other
abbrev pub piece_line : ℕ → Operation → Option Origin → List ℕ → List ℕ
piece_line index d origin name = codes "  " ++ (decimal index ++ (codes ": " ++ (piece_words d origin name ++ codes "\n")))

-- the line of a run
abbrev pub run_line : ℕ → ℕ → Bool → Operation → Option Origin → List ℕ → List ℕ
run_line index more is_down d origin name =
    codes "  "
    ++ (decimal index
    ++ (codes " to " ++ (decimal (index + more) ++ (codes ": " ++ (run_words more is_down d origin name ++ codes "\n")))))

-- the line of the piece of this index and so many more
abbrev pub pieces_line : ℕ → ℕ → Bool → Option Operation → Option Origin → List ℕ → List ℕ
pieces_line index more is_down None origin name = []
pieces_line index more is_down (Some d) origin name =
    if more == 0 then piece_line index d origin name else run_line index more is_down d origin name

-- the address of an operation's completion record
abbrev pub record_at : Operation → ℕ
record_at (operation.Descriptor d) = d.record_at
record_at (operation.Checksum c) = c.record_at

-- the pieces run down, as those of an operation whose regions overlap may: the record of the next one is lower
abbrev pub is_lower : Option Operation → Option Operation → Bool
is_lower None next = false
is_lower (Some d) None = false
is_lower (Some d) (Some next) = nat_lt (record_at next) (record_at d)

-- the line of a run, which begins with the piece of this index
abbrev pub line_of_run : Listed → ℕ → ℕ → List ℕ
line_of_run x index more =
    pieces_line index more (is_lower (slice_get x.pieces index) (slice_get x.pieces (index + 1))) (slice_get x.pieces index)
    (slice_get x.labels.origins index) (name_of x.labels.names (slice_get x.labels.origins index))

-- the group of a cell, if there is one
abbrev pub row_or : ℕ → Option Cell → ℕ
row_or row None = row
row_or row (Some cell) = cell.row

-- the group that a run ends in
abbrev pub last_row : Cell → List Cell → ℕ → ℕ
last_row first cells more = if more == 0 then first.row else row_or first.row (slice_get cells (more - 1))

-- the lines of a run: of its groups, of the fence before it, and of its pieces
abbrev pub run_lines : Listed → ℕ → List Fence → Cell → List Cell → ℕ → List ℕ
run_lines x index fences cell cells more =
    group_line x.limits.greatest_batch x.groups cell (last_row cell cells more)
    ++ (fence_line x.limits.fence x.pieces fences cell ++ line_of_run x index more)

-- the lines that begin with the piece of this index: none if it shares that of the piece before it
abbrev pub lines_at : Listed → ℕ → List Fence → Cell → List Cell → List ℕ
lines_at x index fences cell cells =
    if continues x x.detail index cell then [] else run_lines x index fences cell cells (run_length x (suc index) cells)

-- the lines of the pieces from this index on, of their groups and of their fences
abbrev pub cell_lines : Listed → ℕ → List Fence → List Cell → List ℕ
cell_lines x index fences [] = []
cell_lines x index fences (cell ∷ cells) =
    lines_at x index fences cell cells ++ cell_lines x (suc index) (fences_left fences cell) cells

-- an explanation in words, under settings: the lines of its pieces, and one of its costs
abbrev pub explanation_words : Limits → Detail → Explanation → List Operation → Labelling → List ℕ
explanation_words s detail e pieces labels =
    cell_lines (record { limits = s; detail = detail; groups = e.costs.groups.items; pieces = pieces; labels = labels }) 0 e.fences.items e.cells.items
    ++ (cost_words e.costs (length pieces) ++ codes "\n")
