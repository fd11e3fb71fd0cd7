-- Runs: pieces of one operation that share a line of an explanation (this project's choice).
use Rattle.std.specs.Prelude.{ℕ, suc, ◌+◌, ◌-◌, ◌==◌, ◌&&◌, not, nat_le, Bool, true, false, List, [], ◌∷◌, map, slice_get, string_bytes, Option, Some, None, if◌then◌else◌}
use Rattle.dsa_operations.specs.declared.operation.Operation.{Operation}
use Rattle.dsa_operations.specs.Operations.{size_of}
use Rattle.dsa_settings.specs.Settings.{Limits}
use Rattle.dsa_plan.specs.declared.costs.GroupCost.{GroupCost}
use Rattle.dsa_explain.specs.declared.cells.Cell.{Cell}
use Rattle.dsa_reasons.specs.declared.fences.Detail.{Detail}
use Rattle.dsa_reasons.specs.declared.fences.Detail.TheVariants.{First, All as Every}
use Rattle.dsa_explain.specs.declared.labels.Labels.{Labels}
use Rattle.dsa_explain.specs.declared.labels.Origin.{Origin}
use Rattle.dsa_explain.specs.declared.runs.Listing.{Listing}

-- the operation that each piece is of, and the names of the operations
pub record Labelling : Type 0 where
  pub origins : List Origin
  pub names : List (List ℕ)

-- what labels say
abbrev pub labelling : Labels → Labelling
labelling labels = record { origins = labels.origins.now; names = map string_bytes labels.names.now }

-- what is listed: the pieces of a plan, the operation that each is of, what the groups cost under settings, and the detail
pub record Listed : Type 0 where
  pub limits : Limits
  pub detail : Detail
  pub groups : List GroupCost
  pub pieces : List Operation
  pub labels : Labelling

-- what a listing says
abbrev pub listed : Listing → Listed
listed x =
    record {
      limits = x.settings.now;
      detail = x.detail;
      groups = x.groups.now;
      pieces = x.pieces.now;
      labels = labelling x.labels;
    }

-- the later piece is of the same operation, so many of the operation's pieces after the other
abbrev pub is_so_far_after : ℕ → Option Origin → Option Origin → Bool
is_so_far_after count None later = false
is_so_far_after count (Some origin) None = false
is_so_far_after count (Some origin) (Some later) = later.operation == origin.operation && later.piece == origin.piece + count

-- both pieces have one size
abbrev pub are_as_large : Option Operation → Option Operation → Bool
are_as_large None later = false
are_as_large (Some d) None = false
are_as_large (Some d) (Some later) = size_of later == size_of d

-- the piece at this index and the one so many before it are of the same operation, as many of its pieces apart, and of the
-- same size
abbrev pub repeats : Listed → ℕ → ℕ → Bool
repeats x count index =
    is_so_far_after count (slice_get x.labels.origins (index - count)) (slice_get x.labels.origins index)
    && are_as_large (slice_get x.pieces (index - count)) (slice_get x.pieces index)

-- from this piece on, its operation has exactly so many pieces left
abbrev pub has_from : ℕ → Option Origin → Bool
has_from count None = false
has_from count (Some origin) = nat_le (origin.piece + count) (origin.pieces + 1)

-- both groups have the same number of pieces, no fences and the same cost
abbrev pub are_alike : GroupCost → GroupCost → Bool
are_alike before group =
    group.size == before.size && (group.cost == before.cost && (before.fences == 0 && group.fences == 0))

-- the group that begins with the piece at this index is like the one before it, and all pieces of both are of its operation
abbrev pub repeats_group : Listed → ℕ → Option GroupCost → Option GroupCost → Bool
repeats_group x index None group = false
repeats_group x index (Some before) None = false
repeats_group x index (Some before) (Some group) =
    are_alike before group && (repeats x group.size index && has_from group.size (slice_get x.labels.origins index))

-- the cell is in the group of the one before it, or begins a group that repeats the one before
abbrev pub keeps_group : Listed → ℕ → Cell → Bool
keeps_group x index cell =
    if cell.column == 0
    then repeats_group x index (slice_get x.groups (cell.row - 1)) (slice_get x.groups cell.row)
    else true

-- the piece at this index goes on with the one before it: no fence is between them, they are of one operation and size, and
-- a group that begins here repeats the one before
abbrev pub goes_on : Listed → ℕ → Cell → Bool
goes_on x index cell = not cell.fenced && (repeats x 1 index && keeps_group x index cell)

-- it shares the line of the one before it: it goes on with it, and not each piece has to have a line
abbrev pub continues : Listed → Detail → ℕ → Cell → Bool
continues x First index cell = goes_on x index cell
continues x Every index cell = false

-- how many of these pieces, the first of which has this index, share the line of the piece before them
abbrev pub run_length : Listed → ℕ → List Cell → ℕ
run_length x index [] = 0
run_length x index (cell ∷ cells) =
    if continues x x.detail index cell then suc (run_length x (suc index) cells) else 0
