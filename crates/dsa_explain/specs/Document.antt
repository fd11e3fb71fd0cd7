-- The document of an explanation, as a JSON value (this project's choice).
use Rattle.std.specs.Prelude.{ℕ, Bool, true, List, [], ◌∷◌, ◌++◌, codes, map, Option, Some, None, if◌then◌else◌}
use Rattle.serde_json.specs.Data.{Data, boolean, null, string}
use Rattle.serde_json.specs.Written.{compact_text}
use Rattle.dsa_tokens.specs.Spelled.{whole, array_of, object_of}
use Rattle.dsa_operations.specs.declared.operation.Operation.{Operation}
use Rattle.dsa_operations.specs.OperationFields.{operation_fields}
use Rattle.dsa_lines.specs.Numbers.{hex}
use Rattle.dsa_lines.specs.Text.{line_text}
use Rattle.dsa_plan.specs.declared.costs.GroupCost.{GroupCost}
use Rattle.dsa_operations.specs.Operations.{writes_of}
use Rattle.dsa_reasons.specs.declared.fences.Fence.{Fence}
use Rattle.dsa_reasons.specs.declared.reason.Reason.{Reason}
use Rattle.dsa_reasons.specs.Sentences.{kind_words, record_of}
use Rattle.dsa_explain.specs.declared.explanation.Explanation.{Explanation}
use Rattle.dsa_explain.specs.declared.labels.Origin.{Origin}
use Rattle.dsa_explain.specs.Runs.{Labelling}

-- a number that may be missing
abbrev pub optional_value : Option ℕ → Data
optional_value None = null
optional_value (Some n) = whole n

-- a group: what it costs, how many fences it has, and how many pieces
abbrev pub group_value : GroupCost → Data
group_value group =
    object_of ((codes "cost", whole group.cost) ∷ (codes "fences", whole group.fences) ∷ (codes "size", whole group.size) ∷ [])

-- a conflict: an address of it, its two pieces, its kind, and the piece whose completion record has the address
abbrev pub reason_value : List Operation → Reason → Data
reason_value pieces r =
    object_of (
    (codes "address", string (hex r.hazard.address))
    ∷ (codes "earlier", whole r.earlier)
    ∷ (codes "hazard", string (kind_words r.hazard.kind))
    ∷ (codes "later", whole r.later)
    ∷ (codes "record_of", optional_value (record_of writes_of pieces r))
    ∷ [])

-- the member that says that a barrier needs the fence, if one does
abbrev pub barrier_members : Bool → List (List ℕ × Data)
barrier_members barrier = if barrier then (codes "barrier", boolean true) ∷ [] else []

-- a fence: whether a barrier needs it, the piece that it is before, and the conflicts that only this fence separates
abbrev pub fence_value : List Operation → Fence → Data
fence_value pieces fence =
    object_of (
    barrier_members fence.barrier
    ++ (codes "before", whole fence.piece)
    ∷ (codes "conflicts", array_of (map (reason_value pieces) fence.named.items))
    ∷ [])

-- a piece: its canonical line
abbrev pub piece_value : Operation → Data
piece_value d = string (line_text (operation_fields d))

-- the origin of a piece: its operation, which of the operation's pieces it is, from 1 on, and how many there are
abbrev pub origin_value : Origin → Data
origin_value origin =
    object_of (
    (codes "operation", whole origin.operation)
    ∷ (codes "piece", whole origin.piece)
    ∷ (codes "pieces", whole origin.pieces)
    ∷ [])

-- an explanation, with the origins of its pieces, the names of their operations, and the cost of a least plan if it is
-- known
abbrev pub explanation_value : Explanation → List Operation → Labelling → Option ℕ → Data
explanation_value e pieces labels least =
    object_of (
    (codes "cost", whole e.costs.cost)
    ∷ (codes "fences", array_of (map (fence_value pieces) e.fences.items))
    ∷ (codes "groups", array_of (map group_value e.costs.groups.items))
    ∷ (codes "least", optional_value least)
    ∷ (codes "lone_cost", whole e.costs.lone)
    ∷ (codes "names", array_of (map string labels.names))
    ∷ (codes "origins", array_of (map origin_value labels.origins))
    ∷ (codes "pieces", array_of (map piece_value pieces))
    ∷ [])

-- its compact text, as a line
abbrev pub explanation_line : Explanation → List Operation → Labelling → Option ℕ → List ℕ
explanation_line e pieces labels least = compact_text (explanation_value e pieces labels least) ++ codes "\n"
