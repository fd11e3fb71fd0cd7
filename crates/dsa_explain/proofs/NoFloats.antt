-- The document of an explanation has no float.
use Rattle.std.proofs.Common.{◌≡◌, ℕ, Bool, List, [], ◌∷◌, ◌++◌, map, true, false, refl}
use Rattle.std.specs.Prelude.{Option, Some, None, codes}
use Rattle.serde_json.specs.Data.{Data, string}
use Rattle.serde_json.specs.View.{items_of}
use Rattle.serde_json.specs.Written.{has_float, items_have_float}
use Rattle.dsa_tokens.specs.Spelled.{array_of, object_of, whole}
use Rattle.dsa_operations.specs.declared.operation.Operation.{Operation}
use Rattle.dsa_operations.specs.Operations.{writes_of}
use Rattle.dsa_reasons.specs.declared.fences.Fence.{Fence}
use Rattle.dsa_reasons.specs.declared.reason.Reason.{Reason}
use Rattle.dsa_reasons.specs.Sentences.{record_of}
use Rattle.dsa_explain.specs.declared.explanation.Explanation.{Explanation}
use Rattle.dsa_explain.specs.Document.{optional_value, group_value, reason_value, barrier_members, fence_value, piece_value, origin_value, explanation_value}
use Rattle.dsa_explain.specs.Runs.{Labelling}

-- an array has none where no item has
items : {X : Type 0} (f : X → Data) (xs : List X) → ((x : X) → has_float (f x) ≡ false) → items_have_float (items_of (map f xs)) ≡ false
items f [] each = refl
items f (x ∷ xs) each = rw (each x) (items f xs each)

optional : (n : Option ℕ) → has_float (optional_value n) ≡ false
optional None = refl
optional (Some n) = refl

reason : (pieces : List Operation) (r : Reason) → has_float (reason_value pieces r) ≡ false
reason pieces r = rw (optional (record_of writes_of pieces r)) refl

fence_with : (barrier : Bool) (pieces : List Operation) (f : Fence)
    → has_float (object_of (barrier_members barrier ++ (codes "before", whole f.piece) ∷ (codes "conflicts", array_of (map (reason_value pieces) f.named.items)) ∷ [])) ≡ false
fence_with true pieces f = rw (items (reason_value pieces) f.named.items (reason pieces)) refl
fence_with false pieces f = rw (items (reason_value pieces) f.named.items (reason pieces)) refl

fence : (pieces : List Operation) (f : Fence) → has_float (fence_value pieces f) ≡ false
fence pieces f = fence_with f.barrier pieces f

pub explained : (e : Explanation) (pieces : List Operation) (labels : Labelling) (least : Option ℕ) → has_float (explanation_value e pieces labels least) ≡ false
explained e pieces labels least =
    rw (
      items (fence_value pieces) e.fences.items (fence pieces),
      items group_value e.costs.groups.items (λ group. refl),
      optional least,
      items string labels.names (λ name. refl),
      items origin_value labels.origins (λ origin. refl),
      items piece_value pieces (λ d. refl),
    ) refl
