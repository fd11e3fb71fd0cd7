-- What fences and cuts promise.
use Rattle.std.specs.Prelude.{ℕ, ◌≡◌, ◌<◌, ◌↔◌, AllPairs, Bool, true, Contains, List, length, slice_get, Some}
use Rattle.dsa_descriptor.specs.declared.span.Span.{Span}
use Rattle.dsa_settings.specs.Epochs.{cuts}
use Rattle.dsa_settings.specs.Barriers.{WithBarriers}
use Rattle.dsa_settings.specs.Plan.{Group, Plan, start_of}
use Rattle.dsa_settings.specs.Legal.{IsFenced, IsLegal}
use Rattle.dsa_reasons.specs.declared.fences.Detail.{Detail}
use Rattle.dsa_reasons.specs.declared.fences.Fence.{Fence}
use Rattle.dsa_reasons.specs.Fences.{IsExplained, fenced_pieces}
use Rattle.dsa_reasons.specs.OneGroup.{one_group}

-- piece k is fenced in some group of the plan
pub record IsFencedIn (plan : Plan) (k : ℕ) : Type 0 where
  pub number : ℕ
  pub group : Group
  pub is_group : slice_get plan number ≡ Some group
  pub fenced : IsFenced (start_of plan number) group k

-- the listed fenced pieces ascend, and no fenced piece is missing
abbrev pub EachFenceOnce : Type 0
EachFenceOnce =
    (plan : Plan) → AllPairs (λ a b. a < b) (fenced_pieces 0 plan)
    × ((k : ℕ) → Contains (fenced_pieces 0 plan) k ↔ IsFencedIn plan k)

-- the pieces that have a reason ascend, and are those after the first at which the plan cuts the list: the fenced ones, and
-- the beginnings of groups
abbrev pub EachCutOnce : Type 0
EachCutOnce =
    (plan : Plan) → AllPairs (λ a b. a < b) (fenced_pieces 0 (one_group plan))
    × ((k : ℕ) → Contains (fenced_pieces 0 (one_group plan)) k ↔ ((0 < k) × (slice_get (cuts plan) k ≡ Some true)))

-- a fence of a legal plan that is explained in it is explained so in the plan as one group: of pieces that read, write and
-- conflict as the functions say
abbrev pub FencesAreCuts : {P : Type 0} → (P → List Span) → (P → List Span) → (List P → ℕ → ℕ → Type 0) → Type 0
FencesAreCuts {P} reads writes conflict =
    (detail : Detail) (pieces : List P) (barriers : List Bool) (greatest_batch : ℕ) (plan : Plan) (fence : Fence) →
    IsLegal (WithBarriers (conflict pieces) barriers) greatest_batch (length pieces) plan →
    IsExplained detail reads writes pieces barriers plan fence → IsExplained detail reads writes pieces barriers (one_group plan) fence
