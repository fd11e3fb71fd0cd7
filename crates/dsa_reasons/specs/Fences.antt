-- The fences of a plan, and what each is for.
use Rattle.std.specs.Prelude.{◌≡◌, ◌↔◌, ℕ, suc, ◌+◌, ◌-◌, All, Bool, IsTrue, List, [], ◌∷◌, ◌++◌, length, map, slice_get, take, Some, if◌then◌else◌}
use Rattle.dsa_descriptor.specs.declared.span.Span.{Span}
use Rattle.dsa_settings.specs.Plan.{Group, Plan, start_of}
use Rattle.dsa_settings.specs.Barriers.{IsBarrier}
use Rattle.dsa_settings.specs.Legal.{IsFenced}
use Rattle.dsa_reasons.specs.declared.reason.Reason.{Reason}
use Rattle.dsa_reasons.specs.Reasons.{AreReasonsFor}
use Rattle.dsa_reasons.specs.declared.fences.Fence.{Fence}
use Rattle.dsa_reasons.specs.declared.fences.Detail.{Detail}
use Rattle.dsa_reasons.specs.declared.fences.Detail.TheVariants.{First, All as Every}

-- the fenced pieces of a group that begins with this piece, in order
abbrev pub fenced_in : ℕ → Group → List ℕ
fenced_in piece [] = []
fenced_in piece (fenced ∷ group) =
    if fenced then (piece ∷ fenced_in (suc piece) group) else fenced_in (suc piece) group

-- the fenced pieces of groups, the first of which begins with this piece, in order
abbrev pub fenced_pieces : ℕ → Plan → List ℕ
fenced_pieces piece [] = []
fenced_pieces piece (group ∷ plan) =
    fenced_in piece group ++ fenced_pieces (piece + length group) plan

-- the reasons of a fence that are named: the first one, or all
abbrev pub named_of : Detail → List Reason → List Reason
named_of First reasons = take 1 reasons
named_of Every reasons = reasons

-- the fence names its reasons in that detail, and says how many more there are
pub record HasReasons {P : Type 0} (detail : Detail) (reads writes : P → List Span) (pieces : List P) (start : ℕ) (group : Group) (fence : Fence) : Type 0 where
  pub reasons : List Reason
  pub are : AreReasonsFor reads writes pieces start group fence.piece reasons
  pub named : fence.named.items ≡ named_of detail reasons
  pub more : fence.more ≡ length reasons - length fence.named.items

-- the fence is in a group of the plan; it has the reasons that need it there, and says if there is a barrier before its
-- piece
pub record IsExplained {P : Type 0} (detail : Detail) (reads writes : P → List Span) (pieces : List P) (barriers : List Bool) (plan : Plan) (fence : Fence) : Type 0 where
  pub number : ℕ
  pub group : Group
  pub is_group : slice_get plan number ≡ Some group
  pub fenced : IsFenced (start_of plan number) group fence.piece
  pub reasons : HasReasons detail reads writes pieces (start_of plan number) group fence
  pub barrier : IsTrue fence.barrier ↔ IsBarrier barriers fence.piece

-- the pieces that fences are before
abbrev pub fence_places : List Fence → List ℕ
fence_places fences = map (λ fence. fence.piece) fences

-- one fence before each fenced piece of the plan, in order, and each with its reasons
pub record AreFencesOf {P : Type 0} (detail : Detail) (reads writes : P → List Span) (pieces : List P) (barriers : List Bool) (plan : Plan) (fences : List Fence) : Type 0 where
  pub places : fence_places fences ≡ fenced_pieces 0 plan
  pub reasons : All (IsExplained detail reads writes pieces barriers plan) fences

-- ---- for private clauses

-- fences of this group are added: if all were explained before, all are explained after
abbrev pub AddsExplained : {P : Type 0} → Detail → (P → List Span) → (P → List Span) → List P → List Bool → ℕ → Group → List Fence → List Fence → Type 0
AddsExplained detail reads writes pieces barriers start group before after =
    (plan : Plan) (number : ℕ) → slice_get plan number ≡ Some group → start ≡ start_of plan number →
    All (IsExplained detail reads writes pieces barriers plan) before → All (IsExplained detail reads writes pieces barriers plan) after
