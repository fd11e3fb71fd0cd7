-- Which plans are legal, and which of them are least. `C a b` says that the pieces a and b conflict.
use Rattle.std.specs.Prelude.{ℕ, ◌≡◌, ◌+◌, ◌-◌, ◌<◌, ◌≤◌, true, false, length, slice_get, Some}
use Rattle.dsa_settings.specs.Plan.{Tariff, Group, Plan, group_cost, plan_cost, piece_count, start_of}

-- in a group that begins with piece `start`, piece k is fenced (specification 341204, fence)
abbrev pub IsFenced : ℕ → Group → ℕ → Type 0
IsFenced start group k = (start ≤ k) × (slice_get group (k - start) ≡ Some true)

-- a and b are conflicting pieces in the order of the list, both from piece `start` on and below `end`
pub record ConflictsWithin (C : ℕ → ℕ → Type 0) (start end a b : ℕ) : Type 0 where
  pub starts : start ≤ a
  pub ordered : a < b
  pub ends : b < end
  pub conflict : C a b

-- any two conflicting pieces of a group that begins with piece `start` have a fence between them: after the first, and
-- no later than at the second (a fenced descriptor of a batch starts after those before it have completed,
-- specification 341204, batch and fence)
abbrev pub SeparatesConflicts : (ℕ → ℕ → Type 0) → ℕ → Group → Type 0
SeparatesConflicts C start group =
    (a b : ℕ) → ConflictsWithin C start (start + length group) a b →
    (k : ℕ) × (a < k) × (k ≤ b) × IsFenced start group k

-- a group has a piece, and at most as many as a batch may have
pub record HasGroupSize (greatest_batch : ℕ) (group : Group) : Type 0 where
  pub nonempty : 0 < length group
  pub fits : length group ≤ greatest_batch

-- the first piece of a group is unfenced
abbrev pub BeginsUnfenced : Group → Type 0
BeginsUnfenced group = slice_get group 0 ≡ Some false

-- a group that begins with piece `start` is legal (this project's choice)
pub record IsLegalGroup (C : ℕ → ℕ → Type 0) (greatest_batch start : ℕ) (group : Group) : Type 0 where
  pub size : HasGroupSize greatest_batch group
  pub begins : BeginsUnfenced group
  pub separates : SeparatesConflicts C start group

-- a plan is legal for n pieces, whatever it costs
pub record IsLegal (C : ℕ → ℕ → Type 0) (greatest_batch n : ℕ) (plan : Plan) : Type 0 where
  pub covers : piece_count plan ≡ n
  pub groups :
      (number : ℕ) (group : Group) → slice_get plan number ≡ Some group →
      IsLegalGroup C greatest_batch (start_of plan number) group

-- a plan is legal, and no legal plan of as many pieces costs less
pub record IsLeast (C : ℕ → ℕ → Type 0) (greatest_batch : ℕ) (tariff : Tariff) (n : ℕ) (plan : Plan) : Type 0 where
  pub legal : IsLegal C greatest_batch n plan
  pub least : (other : Plan) → IsLegal C greatest_batch n other → plan_cost tariff plan ≤ plan_cost tariff other

-- some legal plan of n pieces costs that much, and none costs less
pub record IsLeastCost (C : ℕ → ℕ → Type 0) (greatest_batch : ℕ) (tariff : Tariff) (n cost : ℕ) : Type 0 where
  pub reached : (plan : Plan) × IsLegal C greatest_batch n plan × (plan_cost tariff plan ≡ cost)
  pub least : (plan : Plan) → IsLegal C greatest_batch n plan → cost ≤ plan_cost tariff plan

-- some legal group of the pieces from `start` to below `end` costs that much, and none costs less
pub record IsLeastGroupCost (C : ℕ → ℕ → Type 0) (greatest_batch : ℕ) (tariff : Tariff) (start end cost : ℕ) : Type 0 where
  pub reached :
      (group : Group) × (start + length group ≡ end) × IsLegalGroup C greatest_batch start group ×
      (group_cost tariff group ≡ cost)
  pub least :
      (group : Group) → start + length group ≡ end → IsLegalGroup C greatest_batch start group →
      cost ≤ group_cost tariff group
