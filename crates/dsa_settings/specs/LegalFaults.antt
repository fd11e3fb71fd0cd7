-- Why a plan is not legal. `C a b` says that the pieces a and b conflict.
use Rattle.std.specs.Prelude.{ℕ, ◌≡◌, ◌≢◌, ◌+◌, ◌<◌, ◌≤◌, length, slice_get, Some}
use Rattle.dsa_settings.specs.declared.legal.LegalFault.{LegalFault}
use Rattle.dsa_settings.specs.declared.legal.LegalFault.TheVariants.{Count, GroupSize, FirstFence, Unfenced}
use Rattle.dsa_settings.specs.Plan.{Group, Plan, piece_count, start_of}
use Rattle.dsa_settings.specs.Legal.{IsFenced, ConflictsWithin, HasGroupSize, BeginsUnfenced}
pub use Rattle.dsa_settings.specs.Shapes.{HasGroupShape, HasGroupShapes}

-- each group before the one of that number has the shape of a group
abbrev pub HasShapesBefore : ℕ → Plan → ℕ → Type 0
HasShapesBefore greatest_batch plan number =
    (before : ℕ) (group : Group) → before < number → slice_get plan before ≡ Some group → HasGroupShape greatest_batch group

-- the group of that number is the first without that shape, and its size is wrong
pub record IsFirstSizeFault (greatest_batch : ℕ) (plan : Plan) (number : ℕ) : Type 0 where
  pub before : HasShapesBefore greatest_batch plan number
  pub group : Group
  pub is_group : slice_get plan number ≡ Some group
  pub wrong : ¬ HasGroupSize greatest_batch group

-- the group of that number is the first without that shape, and its size is right, but its first piece is fenced
pub record IsFirstFenceFault (greatest_batch : ℕ) (plan : Plan) (number : ℕ) : Type 0 where
  pub before : HasShapesBefore greatest_batch plan number
  pub group : Group
  pub is_group : slice_get plan number ≡ Some group
  pub size : HasGroupSize greatest_batch group
  pub wrong : ¬ BeginsUnfenced group

-- the fault is that of the first group without that shape
abbrev pub IsShapeFault : ℕ → Plan → LegalFault → Type 0
IsShapeFault greatest_batch plan Count = ⊥
IsShapeFault greatest_batch plan (GroupSize number) = IsFirstSizeFault greatest_batch plan number
IsShapeFault greatest_batch plan (FirstFence number) = IsFirstFenceFault greatest_batch plan number
IsShapeFault greatest_batch plan (Unfenced i j) = ⊥

-- in a group that begins with piece `start`, i and j are conflicting pieces with no fence after i and up to j
pub record IsUnfencedWithin (C : ℕ → ℕ → Type 0) (start : ℕ) (group : Group) (i j : ℕ) : Type 0 where
  pub pair : ConflictsWithin C start (start + length group) i j
  pub unfenced : (k : ℕ) → i < k → k ≤ j → ¬ IsFenced start group k

-- in that group there is no such pair with the second piece j
abbrev pub HasNoUnfenced : (ℕ → ℕ → Type 0) → ℕ → Group → ℕ → Type 0
HasNoUnfenced C start group j = (i : ℕ) → ¬ IsUnfencedWithin C start group i j

-- (i, j) has the greatest first piece of such pairs of that group with the second piece j
pub record IsLastUnfenced (C : ℕ → ℕ → Type 0) (start : ℕ) (group : Group) (i j : ℕ) : Type 0 where
  pub stands : IsUnfencedWithin C start group i j
  pub greatest : (x : ℕ) → IsUnfencedWithin C start group x j → x ≤ i

-- in that group there is no such pair
abbrev pub IsFencedWithin : (ℕ → ℕ → Type 0) → ℕ → Group → Type 0
IsFencedWithin C start group = (i j : ℕ) → ¬ IsUnfencedWithin C start group i j

-- in some group of the plan, i and j are conflicting pieces with no fence after i and up to j
pub record IsUnfenced (C : ℕ → ℕ → Type 0) (plan : Plan) (i j : ℕ) : Type 0 where
  pub number : ℕ
  pub group : Group
  pub is_group : slice_get plan number ≡ Some group
  pub within : IsUnfencedWithin C (start_of plan number) group i j

-- (i, j) has the least second piece of all such pairs of that group, and the greatest first piece with that second
pub record IsFirstUnfencedWithin (C : ℕ → ℕ → Type 0) (start : ℕ) (group : Group) (i j : ℕ) : Type 0 where
  pub stands : IsUnfencedWithin C start group i j
  pub least : (x y : ℕ) → IsUnfencedWithin C start group x y → j ≤ y
  pub greatest : (x : ℕ) → IsUnfencedWithin C start group x j → x ≤ i

-- no group of the plan has such a pair
abbrev pub IsFencedThroughout : (ℕ → ℕ → Type 0) → Plan → Type 0
IsFencedThroughout C plan = (i j : ℕ) → ¬ IsUnfenced C plan i j

-- (i, j) has the least second piece of all such pairs of the plan, and the greatest first piece with that second
pub record IsFirstUnfenced (C : ℕ → ℕ → Type 0) (plan : Plan) (i j : ℕ) : Type 0 where
  pub stands : IsUnfenced C plan i j
  pub least : (x y : ℕ) → IsUnfenced C plan x y → j ≤ y
  pub greatest : (x : ℕ) → IsUnfenced C plan x j → x ≤ i

-- the first fault of a plan for n pieces: first the number of pieces, then group by group its size and its first piece,
-- then the pairs of conflicting pieces
abbrev pub IsFirstLegalFault : (ℕ → ℕ → Type 0) → ℕ → ℕ → Plan → LegalFault → Type 0
IsFirstLegalFault C greatest_batch n plan Count = piece_count plan ≢ n
IsFirstLegalFault C greatest_batch n plan (GroupSize number) = (piece_count plan ≡ n) × IsFirstSizeFault greatest_batch plan number
IsFirstLegalFault C greatest_batch n plan (FirstFence number) = (piece_count plan ≡ n) × IsFirstFenceFault greatest_batch plan number
IsFirstLegalFault C greatest_batch n plan (Unfenced i j) = (piece_count plan ≡ n) × HasGroupShapes greatest_batch plan × IsFirstUnfenced C plan i j
