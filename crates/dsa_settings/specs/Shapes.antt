-- The shape that a group has to have, whatever its pieces are.
use Rattle.std.specs.Prelude.{ℕ, ◌≡◌, slice_get, Some}
use Rattle.dsa_settings.specs.Plan.{Group, Plan}
use Rattle.dsa_settings.specs.Legal.{HasGroupSize, BeginsUnfenced}

-- a group has a size that it may have, and its first piece is unfenced
pub record HasGroupShape (greatest_batch : ℕ) (group : Group) : Type 0 where
  pub size : HasGroupSize greatest_batch group
  pub begins : BeginsUnfenced group

-- each group of the plan is such a group
abbrev pub HasGroupShapes : ℕ → Plan → Type 0
HasGroupShapes greatest_batch plan =
    (number : ℕ) (group : Group) → slice_get plan number ≡ Some group → HasGroupShape greatest_batch group
