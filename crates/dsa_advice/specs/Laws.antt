-- What the explanation of a planned list promises.
use Rattle.std.specs.Prelude.{ℕ, ◌≡◌, slice_get, Some}
use Rattle.dsa_settings.specs.Plan.{Group, Plan, start_of}
use Rattle.dsa_settings.specs.Legal.{IsFenced}
use Rattle.dsa_reasons.specs.Reasons.{NeedsFence}

-- each fence of the plan separates its piece from an earlier one with which it conflicts by `C`, and no other fence does
abbrev pub FencesAreNeeded : (ℕ → ℕ → Type 0) → Plan → Type 0
FencesAreNeeded C plan =
    (number : ℕ) (group : Group) (k : ℕ) → slice_get plan number ≡ Some group → IsFenced (start_of plan number) group k →
    (a : ℕ) × NeedsFence C (start_of plan number) group k a k
