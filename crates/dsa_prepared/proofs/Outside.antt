-- The loop that looks for an operation outside the regions.
use Rattle.std.proofs.Common.{◌≡◌, ℕ, suc, ◌+◌, ◌<◌, inl, inr, List, [], ◌∷◌, length, get_or, Some, slice_get, refl, sym, ap, subst, ◌∙◌, arith}
use Rattle.std.specs.List.{AllByRecursion}
use Rattle.std.proofs.lemmas.Bool.{cases_order}
use Rattle.std.proofs.lemmas.Option.{slice_get-get_or, same_Some}

pub is_there : {X : Type 0} (xs : List X) (i : ℕ) (x : X) → i < length xs → x ≡ get_or xs i x → slice_get xs i ≡ Some x
is_there xs i x lt is = slice_get-get_or xs i x lt ∙ ap Some (sym is)

pub one_more : {X : Type 0} (P : X → Type 0) (xs : List X) (i : ℕ) (x : X) → slice_get xs i ≡ Some x → P x → ((j : ℕ) (y : X) → j < i → slice_get xs j ≡ Some y → P y) →
    (j : ℕ) (y : X) → j < i + 1 → slice_get xs j ≡ Some y → P y
one_more P xs i x there here before j y lt at =
    elim (cases_order j i) [
      | inl same ↦ subst P (same_Some x y (sym there ∙ ap (slice_get xs) (sym same) ∙ at)) here
      | inr (inl less) ↦ before j y less at
      | inr (inr more) ↦ absurd (omega (arith, more, lt))
    ]

pub all_of : {X : Type 0} (P : X → Type 0) (xs : List X) → ((j : ℕ) (y : X) → j < length xs → slice_get xs j ≡ Some y → P y) → AllByRecursion P xs
all_of P [] each = tt
all_of P (x ∷ xs) each = (each 0 x (omega arith) refl, all_of P xs (λ j y lt at. each (suc j) y (omega (arith, lt)) at))
