-- Elements of lists.
use Rattle.std.proofs.Common.{◌≡◌, ℕ, zero, suc, ◌<◌, List, [], ◌∷◌, Some, length, slice_get, slice_set, refl, ap, arith}

-- an index within a list has an element
pub element : {X : Type 0} (xs : List X) (i : ℕ) → i < length xs → (x : X) × (slice_get xs i ≡ Some x)
element [] i lt = absurd (omega (arith, lt))
element (x ∷ xs) zero lt = (x, refl)
element (x ∷ xs) (suc i) lt = element xs i (omega (arith, lt))

pub set_same : {X : Type 0} (xs : List X) (i : ℕ) (x y : X) → slice_get xs i ≡ Some x → slice_get (slice_set xs i y) i ≡ Some y
set_same [] i x y h = cc
set_same (z ∷ xs) zero x y h = refl
set_same (z ∷ xs) (suc i) x y h = set_same xs i x y h

pub set_other : {X : Type 0} (xs : List X) (i j : ℕ) (y : X) → (j ≡ i → ⊥) → slice_get (slice_set xs i y) j ≡ slice_get xs j
set_other [] i j y h = refl
set_other (z ∷ xs) zero zero y h = absurd (h refl)
set_other (z ∷ xs) zero (suc j) y h = refl
set_other (z ∷ xs) (suc i) zero y h = refl
set_other (z ∷ xs) (suc i) (suc j) y h = set_other xs i j y (λ e. h (ap suc e))
