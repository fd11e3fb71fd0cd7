-- The first piece of a list that is longer than a transfer may be.
use Rattle.std.proofs.Common.{◌≡◌, ℕ, zero, suc, ◌+◌, ◌<◌, ◌≤◌, List, [], ◌∷◌, length, map, get_or, Option, Some, sym, ap, ◌∙◌, inl, inr, ◌⊎◌, arith}
use Rattle.std.specs.Prelude.{slice_get}
use Rattle.std.proofs.Math.Nat.{le-suc_iff}
use Rattle.dsa_calls.specs.Judge.{FitTransfer, FitBefore, IsFirstOver}

same_size : (m n : ℕ) → ◌≡◌ {A = Option ℕ} (Some m) (Some n) → m ≡ n
same_size m n e = cc

module _ (P : Type 0) (size : P → ℕ) where
  -- the size of the piece at a place
  there : (ps : List P) (i : ℕ) (p : P) → i < length ps → p ≡ get_or ps i p → slice_get (map size ps) i ≡ Some (size p)
  there [] i p within is = absurd (omega arith)
  there (x ∷ ps) zero p within is = ap (λ (q : P). Some (size q)) (sym is)
  there (x ∷ ps) (suc i) p within is = there ps i p (omega arith) is

  -- there is no piece past the end
  past : (ps : List P) (i n : ℕ) → slice_get (map size ps) i ≡ Some n → i < length ps
  past [] i n e = cc
  past (x ∷ ps) zero n e = omega arith
  past (x ∷ ps) (suc i) n e = let h = past ps i n e in omega arith

  -- the piece at the place is longer, and none before it
  pub over_here : (greatest : ℕ) (ps : List P) (i : ℕ) (p : P) → i < length ps → p ≡ get_or ps i p → FitBefore greatest (map size ps) i → greatest < size p
      → IsFirstOver greatest (map size ps) i
  over_here greatest ps i p within is before over = record { long = size p; there = there ps i p within is; over = over; before = before }

  -- the piece at the place is no longer either
  pub fits_here : (greatest : ℕ) (ps : List P) (i : ℕ) (p : P) → i < length ps → p ≡ get_or ps i p → FitBefore greatest (map size ps) i → size p ≤ greatest
      → FitBefore greatest (map size ps) (i + 1)
  fits_here greatest ps i p within is before fits j n lt e = go (le-suc_iff.0 (omega arith))
    where
      go : (suc j ≤ i) ⊎ (suc j ≡ suc i) → n ≤ greatest
      go (inl less) = before j n less e
      go (inr same) =
          let at : j ≡ i = omega arith in
          let found : n ≡ size p = same_size n (size p) (sym e ∙ ap (slice_get (map size ps)) at ∙ there ps i p within is) in
          omega (arith, found, fits)

  -- none is longer
  pub all_fit : (greatest : ℕ) (ps : List P) (i : ℕ) → length ps ≤ i → FitBefore greatest (map size ps) i → FitTransfer greatest (map size ps)
  all_fit greatest ps i end before j n e = let h = past ps j n e in before j n (omega arith) e
