-- Fences of a group that grows at its end, and how many there are.
use Rattle.std.proofs.Common.{◌≡◌, ℕ, zero, suc, ◌+◌, ◌<◌, ◌≤◌, ◌⊎◌, inl, inr, Bool, true, false, cond, [], ◌∷◌, ◌++◌, length, take, refl, sym, ap, ◌∙◌, subst, arith}
use Rattle.std.proofs.Math.ListN.{get_or-append}
use Rattle.std.proofs.Math.Seq.{get_or-append_seam}
use Rattle.std.proofs.lemmas.Bool.{true≢false}
use Rattle.std.proofs.lemmas.List.Sums.{sum_by-cons}
use Rattle.dsa_settings.specs.Plan.{Group, fence_count}
use Rattle.dsa_audit.specs.Audits.{HasFence, IsSeparated}

pub fence_within : (g : Group) (k : ℕ) → HasFence g k → k < length g
fence_within [] k h = absurd (true≢false (sym h))
fence_within (b ∷ g) zero h = omega arith
fence_within (b ∷ g) (suc k) h = let e : k < length g = fence_within g k h in omega arith

pub pushed_before : (xs : Group) (x : Bool) (k : ℕ) → HasFence xs k → HasFence (xs ++ x ∷ []) k
pushed_before xs x k h = get_or-append xs (x ∷ []) false k (fence_within xs k h) ∙ h

pub pushed_back : (xs : Group) (x : Bool) (k : ℕ) → HasFence (xs ++ x ∷ []) k → HasFence xs k ⊎ ((k ≡ length xs) × (x ≡ true))
pushed_back [] x zero h = inr (refl, h)
pushed_back [] x (suc k) h = absurd (true≢false (sym h))
pushed_back (y ∷ ys) x zero h = inl h
pushed_back (y ∷ ys) x (suc k) h =
    elim (pushed_back ys x k h) [
      | inl p ↦ inl p
      | inr q ↦ inr (ap suc q.0, q.1)
    ]

pub pushed_last : (xs : Group) (k : ℕ) → length xs ≡ k → HasFence (xs ++ true ∷ []) k
pushed_last xs k e = subst (HasFence (xs ++ true ∷ [])) e (get_or-append_seam xs true [] false)

-- no fence before the end is new
pub pushed_old : (xs : Group) (x : Bool) (k : ℕ) → k < length xs → HasFence (xs ++ x ∷ []) k → HasFence xs k
pushed_old xs x k lt h =
    elim (pushed_back xs x k h) [
      | inl p ↦ p
      | inr (e, _) ↦ absurd (omega arith)
    ]

pub separated_pushed : (xs : Group) (x : Bool) (a b : ℕ) → IsSeparated xs a b → IsSeparated (xs ++ x ∷ []) a b
separated_pushed xs x a b p = record { at = p.at; after = p.after; up_to = p.up_to; fence = pushed_before xs x p.at p.fence }

one : (xs : Group) → fence_count (true ∷ xs) ≡ fence_count xs + 1
one xs =
    let e : fence_count (true ∷ xs) ≡ 1 + fence_count xs = sum_by-cons (λ (b : Bool). cond b 1 0) true xs in omega arith

pub count_le : (xs : Group) (e m : ℕ) → e ≤ m → fence_count (take e xs) ≤ fence_count (take m xs)
count_le xs zero m h = omega arith
count_le [] (suc e) (suc m) h = omega arith
count_le (true ∷ xs) (suc e) (suc m) h =
    let l : fence_count (take e xs) ≤ fence_count (take m xs) = count_le xs e m (omega arith) in
    let a : fence_count (take (suc e) (true ∷ xs)) ≡ fence_count (take e xs) + 1 = one (take e xs) in
    let b : fence_count (take (suc m) (true ∷ xs)) ≡ fence_count (take m xs) + 1 = one (take m xs) in
    omega arith
count_le (false ∷ xs) (suc e) (suc m) h = count_le xs e m (omega arith)
count_le xs (suc e) zero h = absurd (omega arith)

pub count_more : (xs : Group) (e k m : ℕ) → e ≤ k → k < m → HasFence xs k → fence_count (take e xs) + 1 ≤ fence_count (take m xs)
count_more [] e k m le lt h = absurd (true≢false (sym h))
count_more (x ∷ xs) e k zero le lt h = absurd (omega arith)
count_more (x ∷ xs) (suc e) zero (suc m) le lt h = absurd (omega arith)
count_more (false ∷ xs) zero zero (suc m) le lt h = absurd (true≢false (sym h))
count_more (true ∷ xs) zero zero (suc m) le lt h =
    let b : fence_count (take (suc m) (true ∷ xs)) ≡ fence_count (take m xs) + 1 = one (take m xs) in
    let z : fence_count (take zero (true ∷ xs)) ≡ 0 = refl in
    omega arith
count_more (true ∷ xs) zero (suc k) (suc m) le lt h =
    let b : fence_count (take (suc m) (true ∷ xs)) ≡ fence_count (take m xs) + 1 = one (take m xs) in
    let z : fence_count (take zero (true ∷ xs)) ≡ 0 = refl in
    omega arith
count_more (false ∷ xs) zero (suc k) (suc m) le lt h = count_more xs zero k m (omega arith) (omega arith) h
count_more (true ∷ xs) (suc e) (suc k) (suc m) le lt h =
    let l : fence_count (take e xs) + 1 ≤ fence_count (take m xs) = count_more xs e k m (omega arith) (omega arith) h in
    let a : fence_count (take (suc e) (true ∷ xs)) ≡ fence_count (take e xs) + 1 = one (take e xs) in
    let b : fence_count (take (suc m) (true ∷ xs)) ≡ fence_count (take m xs) + 1 = one (take m xs) in
    omega arith
count_more (false ∷ xs) (suc e) (suc k) (suc m) le lt h = count_more xs e k m (omega arith) (omega arith) h

pub count_all : (xs : Group) (e : ℕ) → fence_count (take e xs) ≤ fence_count xs
count_all xs zero = omega arith
count_all [] (suc e) = omega arith
count_all (true ∷ xs) (suc e) =
    let l : fence_count (take e xs) ≤ fence_count xs = count_all xs e in
    let a : fence_count (take (suc e) (true ∷ xs)) ≡ fence_count (take e xs) + 1 = one (take e xs) in
    let b : fence_count (true ∷ xs) ≡ fence_count xs + 1 = one xs in
    omega arith
count_all (false ∷ xs) (suc e) = count_all xs e

pub count_true : (xs : Group) → fence_count (xs ++ true ∷ []) ≡ fence_count xs + 1
count_true [] = refl
count_true (true ∷ xs) =
    let l : fence_count (xs ++ true ∷ []) ≡ fence_count xs + 1 = count_true xs in
    let a : fence_count ((true ∷ xs) ++ true ∷ []) ≡ fence_count (xs ++ true ∷ []) + 1 = one (xs ++ true ∷ []) in
    let b : fence_count (true ∷ xs) ≡ fence_count xs + 1 = one xs in
    omega arith
count_true (false ∷ xs) = count_true xs

pub count_false : (xs : Group) → fence_count (xs ++ false ∷ []) ≡ fence_count xs
count_false [] = refl
count_false (true ∷ xs) =
    let l : fence_count (xs ++ false ∷ []) ≡ fence_count xs = count_false xs in
    let a : fence_count ((true ∷ xs) ++ false ∷ []) ≡ fence_count (xs ++ false ∷ []) + 1 = one (xs ++ false ∷ []) in
    let b : fence_count (true ∷ xs) ≡ fence_count xs + 1 = one xs in
    omega arith
count_false (false ∷ xs) = count_false xs
