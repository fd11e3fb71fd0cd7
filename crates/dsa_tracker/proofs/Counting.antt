-- How many slots are free.
use Rattle.std.proofs.Common.{◌≡◌, ℕ, zero, suc, ◌+◌, ◌<◌, cond, List, [], ◌∷◌, Option, Some, None, map, slice_get, slice_set, ap, arith}
use Rattle.std.specs.List.{range_with_len}
use Rattle.std.proofs.lemmas.List.FromFn.{sum_by-map-range_with_len_more}
use Rattle.std.proofs.lemmas.List.Sums.{sum_by-cons}
use Rattle.std.proofs.lemmas.Option.{same_Some}
use Rattle.dsa_tracker.specs.declared.board.Board.{Board}
use Rattle.dsa_tracker.specs.Groups.{free_count, is_free}
use Rattle.dsa_tracker.specs.Sets.{Has}
use Rattle.dsa_tracker.specs.State.{shown}
use Rattle.dsa_tracker.specs.Table.{IsFull, Outstanding}
use Rattle.dsa_tracker.proofs.Showing.{shown_free, shown_held}

-- 1 for a free slot
abbrev weight : Option Outstanding → ℕ
weight x = cond (is_free x) 1 0

count_cons : (x : Option Outstanding) (xs : List (Option Outstanding)) → free_count (x ∷ xs) ≡ weight x + free_count xs
count_cons x xs = sum_by-cons weight x xs

-- one free slot less
pub one_less : (xs : List (Option Outstanding)) (s : ℕ) (o : Outstanding) → slice_get xs s ≡ Some None → free_count (slice_set xs s (Some o)) + 1 ≡ free_count xs
one_less [] s o is = absurd cc
one_less (x ∷ xs) zero o is =
    let e : x ≡ None = same_Some x None is in
    let one : weight x ≡ 1 = ap weight e in
    let before = count_cons x xs in
    let after : free_count (Some o ∷ xs) ≡ 0 + free_count xs = count_cons (Some o) xs in
    omega (arith, one, before, after)
one_less (x ∷ xs) (suc s) o is =
    let before = count_cons x xs in
    let after = count_cons x (slice_set xs s (Some o)) in
    let rest = one_less xs s o is in
    omega (arith, before, after, rest)

-- if some slot is free, not all are taken
pub not_full : (xs : List (Option Outstanding)) → 0 < free_count xs → IsFull xs → ⊥
not_full [] some all = absurd (omega (arith, some))
not_full (None ∷ xs) some all = let held = all 0 (omega arith) in let wrong : None ≡ Some held.0 = same_Some None (Some held.0) held.1 in cc
not_full (Some o ∷ xs) some all =
    let e : free_count (Some o ∷ xs) ≡ 0 + free_count xs = count_cons (Some o) xs in
    not_full xs (omega (arith, e, some)) (λ k lt. all (suc k) (omega (arith, lt)))

module _ (width : ℕ) (board : Board) (waits stores : List ℕ) (slot n : ℕ) (so_far : n ≡ free_count (map (shown width board waits stores) (range_with_len 0 slot))) where
  more : free_count (map (shown width board waits stores) (range_with_len 0 (slot + 1))) ≡ free_count (map (shown width board waits stores) (range_with_len 0 slot)) + weight (shown width board waits stores slot)
  more = sum_by-map-range_with_len_more weight (shown width board waits stores) 0 slot slot (omega arith)

  pub one_more_free : (Has board.outstanding slot → ⊥) → n + 1 ≡ free_count (map (shown width board waits stores) (range_with_len 0 (slot + 1)))
  one_more_free free =
      let here : weight (shown width board waits stores slot) ≡ 1 = ap weight (shown_free width board waits stores slot free) in
      omega (arith, so_far, more, here)

  pub none_more_free : Has board.outstanding slot → n ≡ free_count (map (shown width board waits stores) (range_with_len 0 (slot + 1)))
  none_more_free held =
      let here : weight (shown width board waits stores slot) ≡ 0 = ap weight (shown_held width board waits stores slot held) in
      omega (arith, so_far, more, here)
