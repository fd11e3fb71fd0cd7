-- When a pair holds, by what is looked at.
use Rattle.std.proofs.Common.{ℕ, ◌≡◌, ◌+◌, ◌-◌, ◌<◌, ◌≤◌, ◌⊎◌, inl, inr, Bool, List, Some, sym, ◌∙◌, subst, slice_get, arith}
use Rattle.std.proofs.lemmas.Option.{same_Some}
use Rattle.dsa_settings.specs.Legal.{ConflictsWithin}
use Rattle.dsa_settings.specs.Barriers.{IsBarrier, WithBarriers}
use Rattle.dsa_plan.specs.Chain.{Pairs}
use Rattle.dsa_settings.proofs.Barriers.{parted_by, by_conflict, by_barrier}
use Rattle.dsa_checker.specs.Steps.{PairHolds}

module _ (C : ℕ → ℕ → Type 0) (n : ℕ) (pairs : Pairs) (i a b : ℕ) (is : slice_get pairs i ≡ Some (Some (a, b))) where
  pub holds_if : i ≤ a → a < b → b < n → C a b → PairHolds C n pairs i
  holds_if le lt inside conflict x y e =
      let same : (a, b) ≡ (x, y) = same_Some (a, b) (x, y) (same_Some (Some (a, b)) (Some (x, y)) (sym is ∙ e)) in
      subst (λ (p : ℕ × ℕ). ConflictsWithin C i n p.0 p.1) same (record { starts = le; ordered = lt; ends = inside; conflict = conflict })

  pub conflict_if : PairHolds C n pairs i → C a b
  conflict_if h = (h a b is).conflict

  pub no_pair : (a < i) ⊎ (b ≤ a) ⊎ (n ≤ b) → PairHolds C n pairs i → ⊥
  no_pair outside h =
      let within = h a b is in
      elim outside [
        | inl early ↦ omega (arith, within.starts)
        | inr (inl turned) ↦ omega (arith, within.ordered)
        | inr (inr late) ↦ omega (arith, within.ends)
      ]

-- whether two pieces conflict or have a barrier between, by what is asked
module _ (C : ℕ → ℕ → Type 0) (barriers : List Bool) (a b : ℕ) (lt : a < b) where
  pub parted_if_conflict : C a b → WithBarriers C barriers a b
  parted_if_conflict = by_conflict C barriers a b

  pub parted_if_barrier : b - a ≡ 1 → IsBarrier barriers b → WithBarriers C barriers a b
  parted_if_barrier one barrier = let next : b ≡ a + 1 = omega arith in by_barrier C barriers a b (record { next = next; barrier = barrier })

  pub barrier_if : (C a b → ⊥) → WithBarriers C barriers a b → (b - a ≡ 1) × IsBarrier barriers b
  barrier_if apart h =
      elim (parted_by C barriers a b h) [
        | inl conflict ↦ absurd (apart conflict)
        | inr pair ↦ (omega (arith, pair.next), pair.barrier)
      ]
