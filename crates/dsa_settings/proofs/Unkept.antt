-- Barriers that a plan does not keep, as pairs with no fence between.
use Rattle.std.proofs.Common.{ℕ, ◌≡◌, ◌+◌, ◌-◌, ◌<◌, ◌≤◌, ◌⊎◌, inl, inr, Bool, true, List, [], ◌∷◌, Option, length, None, Some, slice_get, subst, arith}
use Rattle.std.specs.Option.{MatchOption}
use Rattle.dsa_settings.specs.Plan.{Group, Plan}
use Rattle.dsa_settings.specs.LegalFaults.{HasNoUnfenced, IsLastUnfenced, IsUnfenced, IsFencedThroughout, IsFirstUnfenced}
use Rattle.dsa_settings.specs.Barriers.{IsBarrier, IsBarrierPair, WithBarriers}
use Rattle.dsa_settings.proofs.Barriers.{parted_by, by_conflict, by_barrier}

-- ---- within a group

module _ (barriers : List Bool) (start : ℕ) (g : Group) (at : ℕ) where
  pub none_at_start : at ≤ start → HasNoUnfenced (IsBarrierPair barriers) start g at
  none_at_start le = λ i h. omega (arith, h.pair.starts, h.pair.ordered)

  pub none_unmarked : ¬ IsBarrier barriers at → HasNoUnfenced (IsBarrierPair barriers) start g at
  none_unmarked unmarked = λ i h. unmarked h.pair.conflict.barrier

  pub none_fenced : start ≤ at → slice_get g (at - start) ≡ Some true → HasNoUnfenced (IsBarrierPair barriers) start g at
  none_fenced from fenced = λ i h. h.unfenced at h.pair.ordered (omega arith) (from, fenced)

  pub last_unkept : start < at → at < start + length g → IsBarrier barriers at → ((slice_get g (at - start) ≡ Some true) → ⊥) →
      IsLastUnfenced (IsBarrierPair barriers) start g (at - 1) at
  last_unkept from within barrier open_here =
      let next : at ≡ at - 1 + 1 = omega arith in
      record {
        stands = record {
          pair = record { starts = omega arith; ordered = omega arith; ends = within; conflict = record { next = next; barrier = barrier } };
          unfenced = λ k after up_to f. let same : k ≡ at = omega arith in open_here (subst (λ (z : ℕ). slice_get g (z - start) ≡ Some true) same f.1);
        };
        greatest = λ x h. omega (arith, h.pair.ordered);
      }

-- ---- the first of conflicts and barriers

-- a pair with no fence between, by another relation between the two
of_another : (C D : ℕ → ℕ → Type 0) (plan : Plan) (i j : ℕ) → D i j → IsUnfenced C plan i j → IsUnfenced D plan i j
of_another C D plan i j by_D h = record {
  number = h.number;
  group = h.group;
  is_group = h.is_group;
  within = record {
    pair = record { starts = h.within.pair.starts; ordered = h.within.pair.ordered; ends = h.within.pair.ends; conflict = by_D };
    unfenced = h.within.unfenced;
  };
}

-- with no marks there is none
pub none_without_marks : (barriers : List Bool) (plan : Plan) → length barriers ≡ 0 → IsFencedThroughout (IsBarrierPair barriers) plan
none_without_marks [] plan empty = λ i j h. let none : slice_get [] j ≡ Some true = h.within.pair.conflict.barrier in cc
none_without_marks (mark ∷ marks) plan empty = λ i j h. absurd (omega (arith, empty))

module _ (C : ℕ → ℕ → Type 0) (barriers : List Bool) (plan : Plan) where
  by_one : (i j : ℕ) → IsUnfenced (WithBarriers C barriers) plan i j → IsUnfenced C plan i j ⊎ IsUnfenced (IsBarrierPair barriers) plan i j
  by_one i j h =
      elim (parted_by C barriers i j h.within.pair.conflict) [
        | inl c ↦ inl (of_another (WithBarriers C barriers) C plan i j c h)
        | inr b ↦ inr (of_another (WithBarriers C barriers) (IsBarrierPair barriers) plan i j b h)
      ]

  by_conflict_alone : (i j : ℕ) → IsUnfenced C plan i j → IsUnfenced (WithBarriers C barriers) plan i j
  by_conflict_alone i j h = of_another C (WithBarriers C barriers) plan i j (by_conflict C barriers i j h.within.pair.conflict) h

  by_barrier_alone : (i j : ℕ) → IsUnfenced (IsBarrierPair barriers) plan i j → IsUnfenced (WithBarriers C barriers) plan i j
  by_barrier_alone i j h = of_another (IsBarrierPair barriers) (WithBarriers C barriers) plan i j (by_barrier C barriers i j h.within.pair.conflict) h

  pub both_throughout : IsFencedThroughout C plan → IsFencedThroughout (IsBarrierPair barriers) plan → IsFencedThroughout (WithBarriers C barriers) plan
  both_throughout conflicts kept i j h =
      elim (by_one i j h) [
        | inl c ↦ conflicts i j c
        | inr b ↦ kept i j b
      ]

  -- a barrier is not kept, and no conflict has an earlier second piece
  pub first_is_barrier : (k : ℕ) → IsFirstUnfenced (IsBarrierPair barriers) plan (k - 1) k → ((x y : ℕ) → IsUnfenced C plan x y → k ≤ y) →
      IsFirstUnfenced (WithBarriers C barriers) plan (k - 1) k
  first_is_barrier k first later = record {
    stands = by_barrier_alone (k - 1) k first.stands;
    least = λ x y h.
        elim (by_one x y h) [
          | inl c ↦ later x y c
          | inr b ↦ first.least x y b
        ];
    greatest = λ x h. omega (arith, h.within.pair.ordered);
  }

  -- a conflict, and each barrier that is not kept comes after its second piece
  pub first_is_conflict : (i j : ℕ) → IsFirstUnfenced C plan i j → ((x y : ℕ) → IsUnfenced (IsBarrierPair barriers) plan x y → j < y) →
      IsFirstUnfenced (WithBarriers C barriers) plan i j
  first_is_conflict i j first later = record {
    stands = by_conflict_alone i j first.stands;
    least = λ x y h.
        elim (by_one x y h) [
          | inl c ↦ first.least x y c
          | inr b ↦ let after : j < y = later x y b in omega arith
        ];
    greatest = λ x h.
        elim (by_one x j h) [
          | inl c ↦ first.greatest x c
          | inr b ↦ absurd (omega (arith, later x j b))
        ];
  }

  -- if each barrier is kept
  pub all_or_first : (o : Option (ℕ × ℕ)) → IsFencedThroughout (IsBarrierPair barriers) plan →
      MatchOption o (IsFencedThroughout C plan) (λ p. IsFirstUnfenced C plan p.0 p.1) →
      MatchOption o (IsFencedThroughout (WithBarriers C barriers) plan) (λ p. IsFirstUnfenced (WithBarriers C barriers) plan p.0 p.1)
  all_or_first None kept h = both_throughout h kept
  all_or_first (Some p) kept h = first_is_conflict p.0 p.1 h (λ x y b. absurd (kept x y b))
