-- With barriers the piece before one is the last conflict of the piece after it.
use Rattle.std.proofs.Common.{ℕ, ◌≡◌, ◌+◌, ◌-◌, ◌<◌, ◌⊎◌, inl, inr, Bool, true, false, refl, List, Option, length, Some, None, sym, ◌∙◌, subst, slice_get, arith}
use Rattle.std.proofs.lemmas.Bool.{cases_lt}
use Rattle.std.proofs.lemmas.Option.{same_Some, slice_get_within}
use Rattle.dsa_conflicts.specs.Last.{IsBack, IsLastBy, HasLastsBy}
use Rattle.dsa_settings.specs.Barriers.{WithBarriers}
use Rattle.dsa_settings.proofs.Barriers.{parted_by, by_conflict, by_barrier}
use Rattle.dsa_search.specs.Lasts.{BeginsAfterBarrier, AddsBarriers}

-- whether a piece begins after a barrier
marked_or_not : (o : Option Bool) → (o ≡ Some true) ⊎ ((o ≡ Some true) → ⊥)
marked_or_not (Some true) = inl refl
marked_or_not (Some false) = inr (λ e. cc)
marked_or_not None = inr (λ e. cc)

begins_or_not : (barriers : List Bool) (k : ℕ) → BeginsAfterBarrier barriers k ⊎ (¬ BeginsAfterBarrier barriers k)
begins_or_not barriers k =
    elim (cases_lt 0 k) [
      | inr first ↦ inr (λ h. absurd (omega (arith, h.0)))
      | inl some ↦ elim (marked_or_not (slice_get barriers k)) [
        | inl marked ↦ inl (some, marked)
        | inr other ↦ inr (λ h. other h.1)
      ]
    ]

module _ (C : ℕ → ℕ → Type 0) (window : ℕ) (barriers : List Bool) (some : 0 < window) where
  barrier_last : (b : ℕ) → BeginsAfterBarrier barriers b → IsLastBy (WithBarriers C barriers) window b (Some (b - 1))
  barrier_last b parted =
      let next : b ≡ b - 1 + 1 = omega (arith, parted.0) in (
        record { before = omega (arith, parted.0); within = omega (arith, some); conflict = by_barrier C barriers (b - 1) b (record { next = next; barrier = parted.1 }) },
        λ other back. omega (arith, back.before),
      )

  -- a piece with no barrier before it has the conflicts that it had
  as_before : (b a : ℕ) → ¬ BeginsAfterBarrier barriers b → IsBack (WithBarriers C barriers) window b a → IsBack C window b a
  as_before b a unmarked back =
      elim (parted_by C barriers a b back.conflict) [
        | inl conflict ↦ record { before = back.before; within = back.within; conflict = conflict }
        | inr pair ↦ absurd (unmarked (omega (arith, pair.next), pair.barrier))
      ]

  other_last : (b : ℕ) (last : Option ℕ) → ¬ BeginsAfterBarrier barriers b → IsLastBy C window b last → IsLastBy (WithBarriers C barriers) window b last
  other_last b (Some a) unmarked h = (
    record { before = h.0.before; within = h.0.within; conflict = by_conflict C barriers a b h.0.conflict },
    λ other back. h.1 other (as_before b other unmarked back),
  )
  other_last b None unmarked h = λ other back. h other (as_before b other unmarked back)

  pub lasts_with_barriers : (n : ℕ) (old new : List (Option ℕ)) → HasLastsBy C n window old → AddsBarriers barriers old new → HasLastsBy (WithBarriers C barriers) n window new
  lasts_with_barriers n old new has adds = record {
    count = adds.count ∙ has.count;
    each = λ b last e.
        elim (begins_or_not barriers b) [
          | inl here ↦
              let inside : b < length old = omega (arith, slice_get_within new b last e, adds.count) in
              let is : Some (b - 1) ≡ last = same_Some (Some (b - 1)) last (sym (adds.begun b inside here) ∙ e) in
              subst (λ (o : Option ℕ). IsLastBy (WithBarriers C barriers) window b o) is (barrier_last b here)
          | inr unmarked ↦ other_last b last unmarked (has.each b last (sym (adds.others b unmarked) ∙ e))
        ];
  }
