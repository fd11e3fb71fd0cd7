-- One cost more of a run of them is lowered.
use Rattle.std.proofs.Common.{ℕ, ◌≡◌, ◌≢◌, ◌+◌, ◌<◌, ◌≤◌, ◌⊎◌, inl, inr, min, List, length, sym, subst, ap, ◌∙◌, slice_index, slice_set, arith}
use Rattle.std.proofs.lemmas.Bool.{cases_eq}
use Rattle.std.proofs.lemmas.List.{get_or-set_same, get_or-set_other}

-- those from one end to before another are the least of what they were and of what is offered
module _ (old costs : List ℕ) (offer : ℕ → ℕ) (from end cost : ℕ) (within : end < length costs) (outside : (k : ℕ) → (k < from) ⊎ (end ≤ k) → slice_index costs k ≡ slice_index old k) where
  pub lowered_inside : ((k : ℕ) → from ≤ k → k < end → slice_index costs k ≡ min (slice_index old k) (offer k)) → cost ≡ min (slice_index costs end) (offer end) → (k : ℕ) → from ≤ k → k < end + 1 → slice_index (slice_set costs end cost) k ≡ min (slice_index old k) (offer k)
  lowered_inside inside is k low high = elim (cases_eq k end) [
    | inl same ↦
        let here = ap (λ (n : ℕ). min n (offer end)) (outside end (inr (omega arith))) in
        subst (λ (n : ℕ). slice_index (slice_set costs end cost) n ≡ min (slice_index old n) (offer n)) (sym same) (get_or-set_same costs end cost 0 within ∙ is ∙ here)
    | inr apart ↦ get_or-set_other costs end k cost 0 apart ∙ inside k low (omega (arith, high, apart))
  ]

  pub lowered_outside : from ≤ end → (k : ℕ) → (k < from) ⊎ (end + 1 ≤ k) → slice_index (slice_set costs end cost) k ≡ slice_index old k
  lowered_outside order k far =
      let apart : k ≢ end = elim far [ inl low ↦ omega (arith, order, low) | inr high ↦ omega (arith, high) ] in
      get_or-set_other costs end k cost 0 apart ∙ outside k (elim far [ inl low ↦ inl low | inr high ↦ inr (omega (arith, high)) ])
