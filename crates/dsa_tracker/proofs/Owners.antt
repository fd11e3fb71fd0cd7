-- The owners of pieces.
use Rattle.std.proofs.Common.{◌≡◌, ℕ, ◌+◌, ◌<◌, ◌≤◌, List, Option, Some, length, slice_get, get_or, sym, ap, ◌∙◌, subst, arith, inl, inr}
use Rattle.std.proofs.lemmas.Bool.{cases_eq}
use Rattle.std.proofs.lemmas.Option.{same_Some, slice_get-get_or, slice_get_within}
use Rattle.dsa_tracker.specs.declared.owner.Owner.{Owner}
use Rattle.dsa_tracker.specs.Calls.{HaveOwner, IsFirstOther}

module _ {P : Type 0} (named : P → Owner) (owner : Option Owner) (pieces : List P) where
  -- the pieces so far have this owner
  abbrev pub HaveOwnerBelow : ℕ → Type 0
  HaveOwnerBelow i = (k : ℕ) (p : P) → k < i → slice_get pieces k ≡ Some p → owner ≡ Some (named p)

  pub other_at : (i : ℕ) (p : P) → i < length pieces → HaveOwnerBelow i → (owner ≡ Some (named (get_or pieces i p)) → ⊥) → IsFirstOther named owner pieces i
  other_at i p lt so_far other = (get_or pieces i p, slice_get-get_or pieces i p lt, other, so_far)

  pub one_more : (i : ℕ) (p : P) → i < length pieces → HaveOwnerBelow i → owner ≡ Some (named (get_or pieces i p)) → HaveOwnerBelow (i + 1)
  one_more i p lt so_far here k q less is =
      elim (cases_eq k i) [
        | inl same ↦
            let q_is : get_or pieces i p ≡ q = same_Some (get_or pieces i p) q (sym (slice_get-get_or pieces i p lt) ∙ ap (λ n. slice_get pieces n) (sym same) ∙ is) in
            subst (λ (x : P). owner ≡ Some (named x)) q_is here
        | inr apart ↦ so_far k q (omega (arith, less, apart)) is
      ]

  pub all_have : (i : ℕ) → length pieces ≤ i → HaveOwnerBelow i → HaveOwner named owner pieces
  all_have i all so_far k p is = so_far k p (omega (arith, all, slice_get_within pieces k p is)) is
