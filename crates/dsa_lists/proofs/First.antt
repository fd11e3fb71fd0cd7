-- The first operation of a list that has a property.
use Rattle.std.proofs.Common.{◌≡◌, ℕ, suc, ◌+◌, ◌<◌, ◌≤◌, ◌⊎◌, List, length, get_or, Some, refl, sym, ap, subst, ◌∙◌, inl, inr, ⊎_elim, arith}
use Rattle.std.specs.Prelude.{slice_get}
use Rattle.std.proofs.Math.Nat.{le-suc_iff}
use Rattle.std.proofs.lemmas.Bool.{cases_order}
use Rattle.std.proofs.lemmas.Option.{same_Some, slice_get_read, slice_get_within}
use Rattle.dsa_operations.specs.declared.operation.Operation.{Operation}
use Rattle.dsa_lists.specs.Submissions.{IsFirst, NoneHas}

-- no operation before index i has it
abbrev pub NoneBefore : (Operation → Type 0) → List Operation → ℕ → Type 0
NoneBefore P operations i = (j : ℕ) (o : Operation) → j < i → slice_get operations j ≡ Some o → ¬ P o

module _ (P : Operation → Type 0) (operations : List Operation) where
  -- the operation at the place has it, and none before it
  pub first_here : (i : ℕ) (o : Operation) → i < length operations → o ≡ get_or operations i o → NoneBefore P operations i → P o → IsFirst P operations i
  first_here i o within is before has = record {
    operation = o;
    there = slice_get_read operations (length operations) i o refl within is;
    has = has;
    before = before;
  }

  -- the operation at the place does not have it either
  pub none_here : (i : ℕ) (o : Operation) → i < length operations → o ≡ get_or operations i o → NoneBefore P operations i → ¬ P o → NoneBefore P operations (i + 1)
  none_here i o within is before not j p lt e = go (le-suc_iff.0 (omega arith))
    where
      go : (suc j ≤ i) ⊎ (suc j ≡ suc i) → ¬ P p
      go (inl less) = before j p less e
      go (inr same) =
          let at : j ≡ i = omega arith in
          let found : o ≡ p = same_Some o p (sym (slice_get_read operations (length operations) i o refl within is) ∙ ap (slice_get operations) (sym at) ∙ e) in
          subst (λ (x : Operation). ¬ P x) found not

  -- none has it
  pub all_none : (i : ℕ) → length operations ≤ i → NoneBefore P operations i → NoneHas P operations
  all_none i end before j p e = before j p (omega (arith, slice_get_within operations j p e)) e

  -- not none and one
  pub none_first : (i : ℕ) → NoneHas P operations → IsFirst P operations i → ⊥
  none_first i none first = none i first.operation first.there first.has

  -- one is the first
  pub one_first : (i j : ℕ) → IsFirst P operations i → IsFirst P operations j → i ≡ j
  one_first i j first other =
      ⊎_elim (λ (e : i ≡ j). e)
      (⊎_elim (λ (lt : i < j). absurd (other.before i first.operation lt first.there first.has))
      (λ (gt : j < i). absurd (first.before j other.operation gt other.there other.has)))
      (cases_order i j)
