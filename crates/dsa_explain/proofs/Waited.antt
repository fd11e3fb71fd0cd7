-- What the groups of a plan wait for.
use Rattle.std.proofs.Common.{◌≡◌, ◌⊎◌, ℕ, zero, suc, inl, inr, List, [], ◌∷◌, ◌++◌, Some, length, slice_get, refl, sym, ap, ◌∙◌, subst}
use Rattle.std.proofs.lemmas.Option.{same_Some}
use Rattle.dsa_operations.specs.declared.operation.Operation.{Operation}
use Rattle.dsa_settings.specs.Plan.{Plan}
use Rattle.dsa_operations.specs.Operations.{reads_of, writes_of}
use Rattle.dsa_tracker.specs.declared.slots.Slots.{Slots}
use Rattle.dsa_tracker.specs.Calls.{operation_owner, owner_with}
use Rattle.dsa_tracker.specs.Groups.{SubmitsInTurn, group_reads, group_writes}
use Rattle.dsa_tracker.specs.Table.{Table}
use Rattle.dsa_explain.specs.Waits.{AreSets, AreWaits, free_table}

pub last_or_before : (xs : List Slots) (x y : Slots) (k : ℕ) → slice_get (xs ++ x ∷ []) k ≡ Some y → (slice_get xs k ≡ Some y) ⊎ ((k ≡ length xs) × (x ≡ y))
last_or_before [] x y zero is = inr (refl, same_Some x y is)
last_or_before [] x y (suc k) is = absurd cc
last_or_before (z ∷ xs) x y zero is = inl is
last_or_before (z ∷ xs) x y (suc k) is = elim (last_or_before xs x y k is) [ inl before ↦ inl before | inr last ↦ inr (ap suc last.0, last.1) ]

pub waits_told :
    (t mid : Table) (slots items told : List ℕ) (sets : List Slots) (plan : Plan) (pieces : List Operation) (staging : ℕ) → t ≡ free_table →
    SubmitsInTurn t (group_reads reads_of plan pieces) (group_writes writes_of staging plan pieces) (record { 0 = 0 }) (owner_with operation_owner t.owner pieces) slots (length plan) mid → items ≡ slots → told ≡ items → length slots ≡ length plan →
    AreSets mid told sets → AreWaits staging plan pieces items sets
waits_told t mid slots items told sets plan pieces staging t_is taken items_are told_are count are =
    record {
      tracked = mid;
      taken =
          subst (λ (x : Table × List ℕ). SubmitsInTurn x.0 (group_reads reads_of plan pieces) (group_writes writes_of staging plan pieces) (record { 0 = 0 }) (owner_with operation_owner x.0.owner pieces) x.1 (length plan) mid)
          (λ i. (t_is i, sym items_are i)) taken;
      count = ap length items_are ∙ count;
      told = subst (λ (xs : List ℕ). AreSets mid xs sets) told_are are;
    }
