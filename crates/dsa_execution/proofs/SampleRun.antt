-- Two checksums in one batch, the second fenced: they can be run, and what each complete run leaves.
use Rattle.std.proofs.Common.{◌≡◌, ℕ, zero, suc, ◌<◌, ◌⊎◌, inl, inr, false, true, List, [], ◌∷◌, length, Some, slice_get, refl, sym, ap, ap₂, ◌∙◌, subst, arith}
use Rattle.std.specs.Int.{to_le_bytes, w64}
use Rattle.std.proofs.lemmas.List.Elements.{All-cons, All-nil}
use Rattle.std.proofs.lemmas.Option.{same_Some}
use Rattle.dsa_core.specs.Machine.{HoldsPiece}
use Rattle.dsa_core.specs.Samples.{fenced_pair, sample_members}
use Rattle.dsa_core.specs.StopPoint.{AllSucceed}
use Rattle.dsa_core.proofs.Slots.{none_read}
use Rattle.dsa_descriptor.specs.Data.{record_span}
use Rattle.dsa_descriptor.specs.Spans.{InSome}
use Rattle.dsa_image.specs.Memory.{Holds, HoldsSpan, Memory, bytes_from}
use Rattle.dsa_image.proofs.Executed.{Holds-same}
use Rattle.dsa_operations.specs.declared.checksum.Checksum.{Checksum}
use Rattle.dsa_operations.specs.declared.operation.Operation.{Operation}
use Rattle.dsa_operations.specs.declared.operation.Operation.TheVariants as operation
use Rattle.dsa_operations.specs.Data.{checksum_reads, checksum_writes}
use Rattle.dsa_operations.specs.Fields.{ChecksumFields}
use Rattle.dsa_operations.specs.Operations.{OperationConflictAt}
use Rattle.dsa_settings.specs.Legal.{IsLegal, IsLegalGroup}
use Rattle.dsa_settings.specs.Plan.{Group, start_of}
use Rattle.dsa_core.specs.Checksums.{checksum_done}
use Rattle.dsa_execution.specs.Headline.{statuses_of}
use Rattle.dsa_core.specs.Operations.{operation_machine}
use Rattle.dsa_execution.specs.Samples.{EveryRunLeavesTheValue, TheyCanExecute, digits_memory, first_digits, last_digits}
use Rattle.dsa_execution.proofs.Left.{done_addresses, value_is_left}
use Rattle.dsa_execution.proofs.Runs.{success_is_whole}
use Rattle.dsa_execution.proofs.SamplesHold.{chain_value}

abbrev pair : Checksum → Checksum → List Operation
pair c d = operation.Checksum c ∷ operation.Checksum d ∷ []

-- whatever conflicts, a fence is between
one_group : (C : ℕ → ℕ → Type 0) → IsLegalGroup C sample_members 0 (false ∷ true ∷ [])
one_group C =
    record {
      size = record { nonempty = omega arith; fits = omega arith };
      begins = refl;
      separates = λ a b within.
          let ordered = within.ordered in
          let ends = within.ends in
          (1, omega (arith, ordered, ends), omega (arith, ordered), (omega arith, refl));
    }

pair_is_legal : (C : ℕ → ℕ → Type 0) → IsLegal C sample_members 2 fenced_pair
pair_is_legal C = record { covers = refl; groups = groups }
  where
    groups : (number : ℕ) (group : Group) → slice_get fenced_pair number ≡ Some group → IsLegalGroup C sample_members (start_of fenced_pair number) group
    groups zero group there = subst (λ g. IsLegalGroup C sample_members 0 g) (same_Some (false ∷ true ∷ []) group there) (one_group C)
    groups (suc number) group there = absurd (none_read number group there)

-- the memory has what a checksum touches
abbrev HoldsAll : ChecksumFields → Type 0
HoldsAll f = (a : ℕ) → InSome (checksum_reads f) a ⊎ InSome (checksum_writes f) a → Holds digits_memory a

below : (a : ℕ) → a < 128 → Holds digits_memory a
below a lt = let count : length digits_memory.bytes ≡ 128 = refl in (omega arith, omega (arith, lt, count))

first_held : HoldsAll first_digits
first_held a (inl (inl there)) = below a (omega (arith, there.1))
first_held a (inl (inr none)) = absurd none
first_held a (inr (inl there)) = below a (omega (arith, there.1))
first_held a (inr (inr none)) = absurd none

last_held : HoldsAll last_digits
last_held a (inl (inl there)) = below a (omega (arith, there.1))
last_held a (inl (inr (inl there))) = below a (omega (arith, there.1))
last_held a (inl (inr (inr none))) = absurd none
last_held a (inr (inl there)) = below a (omega (arith, there.1))
last_held a (inr (inr none)) = absurd none

pub they_can_execute : TheyCanExecute
they_can_execute c d is_c is_d =
    record {
      legal = pair_is_legal (OperationConflictAt (pair c d));
      holds =
          All-cons (HoldsPiece operation_machine digits_memory) (operation.Checksum c) (operation.Checksum d ∷ []) (subst HoldsAll (sym is_c) first_held)
          (All-cons (HoldsPiece operation_machine digits_memory) (operation.Checksum d) [] (subst HoldsAll (sym is_d) last_held)
          (All-nil (HoldsPiece operation_machine digits_memory)));
    }

-- both succeed
they_succeed : (c d : Checksum) (m : Memory) → AllSucceed (statuses_of (pair c d) m)
they_succeed c d m zero lt = refl
they_succeed c d m (suc zero) lt = refl
they_succeed c d m (suc (suc i)) lt = absurd (omega (arith, lt))

-- the second record is there after the first checksum
record_held : HoldsSpan (checksum_done first_digits digits_memory) (record_span 0x40)
record_held a inside =
    Holds-same digits_memory (checksum_done first_digits digits_memory) a (done_addresses first_digits digits_memory) (below a (omega (arith, inside.1)))

pub every_run_leaves_the_value : EveryRunLeavesTheValue
every_run_leaves_the_value c d engines events s is_c is_d run =
    let whole =
    success_is_whole sample_members (pair c d) fenced_pair digits_memory engines events s (they_can_execute c d is_c is_d) run
    (they_succeed c d digits_memory) in
    ap (λ m. bytes_from m 0x50 8) whole.1
    ∙ ap₂ (λ f g. bytes_from (checksum_done g (checksum_done f digits_memory)) 0x50 8) is_c is_d
    ∙ value_is_left last_digits (checksum_done first_digits digits_memory) record_held
    ∙ ap (to_le_bytes w64) chain_value
