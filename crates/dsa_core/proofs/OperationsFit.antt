-- The parts of the work of operations fit each other.
use Rattle.std.proofs.Common.{◌≡◌, ℕ, ◌<◌, IsTrue, nat_eq, refl, sym, ap, ◌∙◌, subst}
use Rattle.std.proofs.lemmas.Bool.{eqb-true, eq-eqb}
use Rattle.dsa_descriptor.specs.declared.descriptor.Descriptor.{Descriptor}
use Rattle.dsa_descriptor.specs.Descriptors.{fields}
use Rattle.dsa_descriptor.proofs.Same.{same_descriptor}
use Rattle.dsa_core.specs.Machine.{HoldsPiece}
use Rattle.dsa_image.specs.Memory.{Holds, Memory}
use Rattle.dsa_image.specs.declared.inputs.Inputs.{Inputs}
use Rattle.dsa_image.proofs.Parcels.{work_answer, work_held, work_memory}
use Rattle.dsa_operations.specs.declared.checksum.Checksum.{Checksum}
use Rattle.dsa_operations.specs.declared.operation.Operation.{Operation}
use Rattle.dsa_operations.specs.declared.operation.Operation.TheVariants.{Checksum as OfChecksum, Descriptor as OfDescriptor}
use Rattle.dsa_core.specs.declared.inputs.OperationInputs.{OperationInputs}
use Rattle.dsa_core.specs.declared.inputs.OperationInputs.TheVariants as input
use Rattle.dsa_core.specs.declared.outputs.OperationOutputs.{OperationOutputs}
use Rattle.dsa_core.specs.declared.outputs.OperationOutputs.TheVariants as output
use Rattle.dsa_operations.specs.Checksums.{checksum_fields}
use Rattle.dsa_core.specs.Checksums.{checksum_line}
use Rattle.dsa_core.specs.OperationWork.{OperationGives, OperationReads, OperationWrites, operation_record, operation_stored, operation_work, partial_of, piece_of, place_of}
use Rattle.dsa_core.specs.declared.partial.OperationPartial.{OperationPartial}
use Rattle.dsa_core.specs.Operations.{operation_machine}
use Rattle.dsa_core.specs.Work.{IsWork}
use Rattle.dsa_core.proofs.ChecksumHeld.{line_memory, line_value, writes_held}
use Rattle.dsa_core.proofs.OperationSteps.{memory_is_executed, operation_local}

status_is : (o : Operation) (m : Memory) (p : OperationPartial) → (operation_machine.finish o m p).answer ≡ (operation_record o p).status
status_is (OfDescriptor d) m p = refl
status_is (OfChecksum c) m p = refl

has_place : (i : OperationInputs) → place_of i < operation_machine.lines (piece_of i)
has_place (input.Descriptor inputs value) = inputs.place
has_place (input.Checksum inputs found) = inputs.place

stored_is :
    (m : Memory) (i : OperationInputs) (o : OperationOutputs) → OperationGives i o → OperationReads m i →
    operation_stored o m ≡ operation_machine.line (piece_of i) (place_of i) m (partial_of i)
stored_is m (input.Descriptor inputs value) (output.Descriptor outputs kept) (gives, same) reads =
    λ k. record { memory = work_memory m inputs outputs gives reads k; answer = record { found = work_answer m inputs outputs gives reads k; value = same k } }
stored_is m (input.Descriptor inputs value) (output.Checksum outputs kept) gives reads = absurd gives
stored_is m (input.Checksum inputs found) (output.Descriptor outputs kept) gives reads = absurd gives
stored_is m (input.Checksum inputs found) (output.Checksum outputs kept) (gives, same) reads =
    λ k. record { memory = line_memory m inputs outputs gives reads k; answer = record { found = same k; value = line_value m inputs outputs gives reads k } }

targets_held :
    (m : Memory) (i : OperationInputs) (o : OperationOutputs) → OperationGives i o → OperationReads m i → HoldsPiece operation_machine m (piece_of i) →
    (a : ℕ) → OperationWrites o a → Holds m a
targets_held m (input.Descriptor inputs value) (output.Descriptor outputs kept) (gives, same) reads held = work_held m inputs outputs gives reads held
targets_held m (input.Descriptor inputs value) (output.Checksum outputs kept) gives reads held = absurd gives
targets_held m (input.Checksum inputs found) (output.Descriptor outputs kept) gives reads held = absurd gives
targets_held m (input.Checksum inputs found) (output.Checksum outputs kept) (gives, same) reads held = writes_held m inputs outputs gives reads held

pub operations_fit : IsWork operation_work
operations_fit =
    record {
      are_listed = λ o. tt;
      local = operation_local;
      memory_is = λ os m all. memory_is_executed os m;
      statuses_are = λ os m all. refl;
      status_is = status_is;
      has_place = has_place;
      stored_is = stored_is;
      targets_held = targets_held;
    }

-- a line of a matched checksum is that of the operation
pub line_as :
    (m : Memory) (o : Operation) (c x : Checksum) (t u v : ℕ) (p : OperationPartial) → o ≡ OfChecksum c → x ≡ c → u ≡ t → v ≡ p.value →
    (checksum_line (checksum_fields x) u m v).memory ≡ (operation_machine.line o t m p).memory
line_as m o c x t u v p o_is x_is u_is v_is =
    ap (λ y. (checksum_line (checksum_fields y) u m v).memory) x_is
    ∙ ap (λ n. (checksum_line (checksum_fields c) n m v).memory) u_is
    ∙ ap (λ n. (checksum_line (checksum_fields c) t m n).memory) v_is
    ∙ ap (λ z. (operation_machine.line z t m p).memory) (sym o_is)

-- the inputs are those of this line of the operation, after this partial answer
abbrev IsOfLine : OperationInputs → Operation → ℕ → OperationPartial → Type 0
IsOfLine i o t p = (piece_of i ≡ o) × (place_of i ≡ t) × (partial_of i ≡ p)

-- which those of a descriptor are where the value that is carried along is the same
pub of_descriptor_line :
    (i : OperationInputs) (o : Operation) (d : Descriptor) (own : Inputs) (value t : ℕ) (p : OperationPartial) → i ≡ input.Descriptor own value → o ≡ OfDescriptor d →
    fields own.descriptor ≡ fields d → own.line ≡ t → own.partial ≡ p.found →
    (IsTrue (nat_eq value p.value) → IsOfLine i o t p) × (IsOfLine i o t p → IsTrue (nat_eq value p.value))
of_descriptor_line i o d own value t p i_is o_is d_is t_is p_is =
    subst (λ j. (IsTrue (nat_eq value p.value) → IsOfLine j o t p) × (IsOfLine j o t p → IsTrue (nat_eq value p.value))) (sym i_is)
    (subst (λ x. (IsTrue (nat_eq value p.value) → IsOfLine (input.Descriptor own value) x t p) × (IsOfLine (input.Descriptor own value) x t p → IsTrue (nat_eq value p.value))) (sym o_is) (
      λ same. (ap OfDescriptor (same_descriptor own.descriptor d d_is), t_is, λ k. record { found = p_is k; value = eqb-true value p.value same k }),
      λ all. eq-eqb value p.value (ap (λ y. y.value) all.2),
    ))

-- what holds of a matched operation
pub held_as : (m : Memory) (o as_matched : Operation) → o ≡ as_matched → HoldsPiece operation_machine m o → HoldsPiece operation_machine m as_matched
held_as m o as_matched is held = subst (HoldsPiece operation_machine m) is held
