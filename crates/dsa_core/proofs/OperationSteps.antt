-- Operations: their steps stay within them, and done alone they leave the operation done.
use Rattle.std.proofs.Common.{◌≡◌, ℕ, zero, suc, List, [], ◌∷◌, refl, ap, ◌∙◌}
use Rattle.dsa_core.specs.DescriptorMachine.{descriptor_machine}
use Rattle.dsa_core.specs.Machine.{IsLocal, IsWithin}
use Rattle.dsa_core.specs.Order.{alone, done, memory_in_order}
use Rattle.dsa_core.proofs.DescriptorSteps as descriptors
use Rattle.dsa_descriptor.specs.Descriptors.{fields}
use Rattle.dsa_image.specs.declared.partial.Partial.{Partial}
use Rattle.dsa_image.specs.Memory.{After, Memory}
use Rattle.dsa_operations.specs.declared.operation.Operation.{Operation}
use Rattle.dsa_operations.specs.declared.operation.Operation.TheVariants.{Checksum as OfChecksum, Descriptor as OfDescriptor}
use Rattle.dsa_descriptor.specs.declared.descriptor.Descriptor.{Descriptor}
use Rattle.dsa_operations.specs.declared.checksum.Checksum.{Checksum}
use Rattle.dsa_operations.specs.Checksums.{checksum_fields}
use Rattle.dsa_core.specs.Checksums.{checksum_machine}
use Rattle.dsa_core.specs.declared.partial.OperationPartial.{OperationPartial}
use Rattle.dsa_core.specs.Operations.{after_checksum, after_descriptor, executed, operation_done, operation_machine, operation_status}
use Rattle.dsa_core.proofs.Lines as checksums
use Rattle.dsa_core.proofs.Local.{checksum_local}

-- ---- locality

-- a step within a descriptor is one within the operation
of_descriptor : (d : Descriptor) (p : OperationPartial) (step : Memory → After Partial) → IsWithin descriptor_machine (fields d) step →
    IsWithin operation_machine (OfDescriptor d) (λ m. after_descriptor p (step m))
of_descriptor d p step within =
    record {
      keeps_addresses = within.keeps_addresses;
      keeps_others = within.keeps_others;
      keeps_agreement = within.keeps_agreement;
      same_answer = λ m n held held' agree. ap (λ found. record p { found = found }) (within.same_answer m n held held' agree);
    }

of_checksum : (c : Checksum) (p : OperationPartial) (step : Memory → After ℕ) → IsWithin checksum_machine (checksum_fields c) step →
    IsWithin operation_machine (OfChecksum c) (λ m. after_checksum p (step m))
of_checksum c p step within =
    record {
      keeps_addresses = within.keeps_addresses;
      keeps_others = within.keeps_others;
      keeps_agreement = within.keeps_agreement;
      same_answer = λ m n held held' agree. ap (λ value. record p { value = value }) (within.same_answer m n held held' agree);
    }

-- and so is a finish
finish_of_descriptor :
    (d : Descriptor) (step : Memory → After ℕ) → IsWithin descriptor_machine (fields d) step → IsWithin operation_machine (OfDescriptor d) step
finish_of_descriptor d step within =
    record {
      keeps_addresses = within.keeps_addresses;
      keeps_others = within.keeps_others;
      keeps_agreement = within.keeps_agreement;
      same_answer = within.same_answer;
    }

finish_of_checksum :
    (c : Checksum) (step : Memory → After ℕ) → IsWithin checksum_machine (checksum_fields c) step → IsWithin operation_machine (OfChecksum c) step
finish_of_checksum c step within =
    record {
      keeps_addresses = within.keeps_addresses;
      keeps_others = within.keeps_others;
      keeps_agreement = within.keeps_agreement;
      same_answer = within.same_answer;
    }

-- each line of an operation, and its finish, stays within it
pub operation_local : (o : Operation) → IsLocal operation_machine o
operation_local (OfDescriptor d) =
    let local = descriptors.descriptor_local (fields d) in
    record {
      each_line = λ t p lt. of_descriptor d p (λ m. descriptor_machine.line (fields d) t m p.found) (local.each_line t p.found lt);
      the_finish = λ p. finish_of_descriptor d (λ m. descriptor_machine.finish (fields d) m p.found) (local.the_finish p.found);
    }
operation_local (OfChecksum c) =
    let local = checksum_local (checksum_fields c) in
    record {
      each_line = λ t p lt. of_checksum c p (λ m. checksum_machine.line (checksum_fields c) t m p.value) (local.each_line t p.value lt);
      the_finish = λ p. finish_of_checksum c (λ m. checksum_machine.finish (checksum_fields c) m p.value) (local.the_finish p.value);
    }

-- ---- an operation alone

-- its lines are those of its kind
descriptor_alone : (d : Descriptor) (t : ℕ) (m : Memory) →
    alone operation_machine (OfDescriptor d) t m ≡ after_descriptor operation_machine.start (alone descriptor_machine (fields d) t m)
descriptor_alone d zero m = refl
descriptor_alone d (suc t) m = ap (λ s. operation_machine.line (OfDescriptor d) t s.memory s.answer) (descriptor_alone d t m)

checksum_alone : (c : Checksum) (t : ℕ) (m : Memory) →
    alone operation_machine (OfChecksum c) t m ≡ after_checksum operation_machine.start (alone checksum_machine (checksum_fields c) t m)
checksum_alone c zero m = refl
checksum_alone c (suc t) m = ap (λ s. operation_machine.line (OfChecksum c) t s.memory s.answer) (checksum_alone c t m)

-- so a whole operation is done as its kind is
pub descriptor_done : (d : Descriptor) (m : Memory) → done operation_machine (OfDescriptor d) m ≡ done descriptor_machine (fields d) m
descriptor_done d m = ap (λ s. operation_machine.finish (OfDescriptor d) s.memory s.answer) (descriptor_alone d (descriptor_machine.lines (fields d)) m)

pub checksum_done_alone : (c : Checksum) (m : Memory) → done operation_machine (OfChecksum c) m ≡ done checksum_machine (checksum_fields c) m
checksum_done_alone c m = ap (λ s. operation_machine.finish (OfChecksum c) s.memory s.answer) (checksum_alone c (checksum_machine.lines (checksum_fields c)) m)

-- what the machine leaves of an operation is the operation done
pub done_memory : (o : Operation) (m : Memory) → (done operation_machine o m).memory ≡ operation_done o m
done_memory (OfDescriptor d) m = ap (λ s. s.memory) (descriptor_done d m) ∙ descriptors.done_memory (fields d) m d.listed.regions_apart
done_memory (OfChecksum c) m =
    ap (λ s. s.memory) (checksum_done_alone c m)
    ∙ checksums.lines_make_done (checksum_fields c) m c.listed.size_positive c.listed.regions_apart

pub done_status : (o : Operation) (m : Memory) → (done operation_machine o m).answer ≡ operation_status o m
done_status (OfDescriptor d) m = ap (λ s. s.answer) (descriptor_done d m) ∙ descriptors.done_status (fields d) m d.listed.regions_apart
done_status (OfChecksum c) m = ap (λ s. s.answer) (checksum_done_alone c m)

-- and so in order
pub memory_is_executed : (os : List Operation) (m : Memory) → memory_in_order operation_machine os m ≡ executed os m
memory_is_executed [] m = refl
memory_is_executed (o ∷ os) m = ap (memory_in_order operation_machine os) (done_memory o m) ∙ memory_is_executed os (operation_done o m)
