-- Operations as pieces of work.
use Rattle.std.proofs.Common.{◌≡◌, inl, inr, ℕ, ◌+◌, ◌-◌, [], ◌∷◌, refl, sym, ap, ap₂, ◌∙◌, subst, arith}
use Rattle.std.specs.Prelude.{IsSome}
use Rattle.dsa_checksum.specs.Checksum.{checksum}
use Rattle.dsa_descriptor.specs.Data.{record_span}
use Rattle.dsa_descriptor.specs.Spans.{InSome, InSpan}
use Rattle.dsa_core.specs.Machine.{HoldsPiece, PiecesConflict}
use Rattle.dsa_core.specs.Order as machine
use Rattle.dsa_core.proofs.Bytes.{same_addresses-sym, same_addresses-trans}
use Rattle.dsa_core.proofs.Within.{commute, done_within}
use Rattle.dsa_image.specs.Lines.{AgreeOn}
use Rattle.dsa_image.specs.Memory.{Memory, SameAddresses, byte_at, changed, written}
use Rattle.dsa_image.proofs.ImageBytes.{written-in}
use Rattle.dsa_image.proofs.Joins.{copied-in}
use Rattle.dsa_image.proofs.Local.{changed_alike}
use Rattle.dsa_image.proofs.MemoryLemmas.{SameAddresses-changed}
use Rattle.dsa_operations.specs.declared.checksum_op.ChecksumOp.{ChecksumOp}
use Rattle.dsa_operations.specs.declared.checksum_op.ChecksumOp.TheVariants.{Crc, CopyCrc}
use Rattle.dsa_operations.specs.declared.operation.Operation.{Operation}
use Rattle.dsa_operations.specs.declared.operation.Operation.TheVariants.{Checksum, Descriptor}
use Rattle.dsa_operations.specs.Checksums.{checksum_fields, variant_of}
use Rattle.dsa_operations.specs.Data.{checksum_reads, checksum_writes, targets}
use Rattle.dsa_operations.specs.Fields.{ChecksumFields}
use Rattle.dsa_operations.specs.Operands.{source_field}
use Rattle.dsa_operations.specs.Operations.{reads_of, writes_of}
use Rattle.dsa_resume.proofs.Descriptors.{changed_over, is_work}
use Rattle.dsa_resume.proofs.Working.{IsWork}
use Rattle.dsa_core.specs.Checksums.{checksum_done, checksum_value, copied_data, value_record}
use Rattle.dsa_core.specs.Operations.{operation_done, operation_machine}
use Rattle.dsa_execution.specs.Resuming.{OperationsInOrder, operation_overwrites, operation_work}
use Rattle.dsa_execution.proofs.Left.{done_addresses}
use Rattle.dsa_core.proofs.Local.{begun_same, copied_data_same}
use Rattle.dsa_core.proofs.OperationSteps.{done_memory, operation_local}
use Rattle.dsa_core.proofs.Sources.{bytes_from_same}

-- ---- where a checksum writes

in_record : (at value a : ℕ) → InSpan (record_span at) a → IsSome (written at (value_record value) a)
in_record at value a (low, high) =
    let place : at + (a - at) ≡ a = omega (arith, low) in
    let some : IsSome (written at (value_record value) (at + (a - at))) = rw (written-in at (value_record value) (a - at) (omega (arith, low, high))) refl in
    subst (λ (x : ℕ). IsSome (written at (value_record value) x)) place some

in_copy : (op : ChecksumOp) (size : ℕ) (m : Memory) (a : ℕ) → InSome (targets op size) a → IsSome (copied_data op 0 size m a)
in_copy (Crc src seed) size m a there = absurd there
in_copy (CopyCrc src dst seed) size m a (inl (low, high)) = rw (copied-in m src dst 0 size a (omega (arith, low)) (omega (arith, high))) refl
in_copy (CopyCrc src dst seed) size m a (inr none) = absurd none

-- ---- a checksum in memories that agree on what it reads

module _ (f : ChecksumFields) (m n : Memory) (s : SameAddresses m n) (agree : AgreeOn (checksum_reads f) m n) where
  value_same : checksum_value f n ≡ checksum_value f m
  value_same =
      sym (ap₂ (checksum (variant_of f)) (begun_same f.op f.size m n agree) (bytes_from_same m n (source_field f.op) f.size (λ a low high. agree a (inl (low, high)))))

  copied_alike : SameAddresses (changed m (copied_data f.op 0 f.size m)) (changed n (copied_data f.op 0 f.size n))
  copied_alike =
      same_addresses-trans _ m _ (SameAddresses-changed m (copied_data f.op 0 f.size m))
      (same_addresses-trans m n _ s (same_addresses-sym _ n (SameAddresses-changed n (copied_data f.op 0 f.size n))))

  data_same : (a : ℕ) → copied_data f.op 0 f.size n a ≡ copied_data f.op 0 f.size m a
  data_same a = sym (copied_data_same f.op f.size 0 f.size m n (omega arith) agree a)

  record_same : (a : ℕ) → written f.record_at (value_record (checksum_value f n)) a ≡ written f.record_at (value_record (checksum_value f m)) a
  record_same a = ap (λ (v : ℕ). written f.record_at (value_record v) a) value_same

  -- over the same byte
  over_copied : (a : ℕ) → byte_at (changed m (copied_data f.op 0 f.size m)) a ≡ byte_at (changed n (copied_data f.op 0 f.size n)) a
      → byte_at (checksum_done f m) a ≡ byte_at (checksum_done f n) a
  over_copied a same =
      changed_alike (changed m (copied_data f.op 0 f.size m)) (changed n (copied_data f.op 0 f.size n)) (written f.record_at (value_record (checksum_value f m)))
      (written f.record_at (value_record (checksum_value f n))) a copied_alike (record_same a) same

  checksum_keeps : (a : ℕ) → byte_at m a ≡ byte_at n a → byte_at (checksum_done f m) a ≡ byte_at (checksum_done f n) a
  checksum_keeps a same = over_copied a (changed_alike m n (copied_data f.op 0 f.size m) (copied_data f.op 0 f.size n) a s (data_same a) same)

  checksum_over : (a : ℕ) → InSome (checksum_writes f) a → byte_at (checksum_done f m) a ≡ byte_at (checksum_done f n) a
  checksum_over a (inl inside) =
      changed_over (changed m (copied_data f.op 0 f.size m)) (changed n (copied_data f.op 0 f.size n)) (written f.record_at (value_record (checksum_value f m)))
      (written f.record_at (value_record (checksum_value f n))) a copied_alike (record_same a) (in_record f.record_at (checksum_value f m) a inside)
  checksum_over a (inr there) =
      over_copied a (changed_over m n (copied_data f.op 0 f.size m) (copied_data f.op 0 f.size n) a s (data_same a) (in_copy f.op f.size m a there))

-- ---- operations

alike : (o : Operation) (m n : Memory) → SameAddresses m n → SameAddresses (operation_done o m) (operation_done o n)
alike (Descriptor d) m n s = is_work.alike d m n s
alike (Checksum c) m n s =
    let f : ChecksumFields = checksum_fields c in
    same_addresses-trans _ m _ (done_addresses f m) (same_addresses-trans m n _ s (same_addresses-sym _ n (done_addresses f n)))

keeps : (o : Operation) (m n : Memory) (a : ℕ) → SameAddresses m n → AgreeOn (reads_of o) m n → byte_at m a ≡ byte_at n a → byte_at (operation_done o m) a ≡ byte_at (operation_done o n) a
keeps (Descriptor d) m n a s agree same = is_work.keeps d m n a s agree same
keeps (Checksum c) m n a s agree same = checksum_keeps (checksum_fields c) m n s agree a same

over : (o : Operation) (m n : Memory) (a : ℕ) → SameAddresses m n → AgreeOn (reads_of o) m n → operation_overwrites o m a → byte_at (operation_done o m) a ≡ byte_at (operation_done o n) a
over (Descriptor d) m n a s agree written = is_work.over d m n a s agree written
over (Checksum c) m n a s agree written = checksum_over (checksum_fields c) m n s agree a written

over_same : (o : Operation) (m n : Memory) (a : ℕ) → AgreeOn (reads_of o) m n → operation_overwrites o m a → operation_overwrites o n a
over_same (Descriptor d) m n a agree written = is_work.over_same d m n a agree written
over_same (Checksum c) m n a agree written = written

over_writes : (o : Operation) (m : Memory) (a : ℕ) → operation_overwrites o m a → InSome (writes_of o) a
over_writes (Descriptor d) m a written = is_work.over_writes d m a written
over_writes (Checksum c) m a written = written

same_after : (o : Operation) (m : Memory) → HoldsPiece operation_machine m o → SameAddresses m (operation_done o m)
same_after o m held =
    subst (λ (n : Memory). SameAddresses m n) (done_memory o m) ((done_within operation_machine o (operation_local o)).keeps_addresses m held)

kept : (o : Operation) (m : Memory) (a : ℕ) → HoldsPiece operation_machine m o → (InSome (writes_of o) a → ⊥) → byte_at (operation_done o m) a ≡ byte_at m a
kept o m a held out =
    subst (λ (n : Memory). byte_at n a ≡ byte_at m a) (done_memory o m) ((done_within operation_machine o (operation_local o)).keeps_others m held a out)

-- two that don't conflict leave the same in either order
swapped : (o p : Operation) (m : Memory) → HoldsPiece operation_machine m o → HoldsPiece operation_machine m p → (PiecesConflict operation_machine o p → ⊥)
    → operation_done o (operation_done p m) ≡ operation_done p (operation_done o m)
swapped o p m held_o held_p clear =
    let both : (machine.done operation_machine o (machine.done operation_machine p m).memory).memory ≡ (machine.done operation_machine p (machine.done operation_machine o m).memory).memory =
    commute operation_machine o p (λ (n : Memory). machine.done operation_machine o n) (λ (n : Memory). machine.done operation_machine p n) m
    (done_within operation_machine o (operation_local o)) (done_within operation_machine p (operation_local p)) held_o held_p clear in
    ap (λ (n : Memory). operation_done o n) (sym (done_memory p m)) ∙ sym (done_memory o (machine.done operation_machine p m).memory) ∙ both
    ∙ done_memory p (machine.done operation_machine o m).memory ∙ ap (λ (n : Memory). operation_done p n) (done_memory o m)

pub operations_work : IsWork operation_work
operations_work = record {
  conflict = λ os i j. (λ h. h, λ h. h);
  alike = alike;
  keeps = keeps;
  over = over;
  over_same = over_same;
  over_writes = over_writes;
  same_after = same_after;
  kept = kept;
  swapped = swapped;
}

pub operations_in_order : OperationsInOrder
operations_in_order [] m = refl
operations_in_order (o ∷ os) m = operations_in_order os (operation_done o m)
