-- What the reader's answers say of all that it might have answered, and that operations are entries of a list.
use Rattle.std.proofs.Common.{◌≡◌, ◌≢◌, ℕ, ◌*◌, ◌/◌, ◌%◌, ◌^◌, ◌<◌, List, Some, None, false, eqb, get_or, length, refl, arith}
use Rattle.std.specs.Prelude.{Option}
use Rattle.std.proofs.lemmas.Bool.{ne_eqb}
use Rattle.dsa_descriptor.specs.declared.fault.FieldFault.{FieldFault}
use Rattle.dsa_descriptor.specs.declared.fault.FieldFault.TheVariants.{FlagBits, Reserved}
use Rattle.dsa_descriptor.specs.Descriptors.{fields}
use Rattle.dsa_descriptor.specs.Faults.{IsFirstFault}
use Rattle.dsa_descriptor.specs.Lists.{AreEntries}
use Rattle.dsa_descriptor.specs.Places.{flags_at, reserved_bits_at, u32_at}
use Rattle.dsa_descriptor.specs.Spelling.{spelling}
use Rattle.dsa_descriptor.proofs.Listed.{length-spelling, lowest_of}
use Rattle.dsa_descriptor.proofs.Listed as descriptors
use Rattle.dsa_descriptor.proofs.Rules.{spelling_keeps}
use Rattle.dsa_operations.specs.declared.checksum_op.ChecksumOp.{ChecksumOp}
use Rattle.dsa_operations.specs.declared.operation.Operation.{Operation}
use Rattle.dsa_operations.specs.declared.operation.Operation.TheVariants as operation
use Rattle.dsa_operations.specs.Checksums.{checksum_fields}
use Rattle.dsa_operations.specs.Faults.{IsFirstBroken, IsFirstOperationFault, IsReservedZero, OperationKeeps}
use Rattle.dsa_operations.specs.Operations.{spelling_of}
use Rattle.dsa_operations.specs.Places.{checksum_at}
use Rattle.dsa_operations.specs.Profile.{AreListedFlags}
use Rattle.dsa_operations.specs.Spelling.{checksum_spelling}
use Rattle.dsa_operations.proofs.Kept.{rules}
use Rattle.dsa_operations.proofs.Same.{descriptor_fits, low_word, one_spelling}
use Rattle.dsa_operations.proofs.Spelt.{checksum_code, listed_fits, no_fence, op_there, stands}

-- ---- what is a first fault

-- of bytes that name no checksum, the first fault of a descriptor
pub fault_of_descriptor : (bytes : List ℕ) (f : FieldFault) → checksum_at bytes ≡ None → IsFirstFault bytes f → IsFirstOperationFault bytes f
unfolding OperationKeeps
fault_of_descriptor bytes f none first = record {
  stands = λ h. first.stands (rw none at h);
  first = λ other lt. rw none (first.first other lt);
}

-- of bytes that name a checksum, the first rule that is broken
pub fault_of_checksum : (bytes : List ℕ) (op : ChecksumOp) (f : FieldFault) → checksum_at bytes ≡ Some op → IsFirstBroken bytes op f → IsFirstOperationFault bytes f
unfolding OperationKeeps
fault_of_checksum bytes op f named first = record {
  stands = λ h. first.stands (rw named at h);
  first = λ other lt. rw named (first.first other lt);
}

-- ---- a spelling has no fault

none_named : (bytes : List ℕ) → u32_at 4 bytes < 16 * 2 ^ 24 → checksum_at bytes ≡ None
unfolding checksum_at
none_named bytes low =
    let no_crc : eqb (u32_at 4 bytes / 2 ^ 24) 0x10 ≡ false = ne_eqb _ _ (λ e. omega (arith, low, e)) in
    let no_copy : eqb (u32_at 4 bytes / 2 ^ 24) 0x11 ≡ false = ne_eqb _ _ (λ e. omega (arith, low, e)) in
    rw (no_crc, no_copy) refl

pub spelling_is_kept : (o : Operation) (f : FieldFault) → OperationKeeps (spelling_of o) f
unfolding OperationKeeps
spelling_is_kept (operation.Descriptor d) f =
    rw (none_named (spelling (fields d)) (low_word (fields d) (descriptor_fits (fields d) d.listed))) (spelling_keeps (fields d) d.listed f)
spelling_is_kept (operation.Checksum c) f =
    let fits = listed_fits (checksum_fields c) c.listed in
    let s = stands (checksum_fields c) fits in
    rw (op_there (checksum_fields c) (checksum_spelling (checksum_fields c)) fits s)
    (rules (checksum_fields c) c.listed (checksum_spelling (checksum_fields c)) s f)

-- ---- operations are entries

length-spelling_of : (o : Operation) → length (spelling_of o) ≡ 64
length-spelling_of (operation.Descriptor d) = length-spelling d
length-spelling_of (operation.Checksum c) = (stands (checksum_fields c) (listed_fits (checksum_fields c) c.listed)).long

-- bytes that keep each rule have no fence
no_fence_kept : (bytes : List ℕ) (found : Option ChecksumOp) → checksum_at bytes ≡ found → ((fault : FieldFault) → OperationKeeps bytes fault) → get_or bytes 4 0 % 2 ≡ 0
unfolding OperationKeeps
no_fence_kept bytes None is kept = descriptors.are_entries.plain bytes (λ fault. rw is at (kept fault))
no_fence_kept bytes (Some op) is kept =
    let rule : AreListedFlags (flags_at bytes) = rw is at (kept FlagBits) in
    omega (arith, lowest_of bytes, no_fence (flags_at bytes) rule)

-- nor a reserved bit
unreserved_kept : (bytes : List ℕ) (found : Option ChecksumOp) → checksum_at bytes ≡ found → ((fault : FieldFault) → OperationKeeps bytes fault) → reserved_bits_at bytes ≡ 0
unfolding OperationKeeps
unreserved_kept bytes None is kept = descriptors.are_entries.unreserved bytes (λ fault. rw is at (kept fault))
unreserved_kept bytes (Some op) is kept =
    let rule : IsReservedZero bytes op = rw is at (kept Reserved) in
    rule.0

-- no operation is a batch
single_of : (o : Operation) → get_or (spelling_of o) 7 0 ≢ 1
single_of (operation.Descriptor d) = descriptors.are_entries.single d
single_of (operation.Checksum c) = checksum_code (checksum_fields c) c.listed

pub are_operations : AreEntries spelling_of OperationKeeps
are_operations = record {
  whole = length-spelling_of;
  kept = spelling_is_kept;
  one = one_spelling;
  single = single_of;
  plain = λ bytes kept. no_fence_kept bytes (checksum_at bytes) refl kept;
  unreserved = λ bytes kept. unreserved_kept bytes (checksum_at bytes) refl kept;
}
