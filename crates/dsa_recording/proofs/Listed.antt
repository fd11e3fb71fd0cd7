-- The entries of listed operations.
use Rattle.std.proofs.Common.{◌≡◌, ℕ, ◌+◌, ◌*◌, ◌^◌, ◌<◌, ◌≤◌, List, [], ◌∷◌, ◌++◌, Some, None, replicate, refl, sym, ap, subst, ◌∙◌, arith}
use Rattle.std.specs.Prelude.{Option, bit_and, if◌then◌else◌, ◌==◌}
use Rattle.std.specs.List.{AllByRecursion}
use Rattle.std.proofs.lemmas.Nat.{and_assoc}
use Rattle.dsa_descriptor.specs.declared.op.Op.{Op}
use Rattle.dsa_descriptor.specs.declared.op.Op.TheVariants.{Move, Fill, Compare, ComparePattern, ApplyDelta, Dualcast}
use Rattle.dsa_descriptor.specs.declared.span.Span.{Span}
use Rattle.dsa_descriptor.specs.Data.{record_span}
use Rattle.dsa_descriptor.specs.Descriptors.{fields}
use Rattle.dsa_descriptor.specs.Fields.{Fields}
use Rattle.dsa_descriptor.specs.Lists.{AgreeOnOwner}
use Rattle.dsa_descriptor.specs.Operands.{code_of}
use Rattle.dsa_descriptor.specs.Places.{u32_at, u64_at, flags_at, code_at, op_at}
use Rattle.dsa_descriptor.specs.Profile.{required_flags, IsListed}
use Rattle.dsa_descriptor.specs.Spans.{IsAddressable}
use Rattle.dsa_descriptor.specs.Spelling.{spelling}
use Rattle.dsa_descriptor.proofs.Rules.{spelling_stands, op_spelt}
use Rattle.dsa_ranges.specs.declared.span.Touched.{Touched}
use Rattle.dsa_audit.specs.declared.member.Unseen.{Unseen}
use Rattle.dsa_audit.specs.declared.member.Unseen.TheVariants.{Blank, Operation, Nested, Owner, Empty, Wrap}
use Rattle.dsa_audit.specs.declared.member.Member.{Member}
use Rattle.dsa_audit.specs.declared.member.Member.TheVariants.{Known, Unknown}
use Rattle.dsa_operations.specs.declared.checksum_op.ChecksumOp.{ChecksumOp}
use Rattle.dsa_operations.specs.declared.checksum_op.ChecksumOp.TheVariants.{Crc, CopyCrc}
use Rattle.dsa_operations.specs.declared.listed_op.ListedOp.{ListedOp}
use Rattle.dsa_operations.specs.declared.listed_op.ListedOp.TheVariants as listed
use Rattle.dsa_operations.specs.declared.operation.Operation.{Operation as AnyOperation}
use Rattle.dsa_operations.specs.declared.operation.Operation.TheVariants.{Descriptor, Checksum}
use Rattle.dsa_operations.specs.Checksums.{checksum_fields}
use Rattle.dsa_operations.specs.Fields.{ChecksumFields}
use Rattle.dsa_operations.specs.Listed.{either_op, listed_op, listed_sources, listed_targets}
use Rattle.dsa_operations.specs.Operands as checksums
use Rattle.dsa_operations.specs.Operations.{spelling_of, reads_of, writes_of}
use Rattle.dsa_operations.specs.Places.{checksum_at}
use Rattle.dsa_operations.specs.Profile.{IsListedChecksum}
use Rattle.dsa_operations.specs.Spelling.{checksum_spelling}
use Rattle.dsa_operations.proofs.Spelt.{Fits, Stands, code-le, flags_there, listed_fits, op_there, stands}
use Rattle.dsa_recording.specs.declared.further.Further.{Further}
use Rattle.dsa_recording.specs.declared.member.Aspect.TheVariants.{Whole}
use Rattle.dsa_recording.specs.Entries.{entry_reads, entry_writes, records_of, Applies, IsMember}
use Rattle.dsa_recording.specs.Furthers.{checksum_or, further_at, other_at}
use Rattle.dsa_recording.proofs.EntryOps.{entry_reads_by, entry_targets_by}

-- one span more
with_one : (xs ys : List Span) (r : Span) → IsAddressable r → AllByRecursion IsAddressable (xs ++ ys) → AllByRecursion IsAddressable (xs ++ r ∷ ys)
with_one [] ys r here all = (here, all)
with_one (x ∷ xs) ys r here (first, all) = (first, with_one xs ys r here all)

valid_by : (f : ℕ) → bit_and f required_flags ≡ required_flags → bit_and f 4 ≡ 4
valid_by f required = sym (and_assoc 4 f required_flags) ∙ ap (λ (n : ℕ). bit_and n 4) required

records_by : (f r r' : ℕ) → r ≡ r' → bit_and f required_flags ≡ required_flags → (if bit_and f 0x04 == 0x04 then record_span r ∷ [] else []) ≡ record_span r' ∷ []
records_by f r r' same required =
    let valid : bit_and f 4 ≡ 4 = valid_by f required in
    rw (same, valid) refl

blank_code : code_at (replicate 64 0) ≡ 0
unfolding u32_at
blank_code = refl

-- ---- an entry that says what a list may have

record Says (e : List ℕ) (op : ListedOp) (size record_at : ℕ) : Type 0 where
  op_said : listed_op e ≡ Some op
  code_said : 1 < code_at e
  required : bit_and (flags_at e) required_flags ≡ required_flags
  size_said : u32_at 32 e ≡ size
  record_said : u64_at 8 e ≡ record_at
  size_positive : 0 < size
  record_addressable : IsAddressable (record_span record_at)
  data_addressable : AllByRecursion IsAddressable (listed_sources op size ++ listed_targets op size)

reads : (e : List ℕ) (op : ListedOp) (size record_at : ℕ) → Says e op size record_at → entry_reads e ≡ listed_sources op size
reads e op size record_at says = entry_reads_by e op says.op_said ∙ ap (listed_sources op) says.size_said

writes : (e : List ℕ) (op : ListedOp) (size record_at : ℕ) → Says e op size record_at → entry_writes e ≡ record_span record_at ∷ listed_targets op size
writes e op size record_at says =
    let records : records_of e ≡ record_span record_at ∷ [] = records_by (flags_at e) (u64_at 8 e) record_at says.record_said says.required in
    λ i. records i ++ (entry_targets_by e op says.op_said ∙ ap (listed_targets op) says.size_said) i

not_further : (o : Option Op) (c : Option ChecksumOp) (size : ℕ) (other : Option Further) (op : ListedOp) → either_op o c ≡ Some op → o ≡ None → checksum_or c size other ≡ None → ⊥
not_further (Some o) c size other op is none further = absurd cc
not_further None (Some c) size other op is none further = absurd cc
not_further None None size other op is none further = absurd cc

not_unknown : (e : List ℕ) (op : ListedOp) → listed_op e ≡ Some op → op_at e ≡ None → further_at e ≡ None → ⊥
unfolding further_at
not_unknown e op is none further = not_further (op_at e) (checksum_at e) (u32_at 32 e) (other_at e) op is none further

none : (e : List ℕ) (op : ListedOp) (size record_at : ℕ) (head : List ℕ) → Says e op size record_at → AgreeOnOwner head e → (why : Unseen) → Applies head e why → ⊥
none e op size record_at head says agree Blank applies =
    let code : code_at e ≡ 0 = ap code_at applies ∙ blank_code in
    let above : 1 < code_at e = says.code_said in
    absurd (omega (arith, code, above))
none e op size record_at head says agree Operation applies = not_unknown e op says.op_said applies.0 applies.1
none e op size record_at head says agree Nested applies =
    let above : 1 < code_at e = says.code_said in
    absurd (omega (arith, applies, above))
none e op size record_at head says agree Owner applies = applies agree
none e op size record_at head says agree Empty applies =
    let there : u32_at 32 e ≡ size = says.size_said in
    let positive : 0 < size = says.size_positive in
    absurd (omega (arith, there, positive, applies.2))
none e op size record_at head says agree Wrap applies =
    let all : entry_reads e ++ entry_writes e ≡ listed_sources op size ++ record_span record_at ∷ listed_targets op size =
    λ i. reads e op size record_at says i ++ writes e op size record_at says i in
    applies (subst (AllByRecursion IsAddressable) (sym all) (with_one (listed_sources op size) (listed_targets op size) (record_span record_at) says.record_addressable says.data_addressable))

known : (e : List ℕ) (op : ListedOp) (size record_at : ℕ) (head : List ℕ) (m : Member) → Says e op size record_at → AgreeOnOwner head e → IsMember Whole head e m
    → (t : Touched) × (m ≡ Known t) × (t.reads.items ≡ listed_sources op size) × (t.writes.items ≡ record_span record_at ∷ listed_targets op size)
known e op size record_at head (Known t) says agree is = (t, refl, is.1 ∙ reads e op size record_at says, is.2 ∙ writes e op size record_at says)
known e op size record_at head (Unknown why) says agree is = absurd (none e op size record_at head says agree why is.applies)

-- ---- those of a descriptor

above_one : (op : Op) → 1 < code_of op
above_one (Move src dst) = omega arith
above_one (Fill pattern dst) = omega arith
above_one (Compare src src2 expected) = omega arith
above_one (ComparePattern src pattern expected) = omega arith
above_one (ApplyDelta delta dst record_size) = omega arith
above_one (Dualcast src dst dst2) = omega arith

descriptor_says : (f : Fields) → IsListed f → Says (spelling f) (listed.Descriptor f.op) f.size f.record_at
descriptor_says f h =
    let fits : f.flags < 2 ^ 24 = h.flags_fit in
    let there : u32_at 4 (spelling f) ≡ f.flags + code_of f.op * 2 ^ 24 = (spelling_stands f h).operation_there in
    let above : 1 < code_of f.op = above_one f.op in
    let flags : flags_at (spelling f) ≡ f.flags = omega (arith, fits, there) in
    record {
      op_said = ap (λ (o : Option Op). either_op o (checksum_at (spelling f))) (op_spelt f h);
      code_said = omega (arith, fits, there, above);
      required = ap (λ (n : ℕ). bit_and n required_flags) flags ∙ h.flags_listed.required;
      size_said = (spelling_stands f h).size_there;
      record_said = (spelling_stands f h).record_there;
      size_positive = h.size_positive;
      record_addressable = h.record_addressable;
      data_addressable = h.data_addressable;
    }

-- ---- those of a checksum

no_op_there : (op : ChecksumOp) (e : List ℕ) → code_at e ≡ checksums.code_of op → op_at e ≡ None
unfolding op_at
no_op_there (Crc src seed) e code = rw code refl
no_op_there (CopyCrc src dst seed) e code = rw code refl

checksum_says : (f : ChecksumFields) → IsListedChecksum f → Says (checksum_spelling f) (listed.Checksum f.op) f.size f.record_at
checksum_says f h =
    let e : List ℕ = checksum_spelling f in
    let fits : Fits f = listed_fits f h in
    let there : Stands f e = stands f fits in
    let word : u32_at 4 e ≡ f.flags + checksums.code_of f.op * 2 ^ 24 = there.operation_there in
    let small : f.flags < 2 ^ 24 = h.flags_fit in
    let code : code_at e ≡ checksums.code_of f.op = omega (arith, word, small) in
    let least : 16 ≤ checksums.code_of f.op = code-le f.op in
    record {
      op_said = λ i. either_op (no_op_there f.op e code i) (op_there f e fits there i);
      code_said = omega (arith, code, least);
      required = ap (λ (n : ℕ). bit_and n required_flags) (flags_there f e fits there) ∙ h.flags_listed.required;
      size_said = there.size_there;
      record_said = there.record_there;
      size_positive = h.size_positive;
      record_addressable = h.record_addressable;
      data_addressable = h.data_addressable;
    }

pub listed_are_known : (o : AnyOperation) (head : List ℕ) (m : Member) → AgreeOnOwner head (spelling_of o) → IsMember Whole head (spelling_of o) m
    → (t : Touched) × (m ≡ Known t) × (t.reads.items ≡ reads_of o) × (t.writes.items ≡ writes_of o)
listed_are_known (Descriptor d) head m agree is = let f : Fields = fields d in known (spelling f) (listed.Descriptor f.op) f.size f.record_at head m (descriptor_says f d.listed) agree is
listed_are_known (Checksum c) head m agree is = let f : ChecksumFields = checksum_fields c in known (checksum_spelling f) (listed.Checksum f.op) f.size f.record_at head m (checksum_says f c.listed) agree is
