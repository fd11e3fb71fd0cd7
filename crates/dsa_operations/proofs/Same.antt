-- Fields that fit their places are known by their bytes, listed or not, so two operations with one spelling are equal.
use Rattle.std.proofs.Common.{◌≡◌, ℕ, ◌+◌, ◌*◌, ◌%◌, ◌^◌, ◌<◌, Bool, true, false, cond, List, length, Some, refl, sym, ap, subst, ◌∙◌, arith}
use Rattle.std.proofs.lemmas.Option.{same_Some}
use mathlib.Core.HLevel.{is_prop→PathP}
use Rattle.dsa_descriptor.specs.declared.op.Op.{Op}
use Rattle.dsa_descriptor.specs.declared.op.Op.TheVariants.{Move, Fill, Compare, ComparePattern, ApplyDelta, Dualcast}
use Rattle.dsa_descriptor.specs.Descriptors.{fields}
use Rattle.dsa_descriptor.specs.Fields.{Fields}
use Rattle.dsa_descriptor.specs.Operands as operands
use Rattle.dsa_descriptor.specs.Places.{u32_at, flags_at, op_at}
use Rattle.dsa_descriptor.specs.Profile as descriptors
use Rattle.dsa_descriptor.specs.Spelling.{spelling}
use Rattle.dsa_descriptor.specs.Spelling as descriptor_words
use Rattle.dsa_descriptor.proofs.Back as back
use Rattle.dsa_descriptor.proofs.Masks as masks
use Rattle.dsa_descriptor.proofs.Same.{same_descriptor}
use Rattle.dsa_operations.specs.declared.checksum.Checksum.{Checksum}
use Rattle.dsa_operations.specs.declared.operation.Operation.{Operation}
use Rattle.dsa_operations.specs.declared.operation.Operation.TheVariants as operation
use Rattle.dsa_operations.specs.Checksums.{checksum_fields}
use Rattle.dsa_operations.specs.Fields.{ChecksumFields}
use Rattle.dsa_operations.specs.OperationFields.{OperationFields, AreListedFields, fields_spelling, operation_fields}
use Rattle.dsa_operations.specs.OperationFields.OperationFields.{OfDescriptor, OfChecksum}
use Rattle.dsa_operations.specs.Operands.{code_of}
use Rattle.dsa_operations.specs.Operations.{spelling_of}
use Rattle.dsa_operations.specs.Profile.{IsListedChecksum}
use Rattle.dsa_operations.specs.ProfileProps.{IsListedChecksum-prop}
use Rattle.dsa_operations.specs.Spelling.{checksum_spelling}
use Rattle.dsa_operations.proofs.Spelt.{Fits, Stands, code-le, flags_there, listed_fits, no_fence, op_there, stands}

-- the parts of the word of the PASID and the privilege
same_owner : (p q : ℕ) (a b : Bool) → p < 2 ^ 20 → q < 2 ^ 20 → p + cond a (2 ^ 31) 0 ≡ q + cond b (2 ^ 31) 0 → (p ≡ q) × (a ≡ b)
same_owner p q true true lt mt e = (omega arith, refl)
same_owner p q true false lt mt e = absurd (omega arith)
same_owner p q false true lt mt e = absurd (omega arith)
same_owner p q false false lt mt e = (omega arith, refl)

-- ---- fields of checksums

-- fields that fit and have one spelling are equal
same_checksums : (f g : ChecksumFields) → Fits f → Fits g → checksum_spelling f ≡ checksum_spelling g → f ≡ g
same_checksums f g p q h =
    let s = stands f p in
    let t = subst (Stands g) (sym h) (stands g q) in
    let owner = same_owner f.pasid g.pasid f.privileged g.privileged p.pasid_fits q.pasid_fits (sym s.owner_there ∙ t.owner_there) in
    let op : f.op ≡ g.op = same_Some f.op g.op (sym (op_there f (checksum_spelling f) p s) ∙ op_there g (checksum_spelling f) q t) in
    let code : code_of f.op ≡ code_of g.op = ap code_of op in
    let flags : f.flags ≡ g.flags = omega (arith, s.operation_there, t.operation_there, p.flags_fit, q.flags_fit, code) in
    let record_at : f.record_at ≡ g.record_at = sym s.record_there ∙ t.record_there in
    let size : f.size ≡ g.size = sym s.size_there ∙ t.size_there in
    let int_handle : f.int_handle ≡ g.int_handle = sym s.int_handle_there ∙ t.int_handle_there in
    λ i. record {
      pasid = owner.0 i;
      privileged = owner.1 i;
      flags = flags i;
      record_at = record_at i;
      size = size i;
      int_handle = int_handle i;
      op = op i;
    }

-- ---- fields of descriptors

-- each fits its place, listed or not
pub record DescriptorFits (f : Fields) : Type 0 where
  pub pasid_fits : f.pasid < 2 ^ 20
  pub flags_fit : f.flags < 2 ^ 24
  pub record_at_fits : f.record_at < 2 ^ 64
  pub size_fits : f.size < 2 ^ 32
  pub int_handle_fits : f.int_handle < 2 ^ 16
  pub op_fits : descriptors.FieldsFit f.op

pub descriptor_fits : (f : Fields) → descriptors.IsListed f → DescriptorFits f
descriptor_fits f listed = record {
  pasid_fits = listed.pasid_fits;
  flags_fit = listed.flags_fit;
  record_at_fits = listed.record_at_fits;
  size_fits = listed.size_fits;
  int_handle_fits = listed.int_handle_fits;
  op_fits = listed.op_fits;
}

owner_fits : (pasid : ℕ) (privileged : Bool) → pasid < 2 ^ 20 → pasid + cond privileged (2 ^ 31) 0 < 2 ^ 32
owner_fits pasid true lt = omega arith
owner_fits pasid false lt = omega arith

abbrev DescriptorStands : Fields → List ℕ → Type 0
DescriptorStands f bytes = back.Stands (descriptor_words.owner_word f) f.flags f.record_at f.size f.int_handle f.op bytes

descriptor_stands : (f : Fields) → DescriptorFits f → DescriptorStands f (spelling f)
descriptor_stands f h =
    rw back.spelling-spelt
    (back.stands (descriptor_words.owner_word f) f.flags f.record_at f.size f.int_handle f.op (owner_fits f.pasid f.privileged h.pasid_fits) h.flags_fit h.record_at_fits h.size_fits h.int_handle_fits h.op_fits)

op_spelt : (f : Fields) → DescriptorFits f → op_at (spelling f) ≡ Some f.op
op_spelt f h = back.op_there (descriptor_words.owner_word f) f.flags f.record_at f.size f.int_handle f.op (spelling f) h.flags_fit (descriptor_stands f h)

same_descriptors : (f g : Fields) → DescriptorFits f → DescriptorFits g → spelling f ≡ spelling g → f ≡ g
same_descriptors f g p q h =
    let s = descriptor_stands f p in
    let t = subst (DescriptorStands g) (sym h) (descriptor_stands g q) in
    let owner = same_owner f.pasid g.pasid f.privileged g.privileged p.pasid_fits q.pasid_fits (sym s.owner_there ∙ t.owner_there) in
    let op : f.op ≡ g.op = same_Some f.op g.op (sym (op_spelt f p) ∙ ap op_at h ∙ op_spelt g q) in
    let code : operands.code_of f.op ≡ operands.code_of g.op = ap operands.code_of op in
    let flags : f.flags ≡ g.flags = omega (arith, s.operation_there, t.operation_there, p.flags_fit, q.flags_fit) in
    let record_at : f.record_at ≡ g.record_at = sym s.record_there ∙ t.record_there in
    let size : f.size ≡ g.size = sym s.size_there ∙ t.size_there in
    let int_handle : f.int_handle ≡ g.int_handle = sym s.int_handle_there ∙ t.int_handle_there in
    λ i. record {
      pasid = owner.0 i;
      privileged = owner.1 i;
      flags = flags i;
      record_at = record_at i;
      size = size i;
      int_handle = int_handle i;
      op = op i;
    }

low_code : (op : Op) → operands.code_of op < 10
low_code (Move src dst) = omega arith
low_code (Fill pattern dst) = omega arith
low_code (Compare src src2 expected) = omega arith
low_code (ComparePattern src pattern expected) = omega arith
low_code (ApplyDelta delta dst record_size) = omega arith
low_code (Dualcast src dst dst2) = omega arith

-- the word of the flags and the code is lower than that of a checksum
pub low_word : (f : Fields) → DescriptorFits f → u32_at 4 (spelling f) < 16 * 2 ^ 24
low_word f h = omega (arith, (descriptor_stands f h).operation_there, low_code f.op, h.flags_fit)

-- ---- fields of operations

-- no descriptor is spelt as a checksum
apart : (f : Fields) (g : ChecksumFields) → DescriptorFits f → Fits g → spelling f ≡ checksum_spelling g → ⊥
apart f g p q h =
    let e : u32_at 4 (spelling f) ≡ u32_at 4 (checksum_spelling g) = ap (u32_at 4) h in
    omega (arith, e, low_word f p, (stands g q).operation_there, code-le g.op)

-- each field fits its place
abbrev pub AreFitting : OperationFields → Type 0
AreFitting (OfDescriptor f) = DescriptorFits f
AreFitting (OfChecksum f) = Fits f

pub listed_fitting : (f : OperationFields) → AreListedFields f → AreFitting f
listed_fitting (OfDescriptor f) h = descriptor_fits f h
listed_fitting (OfChecksum f) h = listed_fits f h

-- fields that fit have 64 bytes
pub long_fields : (f : OperationFields) → AreFitting f → length (fields_spelling f) ≡ 64
long_fields (OfDescriptor f) h = (descriptor_stands f h).long
long_fields (OfChecksum f) h = (stands f h).long

-- the flags of an operation, at their place
abbrev pub flags_of : OperationFields → ℕ
flags_of (OfDescriptor f) = f.flags
flags_of (OfChecksum f) = f.flags

pub flags_spelt : (f : OperationFields) → AreFitting f → flags_at (fields_spelling f) ≡ flags_of f
flags_spelt (OfDescriptor f) h = omega (arith, (descriptor_stands f h).operation_there, h.flags_fit)
flags_spelt (OfChecksum f) h = flags_there f (checksum_spelling f) h (stands f h)

-- fields that fit and have one spelling are equal
pub same_fields : (f g : OperationFields) → AreFitting f → AreFitting g → fields_spelling f ≡ fields_spelling g → f ≡ g
same_fields (OfDescriptor f) (OfDescriptor g) p q h = ap OfDescriptor (same_descriptors f g p q h)
same_fields (OfDescriptor f) (OfChecksum g) p q h = absurd (apart f g p q h)
same_fields (OfChecksum f) (OfDescriptor g) p q h = absurd (apart g f q p (sym h))
same_fields (OfChecksum f) (OfChecksum g) p q h = ap OfChecksum (same_checksums f g p q h)

-- ---- operations

-- the fields of an operation are listed
pub listed_of : (o : Operation) → AreListedFields (operation_fields o)
listed_of (operation.Descriptor d) = d.listed
listed_of (operation.Checksum c) = c.listed

pub operation_fits : (o : Operation) → AreFitting (operation_fields o)
operation_fits o = listed_fitting (operation_fields o) (listed_of o)

-- it has no fence
pub operation_plain : (o : Operation) → flags_of (operation_fields o) % 2 ≡ 0
operation_plain (operation.Descriptor d) = masks.no_fence (fields d) d.listed
operation_plain (operation.Checksum c) = no_fence c.flags.0 c.listed.flags_listed

-- checksums with equal fields are equal
same_checksum : (c d : Checksum) → checksum_fields c ≡ checksum_fields d → c ≡ d
same_checksum c d h = λ i. record {
  pasid = (h i).pasid;
  privileged = (h i).privileged;
  flags = record { 0 = (h i).flags };
  record_at = (h i).record_at;
  size = (h i).size;
  int_handle = (h i).int_handle;
  op = (h i).op;
  listed = is_prop→PathP (λ i. IsListedChecksum (h i)) (λ i. IsListedChecksum-prop (h i)) c.listed d.listed i;
}

same_in_descriptor : (f g : Fields) → OfDescriptor f ≡ OfDescriptor g → f ≡ g
same_in_descriptor f g e = cc

same_in_checksum : (f g : ChecksumFields) → OfChecksum f ≡ OfChecksum g → f ≡ g
same_in_checksum f g e = cc

-- operations with equal fields are equal
pub same_operation : (o p : Operation) → operation_fields o ≡ operation_fields p → o ≡ p
same_operation (operation.Descriptor d) (operation.Descriptor e) h = ap operation.Descriptor (same_descriptor d e (same_in_descriptor (fields d) (fields e) h))
same_operation (operation.Descriptor d) (operation.Checksum c) h = absurd cc
same_operation (operation.Checksum c) (operation.Descriptor d) h = absurd cc
same_operation (operation.Checksum c) (operation.Checksum d) h = ap operation.Checksum (same_checksum c d (same_in_checksum (checksum_fields c) (checksum_fields d) h))

pub one_spelling : (o p : Operation) → spelling_of o ≡ spelling_of p → o ≡ p
one_spelling o p h = same_operation o p (same_fields (operation_fields o) (operation_fields p) (operation_fits o) (operation_fits p) h)
