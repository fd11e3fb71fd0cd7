-- Operations with a fence, as bytes.
use Rattle.std.proofs.Common.{◌≡◌, ◌%◌, ◌^◌, ◌<◌, Bool, true, false, length, get_or, sym, ap, ◌∙◌, bit_or, arith}
use Rattle.std.proofs.lemmas.List.{get_or-set_other}
use Rattle.dsa_descriptor.specs.declared.op.Op.{Op}
use Rattle.dsa_descriptor.specs.declared.op.Op.TheVariants.{Move, Fill, Compare, ComparePattern, ApplyDelta, Dualcast}
use Rattle.dsa_descriptor.specs.Descriptors.{fields}
use Rattle.dsa_descriptor.specs.Fences.{fenced, is_fenced, unfenced}
use Rattle.dsa_descriptor.specs.Fields.{Fields}
use Rattle.dsa_descriptor.specs.Operands.{code_of}
use Rattle.dsa_descriptor.specs.Profile.{IsListed}
use Rattle.dsa_descriptor.specs.Spelling.{spelling}
use Rattle.dsa_descriptor.proofs.Fenced.{fenced_is, length-fenced, unfenced_fenced}
use Rattle.dsa_operations.specs.declared.operation.Operation.{Operation}
use Rattle.dsa_operations.specs.declared.operation.Operation.TheVariants.{Descriptor, Checksum}
use Rattle.dsa_operations.specs.Checksums.{checksum_fields}
use Rattle.dsa_operations.specs.Fields.{ChecksumFields}
use Rattle.dsa_operations.specs.Operations.{spelling_of}
use Rattle.dsa_operations.specs.Profile.{IsListedChecksum}
use Rattle.dsa_operations.specs.Spelling.{checksum_spelling}
use Rattle.dsa_operations.proofs.Answered.{are_operations}
use Rattle.dsa_operations.proofs.Same.{one_spelling}
use Rattle.dsa_operations.proofs.Spelt.{code-le, code-lt}

plain : (o : Operation) → get_or (spelling_of o) 4 0 % 2 ≡ 0
plain o = are_operations.plain (spelling_of o) (are_operations.kept o)

pub long_fenced : (o : Operation) (fence : Bool) → length (fenced fence (spelling_of o)) ≡ 64
long_fenced o fence = length-fenced (spelling_of o) (are_operations.whole o) (plain o) fence

-- an operation and its fence are known by their bytes
pub one_fenced : (o p : Operation) (a b : Bool) → fenced a (spelling_of o) ≡ fenced b (spelling_of p) → (a ≡ b) × (o ≡ p)
one_fenced o p a b e = (
  sym (fenced_is (spelling_of o) (are_operations.whole o) (plain o) a) ∙ ap is_fenced e ∙ fenced_is (spelling_of p) (are_operations.whole p) (plain p) b,
  one_spelling o p
      (sym (unfenced_fenced (spelling_of o) (are_operations.whole o) (plain o) a) ∙ ap unfenced e ∙ unfenced_fenced (spelling_of p) (are_operations.whole p) (plain p) b),
)

-- ---- the operation code

some_code : (op : Op) → (code_of op ≡ 0 → ⊥) × (code_of op < 256)
some_code (Move src dst) = (λ e. absurd (omega arith), omega arith)
some_code (Fill pattern dst) = (λ e. absurd (omega arith), omega arith)
some_code (Compare src src2 expected) = (λ e. absurd (omega arith), omega arith)
some_code (ComparePattern src pattern expected) = (λ e. absurd (omega arith), omega arith)
some_code (ApplyDelta delta dst record_size) = (λ e. absurd (omega arith), omega arith)
some_code (Dualcast src dst dst2) = (λ e. absurd (omega arith), omega arith)

descriptor_code : (f : Fields) → IsListed f → get_or (spelling f) 7 0 ≡ 0 → ⊥
unfolding spelling
descriptor_code f listed e =
    let code = some_code f.op in
    let fits : f.flags < 2 ^ 24 = listed.flags_fit in
    let is : code_of f.op ≡ 0 = omega (arith, code.1) in
    code.0 is

checksum_code : (f : ChecksumFields) → IsListedChecksum f → get_or (checksum_spelling f) 7 0 ≡ 0 → ⊥
unfolding checksum_spelling
checksum_code f listed e =
    let low = code-le f.op in
    let high = code-lt f.op in
    let fits : f.flags < 2 ^ 24 = listed.flags_fit in
    absurd (omega (arith, e))

plain_code : (o : Operation) → get_or (spelling_of o) 7 0 ≡ 0 → ⊥
plain_code (Descriptor d) e = descriptor_code (fields d) d.listed e
plain_code (Checksum c) e = checksum_code (checksum_fields c) c.listed e

-- byte 7 is no zero
pub fenced_code : (o : Operation) (fence : Bool) → get_or (fenced fence (spelling_of o)) 7 0 ≡ 0 → ⊥
fenced_code o false e = plain_code o e
fenced_code o true e =
    plain_code o (sym (get_or-set_other (spelling_of o) 4 7 (bit_or (get_or (spelling_of o) 4 0) 1) 0 (λ k. absurd (omega arith))) ∙ e)
