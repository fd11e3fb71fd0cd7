-- What a checksum reads and writes is held, and what a line gives, stored, is the line.
use Rattle.std.proofs.Common.{rules, ◌≡◌, ℕ, ◌+◌, ◌*◌, ◌^◌, ◌<◌, ◌≤◌, ◌⊎◌, inl, inr, Option, Some, None, List, [], refl, sym, ap, ◌∙◌, subst, arith}
use Rattle.std.specs.Prelude.{IsSome, unwrap_or}
use Rattle.std.specs.List.{AllByRecursion}
use Rattle.std.proofs.lemmas.Bool.{cases_lt}
use Rattle.dsa_checksum.specs.Checksum.{checksum}
use Rattle.dsa_core.specs.Machine.{HoldsPiece}
use Rattle.dsa_descriptor.specs.Spans.{InSome, IsAddressable}
use Rattle.dsa_image.specs.Memory.{HasRange, Holds, Memory, byte_at, changed, written}
use Rattle.dsa_image.specs.Parts.{part_end, quotient_up}
use Rattle.dsa_image.specs.Reads.{source_part}
use Rattle.dsa_image.proofs.Held.{range_held}
use Rattle.dsa_image.proofs.ImageBytes.{written-out}
use Rattle.dsa_image.proofs.Joins.{copied_outside, in_span_cases}
use Rattle.dsa_image.proofs.MemoryLemmas.{changed_same}
use Rattle.dsa_image.proofs.Rounds.{part_begins, part_end_le}
use Rattle.dsa_image.proofs.Worked.{part_written}
use Rattle.dsa_operations.specs.declared.checksum_op.ChecksumOp.{ChecksumOp}
use Rattle.dsa_operations.specs.declared.checksum_op.ChecksumOp.TheVariants.{Crc, CopyCrc}
use Rattle.dsa_operations.specs.declared.checksum_op.Seed.{Seed}
use Rattle.dsa_operations.specs.declared.checksum_op.Seed.TheVariants.{At, Given}
use Rattle.dsa_operations.specs.Checksums.{checksum_fields, variant_of}
use Rattle.dsa_operations.specs.Data.{data_of, seed_spans, targets}
use Rattle.dsa_operations.specs.Fields.{ChecksumFields}
use Rattle.dsa_operations.specs.Operands.{seed_of, source_field}
use Rattle.dsa_core.specs.declared.inputs.ChecksumInputs.{ChecksumInputs}
use Rattle.dsa_core.specs.declared.outputs.ChecksumOutputs.{ChecksumOutputs}
use Rattle.dsa_core.specs.ChecksumLines.{AreGivenBy, AreReadHere, copied_bytes, copy_at}
use Rattle.dsa_core.specs.Checksums.{checksum_line, checksum_machine, copied_data, value_before}

-- a seed in memory
pub seed_held : (m : Memory) (f : ChecksumFields) (seed : Seed) (at : ℕ) → HoldsPiece checksum_machine m f → seed ≡ seed_of f.op → seed ≡ At at → HasRange m at 4
seed_held m f seed at held of_op is =
    range_held m at 4 (omega arith) (λ a h. held a (inl (inr (subst (λ s. InSome (seed_spans s) a) (sym is ∙ of_op) (inl h)))))

-- the source
pub source_held : (m : Memory) (f : ChecksumFields) (at : ℕ) → HoldsPiece checksum_machine m f → 0 < f.size → at ≡ source_field f.op → HasRange m at f.size
source_held m f at held some is =
    subst (λ n. HasRange m n f.size) (sym is) (range_held m (source_field f.op) f.size some (λ a h. held a (inl (inl h))))

-- a line of a copy writes below 2 ^ 64
pub copy_fits : (op : ChecksumOp) (src dst size t : ℕ) (seed : Seed) → op ≡ CopyCrc src dst seed → AllByRecursion IsAddressable (data_of op size) → t < quotient_up size 4096 → dst + 4096 * t < 2 ^ 64
copy_fits op src dst size t seed is fits lt =
    let begins : 4096 * t < size = part_begins 4096 size t (omega arith) lt in
    let all : AllByRecursion IsAddressable (data_of (CopyCrc src dst seed) size) = subst (λ o. AllByRecursion IsAddressable (data_of o size)) is fits in
    below seed all begins
  where
    below : (seed : Seed) → AllByRecursion IsAddressable (data_of (CopyCrc src dst seed) size) → 4096 * t < size → dst + 4096 * t < 2 ^ 64
    below (Given value) all begins = let last = all.1.0 in omega arith
    below (At address) all begins = let last = all.1.1.0 in omega arith

none_is_not : (o : Option ℕ) → IsSome o → o ≡ None → ⊥
none_is_not None h e = search rules
none_is_not (Some v) h e = cc

-- what a line writes of its part of the source is that part of the copy
line_written :
    (op : ChecksumOp) (size t at : ℕ) (bytes read : List ℕ) (m : Memory) → at ≡ copy_at op t → bytes ≡ copied_bytes op read → read ≡ source_part m (source_field op) size t →
    (a : ℕ) → written at bytes a ≡ copied_data op (4096 * t) (part_end 4096 size t) m a
line_written (Crc src seed) size t at bytes read m at_is bytes_is read_is a =
    ap (λ bs. written at bs a) bytes_is ∙ written-out at [] a (beside (cases_lt a at))
  where
    beside : (a < at) ⊎ (at ≤ a) → (a < at) ⊎ (at + 0 ≤ a)
    beside (inl lt) = inl lt
    beside (inr le) = inr (omega arith)
line_written (CopyCrc src dst seed) size t at bytes read m at_is bytes_is read_is a =
    ap (λ n. written n bytes a) at_is ∙ part_written m src dst (4096 * t) (part_end 4096 size t) bytes (bytes_is ∙ read_is) a

writes_inside : (op : ChecksumOp) (size t a : ℕ) (m : Memory) → IsSome (copied_data op (4096 * t) (part_end 4096 size t) m a) → InSome (targets op size) a
writes_inside (Crc src seed) size t a m some = absurd (none_is_not None some refl)
writes_inside (CopyCrc src dst seed) size t a m some = elim (in_span_cases dst size a) [
  | inl there ↦ inl there
  | inr out ↦ absurd (none_is_not _ some (copied_outside m src dst size (4096 * t) (part_end 4096 size t) a (part_end_le 4096 size t) out))
]

module _ (m : Memory) (i : ChecksumInputs) (o : ChecksumOutputs) (gives : AreGivenBy i o) (reads : AreReadHere m i) where
  abbrev f : ChecksumFields
  f = checksum_fields i.checksum

  new_bytes : (a : ℕ) → written o.at o.bytes.items a ≡ copied_data f.op (4096 * i.line) (part_end 4096 f.size i.line) m a
  new_bytes = line_written i.checksum.op i.checksum.size i.line o.at o.bytes.items i.bytes.items m gives.at gives.bytes reads.source

  -- the memory is that of the line
  pub line_memory : changed m (written o.at o.bytes.items) ≡ (checksum_line f i.line m i.value).memory
  line_memory =
      changed_same m (written o.at o.bytes.items) (copied_data f.op (4096 * i.line) (part_end 4096 f.size i.line) m) (λ a. ap (λ b. unwrap_or b (byte_at m a)) (new_bytes a))

  -- and the value
  pub line_value : o.value ≡ (checksum_line f i.line m i.value).answer
  line_value =
      gives.value
      ∙ ap (λ n. checksum (variant_of f) n i.bytes.items) reads.begun
      ∙ ap (λ bs. checksum (variant_of f) (value_before f i.line m i.value) bs) reads.source

  -- what is written is held
  pub writes_held : HoldsPiece checksum_machine m f → (a : ℕ) → IsSome (written o.at o.bytes.items a) → Holds m a
  writes_held held a some = held a (inr (inr (writes_inside i.checksum.op i.checksum.size i.line a m (subst IsSome (new_bytes a) some))))
