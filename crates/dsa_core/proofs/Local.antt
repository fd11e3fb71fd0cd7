-- The steps of a checksum stay within what it reads and writes.
use Rattle.std.proofs.Common.{◌≡◌, ℕ, zero, suc, ◌+◌, ◌-◌, ◌*◌, ◌<◌, ◌≤◌, ◌⊎◌, inl, inr, Option, None, [], ◌∷◌, refl, sym, ap, ap₂, ◌∙◌, arith}
use Rattle.std.specs.Prelude.{unwrap_or}
use Rattle.std.specs.Int.{from_le_bytes, w32}
use Rattle.dsa_checksum.specs.Checksum.{checksum}
use Rattle.dsa_core.specs.Machine.{AgreeFor, IsLocal, IsWithin, Machine}
use Rattle.dsa_core.proofs.Bytes.{same_addresses-sym}
use Rattle.dsa_descriptor.specs.Spans.{InSome, InSpan, span}
use Rattle.dsa_descriptor.specs.Data.{record_span}
use Rattle.dsa_image.specs.Lines.{AgreeOn, ChangesOnly}
use Rattle.dsa_image.specs.Memory.{Holds, Memory, byte_at, bytes_from, changed, written}
use Rattle.dsa_image.specs.Parts.{part_end, quotient_up}
use Rattle.dsa_image.proofs.ImageBytes.{written-out}
use Rattle.dsa_image.proofs.Joins.{copied_outside, copied_same, outside_part}
use Rattle.dsa_image.proofs.MemoryLemmas.{SameAddresses-changed, byte_at-changed, byte_at-changed_none}
use Rattle.dsa_image.proofs.Rounds.{part_begins, part_end_le}
use Rattle.dsa_operations.specs.declared.checksum_op.ChecksumOp.{ChecksumOp}
use Rattle.dsa_operations.specs.declared.checksum_op.ChecksumOp.TheVariants.{Crc, CopyCrc}
use Rattle.dsa_operations.specs.declared.checksum_op.Seed.{Seed}
use Rattle.dsa_operations.specs.declared.checksum_op.Seed.TheVariants.{At, Given}
use Rattle.dsa_operations.specs.Checksums.{variant_of}
use Rattle.dsa_operations.specs.Data.{checksum_reads, seed_spans, sources, targets}
use Rattle.dsa_operations.specs.Fields.{ChecksumFields}
use Rattle.dsa_operations.specs.Operands.{seed_of, source_field}
use Rattle.dsa_core.specs.Checksums.{checksum_finish, checksum_line, checksum_machine, copied_data, seed_value, value_before, value_record}
use Rattle.dsa_core.proofs.Sources.{bytes_from_same}

-- ---- changes

-- the same new byte, over the same byte, where both memories have it
changed_alike : (m n : Memory) (f g : ℕ → Option ℕ) (a : ℕ) → Holds m a → Holds n a → f a ≡ g a → byte_at m a ≡ byte_at n a →
    byte_at (changed m f) a ≡ byte_at (changed n g) a
changed_alike m n f g a held held' new same =
    byte_at-changed m f a held ∙ ap₂ unwrap_or new same ∙ sym (byte_at-changed n g a held')

-- a change stays within a piece that writes where it has new bytes, if these and the answer rest on what the piece touches
pub change_within :
    {D P X : Type 0} (machine : Machine D P) (d : D) (new : Memory → ℕ → Option ℕ) (answer : Memory → X) →
    ((m : Memory) (a : ℕ) → (machine.writes d a → ⊥) → new m a ≡ None) →
    ((m n : Memory) → AgreeFor machine d m n → (a : ℕ) → new m a ≡ new n a) →
    ((m n : Memory) → AgreeFor machine d m n → answer m ≡ answer n) →
    IsWithin machine d (λ m. record { memory = changed m (new m); answer = answer m })
change_within machine d new answer inside same_bytes same_answers =
    record {
      keeps_addresses = λ m held. same_addresses-sym _ m (SameAddresses-changed m (new m));
      keeps_others = λ m held a out. byte_at-changed_none m (new m) a (inside m a out);
      keeps_agreement = λ m n held held' agree a touched.
          changed_alike m n (new m) (new n) a (held a touched) (held' a touched) (same_bytes m n agree a) (agree a touched);
      same_answer = λ m n held held' agree. same_answers m n agree;
    }

-- ---- what a checksum writes

-- no byte outside the destination is new
pub copied_data_outside :
    (op : ChecksumOp) (size lo hi : ℕ) (m : Memory) (a : ℕ) → hi ≤ size → (InSome (targets op size) a → ⊥) → copied_data op lo hi m a ≡ None
copied_data_outside (Crc src seed) size lo hi m a fits out = refl
copied_data_outside (CopyCrc src dst seed) size lo hi m a fits out = copied_outside m src dst size lo hi a fits (λ there. out (inl there))

-- nor outside the record
pub record_outside : (at value a : ℕ) → (InSpan (span at 32) a → ⊥) → written at (value_record value) a ≡ None
record_outside at value a out = written-out at (value_record value) a (beside (outside_part at 32 0 32 a (omega arith) out))
  where
    beside : (a < at + 0) ⊎ (at + 32 ≤ a) → (a < at) ⊎ (at + 32 ≤ a)
    beside (inl low) = inl (omega arith)
    beside (inr high) = inr high

-- ---- what it reads

-- memories that agree on what is read have the same seed
pub seed_same : (seed : Seed) (m n : Memory) → ((a : ℕ) → InSome (seed_spans seed) a → byte_at m a ≡ byte_at n a) → seed_value seed m ≡ seed_value seed n
seed_same (Given value) m n agree = refl
seed_same (At address) m n agree = ap (from_le_bytes w32) (bytes_from_same m n address 4 (λ a low high. agree a (inl (low, high))))

pub begun_same : (op : ChecksumOp) (size : ℕ) (m n : Memory) → AgreeOn (sources op size) m n → seed_value (seed_of op) m ≡ seed_value (seed_of op) n
begun_same op size m n agree = seed_same (seed_of op) m n (λ a there. agree a (inr there))

-- and each part of the source
pub part_same : (op : ChecksumOp) (size lo count : ℕ) (m n : Memory) → lo + count ≤ size → AgreeOn (sources op size) m n →
    bytes_from m (source_field op + lo) count ≡ bytes_from n (source_field op + lo) count
part_same op size lo count m n fits agree =
    bytes_from_same m n (source_field op + lo) count (λ a low high. agree a (inl (omega arith, omega arith)))

-- and give a copy the same bytes
pub copied_data_same :
    (op : ChecksumOp) (size lo hi : ℕ) (m n : Memory) → hi ≤ size → AgreeOn (sources op size) m n → (a : ℕ) →
    copied_data op lo hi m a ≡ copied_data op lo hi n a
copied_data_same (Crc src seed) size lo hi m n fits agree a = refl
copied_data_same (CopyCrc src dst seed) size lo hi m n fits agree a =
    copied_same n m src dst lo hi (λ k low high. agree (src + k) (inl (omega arith, omega arith))) a

value_before_same :
    (f : ChecksumFields) (t : ℕ) (m n : Memory) (value : ℕ) → AgreeOn (sources f.op f.size) m n → value_before f t m value ≡ value_before f t n value
value_before_same f zero m n value agree = begun_same f.op f.size m n agree
value_before_same f (suc t) m n value agree = refl

-- ---- its steps

line_begins : (size t : ℕ) → t < quotient_up size 4096 → 4096 * t ≤ size
line_begins size t lt = let begins = part_begins 4096 size t (omega arith) lt in omega (arith, begins)

-- a part does not go past the end
pub part_fits : (size t : ℕ) → 4096 * t ≤ size → 4096 * t + (part_end 4096 size t - 4096 * t) ≤ size
part_fits size t begins = let ends = part_end_le 4096 size t in omega (arith, ends)

-- what a line writes and finds rests on what the checksum reads
pub line_writes_same :
    (f : ChecksumFields) (t : ℕ) (m n : Memory) → AgreeOn (checksum_reads f) m n → (a : ℕ) →
    copied_data f.op (4096 * t) (part_end 4096 f.size t) m a ≡ copied_data f.op (4096 * t) (part_end 4096 f.size t) n a
line_writes_same f t m n agree a = copied_data_same f.op f.size (4096 * t) (part_end 4096 f.size t) m n (part_end_le 4096 f.size t) agree a

pub line_finds_same :
    (f : ChecksumFields) (t : ℕ) (m n : Memory) (value : ℕ) → t < checksum_machine.lines f → AgreeOn (checksum_reads f) m n →
    (checksum_line f t m value).answer ≡ (checksum_line f t n value).answer
line_finds_same f t m n value lt agree =
    ap₂ (checksum (variant_of f))
    (value_before_same f t m n value agree)
    (part_same f.op f.size (4096 * t) (part_end 4096 f.size t - 4096 * t) m n (part_fits f.size t (line_begins f.size t lt)) agree)

-- and it changes only the destination
pub line_inside : (f : ChecksumFields) (t : ℕ) (m : Memory) (value : ℕ) → ChangesOnly (targets f.op f.size) m (checksum_line f t m value).memory
line_inside f t m value a out =
    byte_at-changed_none m (copied_data f.op (4096 * t) (part_end 4096 f.size t) m) a
    (copied_data_outside f.op f.size (4096 * t) (part_end 4096 f.size t) m a (part_end_le 4096 f.size t) out)

-- the finish changes only the record
pub finish_inside : (f : ChecksumFields) (m : Memory) (value : ℕ) → ChangesOnly (record_span f.record_at ∷ []) m (checksum_finish f m value).memory
finish_inside f m value a out =
    byte_at-changed_none m (written f.record_at (value_record value)) a (record_outside f.record_at value a (λ there. out (inl there)))

line_within : (f : ChecksumFields) (t value : ℕ) → t < checksum_machine.lines f → IsWithin checksum_machine f (λ m. checksum_machine.line f t m value)
line_within f t value lt =
    change_within checksum_machine f
    (λ m. copied_data f.op (4096 * t) (part_end 4096 f.size t) m)
    (λ m. (checksum_line f t m value).answer)
    (λ m a out. copied_data_outside f.op f.size (4096 * t) (part_end 4096 f.size t) m a (part_end_le 4096 f.size t) (λ there. out (inr there)))
    (λ m n agree. line_writes_same f t m n (λ a there. agree a (inl there)))
    (λ m n agree. line_finds_same f t m n value lt (λ a there. agree a (inl there)))

finish_within : (f : ChecksumFields) (value : ℕ) → IsWithin checksum_machine f (λ m. checksum_machine.finish f m value)
finish_within f value =
    change_within checksum_machine f (λ m. written f.record_at (value_record value)) (λ m. 1)
    (λ m a out. record_outside f.record_at value a (λ there. out (inl there)))
    (λ m n agree a. refl)
    (λ m n agree. refl)

-- each line of a checksum, and its finish, stays within it
pub checksum_local : (f : ChecksumFields) → IsLocal checksum_machine f
checksum_local f = record { each_line = λ t value lt. line_within f t value lt; the_finish = λ value. finish_within f value }
