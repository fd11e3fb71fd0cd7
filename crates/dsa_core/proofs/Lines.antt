-- All lines of a checksum and its finish leave the checksum done.
use Rattle.std.proofs.Common.{◌≡◌, ℕ, zero, suc, ◌+◌, ◌-◌, ◌*◌, ◌<◌, ◌≤◌, ◌⊎◌, inl, inr, None, List, ◌++◌, refl, sym, ap, ◌∙◌, arith}
use Rattle.std.proofs.lemmas.Bool.{cases_lt}
use Rattle.dsa_checksum.specs.Checksum.{checksum}
use Rattle.dsa_core.specs.Order.{alone, done}
use Rattle.dsa_image.specs.Lines.{AgreeOn}
use Rattle.dsa_image.specs.Memory.{After, Memory, bytes_from, changed, written}
use Rattle.dsa_image.specs.Parts.{part_end}
use Rattle.dsa_image.proofs.Joins.{copied-out, copy_up}
use Rattle.dsa_image.proofs.MemoryLemmas.{byte_at-changed_none, changed-none}
use Rattle.dsa_image.proofs.Rounds.{part_end_le, part_end_more, rounds_up}
use Rattle.dsa_operations.specs.declared.checksum_op.ChecksumOp.{ChecksumOp}
use Rattle.dsa_operations.specs.declared.checksum_op.ChecksumOp.TheVariants.{Crc, CopyCrc}
use Rattle.dsa_operations.specs.Checksums.{variant_of}
use Rattle.dsa_operations.specs.Data.{sources}
use Rattle.dsa_operations.specs.Fields.{ChecksumFields}
use Rattle.dsa_operations.specs.Operands.{source_field}
use Rattle.dsa_operations.specs.Profile.{RegionsApart}
use Rattle.dsa_core.specs.Checksums.{begun_value, checksum_done, checksum_line, checksum_machine, checksum_value, copied_data, value_before, value_record}
use Rattle.dsa_core.proofs.Local.{begun_same, copied_data_outside, part_fits, part_same}
use Rattle.dsa_core.proofs.Sources.{bytes_from_join, bytes_from_none}
use Rattle.dsa_core.proofs.Values.{goes_on_from}

-- ---- parts of a copy

nothing_copied : (op : ChecksumOp) (m : Memory) (a : ℕ) → copied_data op 0 0 m a ≡ None
nothing_copied (Crc src seed) m a = refl
nothing_copied (CopyCrc src dst seed) m a = copied-out m src dst 0 0 a (beside (cases_lt a dst))
  where
    beside : (a < dst) ⊎ (dst ≤ a) → (a < dst + 0) ⊎ (dst + 0 ≤ a)
    beside (inl low) = inl (omega arith)
    beside (inr high) = inr (omega arith)

-- a destination apart from its source begins before it, or after its end
copy_way :
    (src dst size hi : ℕ) → 0 < size → hi ≤ size → ((a : ℕ) → (dst ≤ a) × (a < dst + size) → (src ≤ a) × (a < src + size) → ⊥) →
    (dst ≤ src) ⊎ (src + hi ≤ dst)
copy_way src dst size hi some fits apart =
    elim (cases_lt src dst) [
      | inl above ↦ elim (cases_lt dst (src + size)) [
        | inl inside ↦ absurd (apart dst (omega arith, omega arith) (omega arith, omega arith))
        | inr beyond ↦ inr (omega arith)
      ]
      | inr below ↦ inl below
    ]

-- two parts in turn
copied_in_turn :
    (op : ChecksumOp) (size mid hi : ℕ) (m : Memory) → RegionsApart op size → 0 < size → mid ≤ hi → hi ≤ size →
    changed (changed m (copied_data op 0 mid m)) (copied_data op mid hi (changed m (copied_data op 0 mid m))) ≡ changed m (copied_data op 0 hi m)
copied_in_turn (Crc src seed) size mid hi m apart some p q = changed-none (changed m (λ a. None)) (λ a. None) (λ a. refl)
copied_in_turn (CopyCrc src dst seed) size mid hi m apart some p q =
    copy_up m src dst 0 mid hi (omega arith) p (copy_way src dst size hi some q (λ a there here. apart a (inl there) (inl here)))

-- what is copied is not read again
sources_kept : (op : ChecksumOp) (size hi : ℕ) (m : Memory) → RegionsApart op size → hi ≤ size → AgreeOn (sources op size) (changed m (copied_data op 0 hi m)) m
sources_kept op size hi m apart fits a read =
    byte_at-changed_none m (copied_data op 0 hi m) a (copied_data_outside op size 0 hi m a fits (λ there. apart a there read))

-- a part has some bytes
part_some : (n k : ℕ) → 4096 * k < n → 0 < part_end 4096 n k
unfolding part_end
part_some n k begins = omega arith

-- ---- all lines

module _ (f : ChecksumFields) (m : Memory) (some : 0 < f.size) (apart : RegionsApart f.op f.size) where
  -- the value of the first bytes of the source
  abbrev value_to : ℕ → ℕ
  value_to n = checksum (variant_of f) (begun_value f m) (bytes_from m (source_field f.op) n)

  -- and before the first line none
  abbrev so_far : ℕ → ℕ
  so_far zero = 0
  so_far (suc n) = value_to (suc n)

  so_far_is : (n : ℕ) → 0 < n → so_far n ≡ value_to n
  so_far_is zero pos = absurd (omega arith)
  so_far_is (suc n) pos = refl

  -- what the first bytes of the source leave
  abbrev done_to : ℕ → After ℕ
  done_to hi = record { memory = changed m (copied_data f.op 0 hi m); answer = so_far hi }

  -- a line goes on from the value of the bytes before its part
  goes_on_at : (t : ℕ) (n : Memory) (rest : List ℕ) → AgreeOn (sources f.op f.size) n m →
      checksum (variant_of f) (value_before f t n (so_far (4096 * t))) rest
      ≡ checksum (variant_of f) (begun_value f m) (bytes_from m (source_field f.op) (4096 * t) ++ rest)
  goes_on_at zero n rest agree = ap (λ value. checksum (variant_of f) value rest) (begun_same f.op f.size n m agree)
      ∙ ap (λ bytes. checksum (variant_of f) (begun_value f m) (bytes ++ rest)) (sym (bytes_from_none m (source_field f.op)))
  goes_on_at (suc t) n rest agree =
      ap (λ value. checksum (variant_of f) value rest) (so_far_is (4096 * suc t) (omega arith))
      ∙ goes_on_from (variant_of f) (begun_value f m) (bytes_from m (source_field f.op) (4096 * suc t)) rest

  line_value : (t : ℕ) (n : Memory) → 4096 * t < f.size → AgreeOn (sources f.op f.size) n m →
      (checksum_line f t n (so_far (4096 * t))).answer ≡ so_far (part_end 4096 f.size t)
  line_value t n begins agree =
      let hi : ℕ = part_end 4096 f.size t in
      let more : 4096 * t ≤ hi = part_end_more 4096 f.size t (omega arith) in
      ap (checksum (variant_of f) (value_before f t n (so_far (4096 * t))))
      (part_same f.op f.size (4096 * t) (hi - 4096 * t) n m (part_fits f.size t (omega arith)) agree)
      ∙ goes_on_at t n (bytes_from m (source_field f.op + 4096 * t) (hi - 4096 * t)) agree
      ∙ ap (checksum (variant_of f) (begun_value f m)) (bytes_from_join m (source_field f.op) (4096 * t) (hi - 4096 * t) hi (omega arith))
      ∙ sym (so_far_is hi (part_some f.size t begins))

  line_done : (t : ℕ) → 4096 * t < f.size → checksum_line f t (done_to (4096 * t)).memory (done_to (4096 * t)).answer ≡ done_to (part_end 4096 f.size t)
  line_done t begins =
      let lo : ℕ = 4096 * t in
      let hi : ℕ = part_end 4096 f.size t in
      let n : Memory = changed m (copied_data f.op 0 lo m) in
      let fits : lo ≤ f.size = omega arith in
      let memory : changed n (copied_data f.op lo hi n) ≡ changed m (copied_data f.op 0 hi m) =
      copied_in_turn f.op f.size lo hi m apart some (part_end_more 4096 f.size t fits) (part_end_le 4096 f.size t) in
      let value : (checksum_line f t n (so_far lo)).answer ≡ so_far hi = line_value t n begins (sources_kept f.op f.size lo m apart fits) in
      λ i. record { memory = memory i; answer = value i }

  all_lines : alone checksum_machine f (checksum_machine.lines f) m ≡ done_to f.size
  all_lines =
      rounds_up (λ t. alone checksum_machine f t m) done_to 4096 f.size (omega arith)
      (λ i. record { memory = sym (changed-none m (copied_data f.op 0 0 m) (nothing_copied f.op m)) i; answer = 0 })
      (λ t lt begins here. ap (λ s. checksum_line f t s.memory s.answer) here ∙ line_done t begins)

  -- the value that the lines make
  pub lines_make_value : (alone checksum_machine f (checksum_machine.lines f) m).answer ≡ checksum_value f m
  lines_make_value = ap (λ s. s.answer) all_lines ∙ so_far_is f.size some

  -- and with the record they make the checksum
  pub lines_make_done : (done checksum_machine f m).memory ≡ checksum_done f m
  lines_make_done =
      ap (λ s. (checksum_machine.finish f s.memory s.answer).memory) all_lines
      ∙ ap (λ value. changed (changed m (copied_data f.op 0 f.size m)) (written f.record_at (value_record value))) (so_far_is f.size some)
