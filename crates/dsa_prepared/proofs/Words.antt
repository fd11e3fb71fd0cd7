-- A filled entry has the bytes of the relocated piece.
use Rattle.std.proofs.Common.{◌≡◌, ℕ, zero, suc, ◌+◌, ◌-◌, ◌*◌, ◌/◌, ◌%◌, ◌^◌, ◌<◌, ◌≤◌, ◌⊎◌, inl, inr, Bool, true, false, List, [], ◌∷◌, ◌++◌, length, take, get_or, refl, sym, ap, ◌∙◌, arith}
use Rattle.std.specs.Prelude.{◌==◌, ◌&&◌, replicate}
use Rattle.std.specs.Int.{w16, w32, w64, to_le_bytes}
use Rattle.std.specs.List.{AllByRecursion, flat_map}
use Rattle.std.proofs.lemmas.Bool.{and_left, ne_eqb}
use Rattle.std.proofs.lemmas.Nat.Bits.{and_pow}
use Rattle.dsa_descriptor.specs.declared.op.Op.{Op}
use Rattle.dsa_descriptor.specs.declared.op.Op.TheVariants.{Move, Fill, Compare, ComparePattern, ApplyDelta, Dualcast}
use Rattle.dsa_descriptor.specs.declared.span.Span.{Span}
use Rattle.dsa_descriptor.specs.Data.{sources, targets}
use Rattle.dsa_descriptor.specs.declared.descriptor.Descriptor.{Descriptor}
use Rattle.dsa_descriptor.specs.Descriptors.{fields}
use Rattle.dsa_descriptor.specs.Operands as descriptor
use Rattle.dsa_descriptor.specs.Operands.{code_of, first_field, second_field, own_len}
use Rattle.dsa_descriptor.specs.Profile.{FieldsFit}
use Rattle.dsa_descriptor.specs.Spans.{InSome, span}
use Rattle.dsa_descriptor.specs.Spelling.{operation_word, owner_word, spelling}
use Rattle.dsa_emission.specs.declared.place.Place.{Place}
use Rattle.dsa_descriptor.specs.Fences.{fenced}
use Rattle.dsa_emission.specs.Emission.{batch_spelling}
use Rattle.dsa_settings.specs.Plan.{Group}
use Rattle.dsa_operations.specs.declared.checksum.Checksum.{Checksum}
use Rattle.dsa_operations.specs.declared.checksum_op.ChecksumOp.{ChecksumOp}
use Rattle.dsa_operations.specs.declared.checksum_op.ChecksumOp.TheVariants.{Crc, CopyCrc}
use Rattle.dsa_operations.specs.declared.checksum_op.Seed.{Seed}
use Rattle.dsa_operations.specs.declared.checksum_op.Seed.TheVariants.{Given, At}
use Rattle.dsa_operations.specs.declared.operation.Operation.{Operation}
use Rattle.dsa_operations.specs.declared.operation.Operation.TheVariants as operation
use Rattle.dsa_operations.specs.Checksums.{checksum_fields}
use Rattle.dsa_operations.specs.Data as data_spans
use Rattle.dsa_operations.specs.Data.{seed_spans}
use Rattle.dsa_operations.specs.Operations.{spelling_of}
use Rattle.dsa_operations.specs.Operands as operands
use Rattle.dsa_operations.specs.Operands.{address_field, destination_field, given_field, given_value, has_flag, is_in_memory, seed_address, seed_of, source_field}
use Rattle.dsa_operations.specs.Profile as checksum_profile
use Rattle.dsa_operations.specs.Profile.{SeedFits}
use Rattle.dsa_operations.specs.Spelling as checksum_words
use Rattle.dsa_operations.specs.Spelling.{checksum_spelling}
use Rattle.dsa_prepared.specs.Relocated.{relocated_op, relocated_fields, relocated_checksum, relocated_checksum_op, relocated_seed, relocated_spelling}
use Rattle.dsa_prepared.specs.Regions.{relocated, LiesInOne, LieInOne, PieceLies}
use Rattle.dsa_prepared.proofs.Regions.{in_tells}
use Rattle.dsa_prepared.specs.Entries.{word_at, word_value, filled_entry, own_bytes, reads_seed, first_word, second_word, own_word, source_word, destination_word, seed_word, entry_of, batch_entry_of, words_of}
use Rattle.dsa_prepared.specs.Preparing.{relocation}

-- ---- addresses

-- an address in a later region
later_has : (r : Span) (rs : List Span) (a : ℕ) → InSome (r ∷ rs) a → (a < r.first) ⊎ (r.first + r.len ≤ a) → InSome rs a
later_has r rs a (inl here) (inl out) = absurd (omega (arith, here.0, out))
later_has r rs a (inl here) (inr out) = absurd (omega (arith, here.1, out))
later_has r rs a (inr there) out = there

-- an address goes where its word says
pub address_goes : (rs : List Span) (bases : List ℕ) (staging a : ℕ) → length bases ≡ length rs → InSome rs a → relocated (relocation rs bases) a ≡ word_value bases staging (word_at rs a)
address_goes [] bases staging a count here = absurd here
address_goes (r ∷ rs) [] staging a count here = absurd (omega (arith, count))
address_goes (r ∷ rs) (base ∷ bases) staging a count here =
    elim (in_tells r a) [
      | inl (is, inside) ↦ rw is refl
      | inr (is, out) ↦ let rest = address_goes rs bases staging a (omega (arith, count)) (later_has r rs a here out) in rw is rest
    ]

-- the first address of a span that lies in one region
pub first_has : (rs : List Span) (s : Span) → LiesInOne rs s → InSome rs s.first
first_has [] s lies = absurd lies
first_has (r ∷ rs) s (inl lies) = inl (lies.0, lies.1)
first_has (r ∷ rs) s (inr lies) = inr (first_has rs s lies)

-- ---- words

-- the bytes of a small number
byte_word : (n : ℕ) → n < 2 ^ 8 → to_le_bytes w64 n ≡ n ∷ replicate 7 0
byte_word n lt =
    let a : n % 256 ≡ n = omega (arith, lt) in
    let b : n / 256 % 256 ≡ 0 = omega (arith, lt) in
    let c : n / 65536 % 256 ≡ 0 = omega (arith, lt) in
    let d : n / 16777216 % 256 ≡ 0 = omega (arith, lt) in
    let e : n / 4294967296 % 256 ≡ 0 = omega (arith, lt) in
    let f : n / 1099511627776 % 256 ≡ 0 = omega (arith, lt) in
    let g : n / 281474976710656 % 256 ≡ 0 = omega (arith, lt) in
    let h : n / 72057594037927936 % 256 ≡ 0 = omega (arith, lt) in
    λ i. a i ∷ b i ∷ c i ∷ d i ∷ e i ∷ f i ∷ g i ∷ h i ∷ []

half_word : (n : ℕ) → n < 2 ^ 32 → to_le_bytes w64 n ≡ to_le_bytes w32 n ++ replicate 4 0
half_word n lt =
    let e : n / 4294967296 % 256 ≡ 0 = omega (arith, lt) in
    let f : n / 1099511627776 % 256 ≡ 0 = omega (arith, lt) in
    let g : n / 281474976710656 % 256 ≡ 0 = omega (arith, lt) in
    let h : n / 72057594037927936 % 256 ≡ 0 = omega (arith, lt) in
    λ i. to_le_bytes w32 n ++ e i ∷ f i ∷ g i ∷ h i ∷ []

-- ---- the first eight bytes

-- byte 7 of a descriptor is its code, which is that of no checksum
low_code : (op : Op) → code_of op < 16
low_code (Move src dst) = omega arith
low_code (Fill pattern dst) = omega arith
low_code (Compare src src2 expected) = omega arith
low_code (ComparePattern src pattern expected) = omega arith
low_code (ApplyDelta delta dst record_size) = omega arith
low_code (Dualcast src dst dst2) = omega arith

low_reads_none : (head : List ℕ) → get_or head 7 0 < 16 → reads_seed head ≡ false
low_reads_none head low = and_left (get_or head 7 0 / 2 == 8) (get_or head 6 0 % 2 == 1) (ne_eqb (get_or head 7 0 / 2) 8 (λ e. absurd (omega (arith, e, low))))

descriptor_reads_none : (fence : Bool) (d : Descriptor) → reads_seed (take 8 (fenced fence (spelling (fields d)))) ≡ false
unfolding spelling
descriptor_reads_none true d = low_reads_none (take 8 (fenced true (spelling (fields d)))) (omega (arith, low_code d.op, d.listed.flags_fit))
descriptor_reads_none false d = low_reads_none (take 8 (fenced false (spelling (fields d)))) (omega (arith, low_code d.op, d.listed.flags_fit))

-- a flag of one bit is set if the bit is
bit_is_one : (b : ℕ) → b < 2 → (b * 65536 == 65536) ≡ (b == 1)
bit_is_one zero lt = refl
bit_is_one (suc zero) lt = refl
bit_is_one (suc (suc b)) lt = absurd (omega arith)

bit_set : (flags : ℕ) → has_flag flags 0x010000 ≡ (flags / 65536 % 2 == 1)
bit_set flags = ap (λ (n : ℕ). n == 65536) (and_pow flags 16) ∙ bit_is_one (flags / 65536 % 2) (omega arith)

seed_fits : (op : ChecksumOp) → checksum_profile.FieldsFit op → SeedFits (seed_of op)
seed_fits (Crc src seed) f = f.1
seed_fits (CopyCrc src dst seed) f = f.2

code_halves : (op : ChecksumOp) → (operands.code_of op ≡ 16) ⊎ (operands.code_of op ≡ 17)
code_halves (Crc src seed) = inl refl
code_halves (CopyCrc src dst seed) = inr refl

-- bytes 6 and 7 of a checksum
head_reads : (head : List ℕ) (flags code : ℕ) → flags < 2 ^ 24 → (code ≡ 16) ⊎ (code ≡ 17) → get_or head 7 0 ≡ (flags + code * 2 ^ 24) / 2 ^ 24 % 256 → get_or head 6 0 ≡ (flags + code * 2 ^ 24) / 2 ^ 16 % 256 →
    reads_seed head ≡ has_flag flags 0x010000
head_reads head flags code fit is seven six =
    let high : get_or head 7 0 / 2 ≡ 8 = elim is [ inl a ↦ omega (arith, a, fit, seven) | inr b ↦ omega (arith, b, fit, seven) ] in
    let bit : get_or head 6 0 % 2 ≡ flags / 2 ^ 16 % 2 = elim is [ inl a ↦ omega (arith, a, fit, six) | inr b ↦ omega (arith, b, fit, six) ] in
    (λ i. (high i == 8) && (bit i == 1)) ∙ sym (bit_set flags)

checksum_reads_seed : (fence : Bool) (c : Checksum) → reads_seed (take 8 (fenced fence (checksum_spelling (checksum_fields c)))) ≡ is_in_memory (seed_of c.op)
unfolding checksum_spelling
checksum_reads_seed true c = head_reads (take 8 (fenced true (checksum_spelling (checksum_fields c)))) c.flags.0 (operands.code_of c.op) c.listed.flags_fit (code_halves c.op) refl refl ∙ c.listed.seed_told
checksum_reads_seed false c = head_reads (take 8 (fenced false (checksum_spelling (checksum_fields c)))) c.flags.0 (operands.code_of c.op) c.listed.flags_fit (code_halves c.op) refl refl ∙ c.listed.seed_told

module _ (rs : List Span) (bases : List ℕ) (staging : ℕ) (count : length bases ≡ length rs) where
  goes : (a len : ℕ) → LiesInOne rs (span a len) → word_value bases staging (word_at rs a) ≡ relocated (relocation rs bases) a
  goes a len lies = sym (address_goes rs bases staging a count (first_has rs (span a len) lies))

  first_goes : (op : Op) (size : ℕ) → AllByRecursion (LiesInOne rs) (sources op size) → AllByRecursion (LiesInOne rs) (targets op size) → word_value bases staging (first_word rs op) ≡ first_field (relocated_op (relocated (relocation rs bases)) op)
  first_goes (Move src dst) size s t = goes src size s.0
  first_goes (Fill pattern dst) size s t = refl
  first_goes (Compare src src2 expected) size s t = goes src size s.0
  first_goes (ComparePattern src pattern expected) size s t = goes src size s.0
  first_goes (ApplyDelta delta dst record_size) size s t = goes delta record_size s.0
  first_goes (Dualcast src dst dst2) size s t = goes src size s.0

  second_goes : (op : Op) (size : ℕ) → AllByRecursion (LiesInOne rs) (sources op size) → AllByRecursion (LiesInOne rs) (targets op size) → word_value bases staging (second_word rs op) ≡ second_field (relocated_op (relocated (relocation rs bases)) op)
  second_goes (Move src dst) size s t = goes dst size t.0
  second_goes (Fill pattern dst) size s t = goes dst size t.0
  second_goes (Compare src src2 expected) size s t = goes src2 size s.1.0
  second_goes (ComparePattern src pattern expected) size s t = refl
  second_goes (ApplyDelta delta dst record_size) size s t = goes dst size t.0
  second_goes (Dualcast src dst dst2) size s t = goes dst size t.0

  own_goes : (op : Op) (size : ℕ) → AllByRecursion (LiesInOne rs) (targets op size) → FieldsFit op →
      to_le_bytes w64 (word_value bases staging (own_word rs op)) ++ replicate 16 0
      ≡ descriptor.own_bytes (relocated_op (relocated (relocation rs bases)) op) ++ replicate (24 - own_len (relocated_op (relocated (relocation rs bases)) op)) 0
  own_goes (Move src dst) size t fit = refl
  own_goes (Fill pattern dst) size t fit = refl
  own_goes (Compare src src2 expected) size t fit = ap (λ (xs : List ℕ). xs ++ replicate 16 0) (byte_word expected fit.2)
  own_goes (ComparePattern src pattern expected) size t fit = ap (λ (xs : List ℕ). xs ++ replicate 16 0) (byte_word expected fit.2)
  own_goes (ApplyDelta delta dst record_size) size t fit = ap (λ (xs : List ℕ). xs ++ replicate 16 0) (half_word record_size fit.2)
  own_goes (Dualcast src dst dst2) size t fit = ap (λ (n : ℕ). to_le_bytes w64 n ++ replicate 16 0) (goes dst2 size t.1.0)

  code_stays : (op : Op) → code_of op ≡ code_of (relocated_op (relocated (relocation rs bases)) op)
  code_stays (Move src dst) = refl
  code_stays (Fill pattern dst) = refl
  code_stays (Compare src src2 expected) = refl
  code_stays (ComparePattern src pattern expected) = refl
  code_stays (ApplyDelta delta dst record_size) = refl
  code_stays (Dualcast src dst dst2) = refl

  -- ---- checksums

  source_goes : (op : ChecksumOp) (size : ℕ) → AllByRecursion (LiesInOne rs) (data_spans.sources op size) → word_value bases staging (source_word rs op) ≡ source_field (relocated_checksum_op (relocated (relocation rs bases)) op)
  source_goes (Crc src seed) size s = goes src size s.0
  source_goes (CopyCrc src dst seed) size s = goes src size s.0

  destination_goes : (op : ChecksumOp) (size : ℕ) → AllByRecursion (LiesInOne rs) (data_spans.targets op size) →
      word_value bases staging (destination_word rs op) ≡ destination_field (relocated_checksum_op (relocated (relocation rs bases)) op)
  destination_goes (Crc src seed) size t = refl
  destination_goes (CopyCrc src dst seed) size t = goes dst size t.0

  checksum_code_stays : (op : ChecksumOp) → operands.code_of op ≡ operands.code_of (relocated_checksum_op (relocated (relocation rs bases)) op)
  checksum_code_stays (Crc src seed) = refl
  checksum_code_stays (CopyCrc src dst seed) = refl

  seed_moves : (op : ChecksumOp) → seed_of (relocated_checksum_op (relocated (relocation rs bases)) op) ≡ relocated_seed (relocated (relocation rs bases)) (seed_of op)
  seed_moves (Crc src seed) = refl
  seed_moves (CopyCrc src dst seed) = refl

  -- bytes 40 to 55 of a checksum whose head says whether its seed is read
  seed_goes : (head : List ℕ) (seed : Seed) → AllByRecursion (LiesInOne rs) (seed_spans seed) → SeedFits seed → reads_seed head ≡ is_in_memory seed →
      own_bytes head (seed_word rs seed) (word_value bases staging (seed_word rs seed))
      ≡ (to_le_bytes w32 (given_value (relocated_seed (relocated (relocation rs bases)) seed)) ++ replicate 4 0)
      ++ to_le_bytes w64 (seed_address (relocated_seed (relocated (relocation rs bases)) seed))
  seed_goes head (Given value) s fits told = ap (λ (xs : List ℕ). xs ++ replicate 8 0) (half_word value fits)
  seed_goes head (At address) s fits told = rw told (ap (λ (n : ℕ). replicate 8 0 ++ to_le_bytes w64 n) (goes address 4 s.0))

  -- ---- entries

  own_stays : (head : List ℕ) (op : Op) (value : ℕ) → reads_seed head ≡ false → own_bytes head (own_word rs op) value ≡ to_le_bytes w64 value ++ replicate 8 0
  own_stays head (Move src dst) value none = refl
  own_stays head (Fill pattern dst) value none = refl
  own_stays head (Compare src src2 expected) value none = refl
  own_stays head (ComparePattern src pattern expected) value none = refl
  own_stays head (ApplyDelta delta dst record_size) value none = refl
  own_stays head (Dualcast src dst dst2) value none = rw none refl

  -- bytes 40 to 63 of a descriptor, and 40 to 55 of a checksum, as the entry of a piece gives them
  abbrev own_of : Bool → Operation → List ℕ
  own_of fence o = own_bytes (take 8 (fenced fence (spelling_of o))) (words_of rs o).own (word_value bases staging (words_of rs o).own)

  -- the entry has the bytes of the operation, with the words' values in their places
  abbrev descriptor_bytes : Bool → Descriptor → List ℕ
  descriptor_bytes fence d =
      to_le_bytes w32 (owner_word (fields d)) ++ to_le_bytes w32 (operation_word (fields d)) ++ to_le_bytes w64 (word_value bases staging (word_at rs d.record_at))
      ++ to_le_bytes w64 (word_value bases staging (first_word rs d.op)) ++ to_le_bytes w64 (word_value bases staging (second_word rs d.op))
      ++ to_le_bytes w32 d.size ++ to_le_bytes w16 d.int_handle ++ replicate 2 0 ++ (own_of fence (operation.Descriptor d) ++ replicate 8 0)

  descriptor_given : (fence : Bool) (d : Descriptor) → filled_entry bases staging (entry_of rs fence (operation.Descriptor d)) ≡ fenced fence (descriptor_bytes fence d)
  unfolding spelling
  descriptor_given true d = refl
  descriptor_given false d = refl

  descriptor_filled : (fence : Bool) (d : Descriptor) → LieInOne rs (fields d) → filled_entry bases staging (entry_of rs fence (operation.Descriptor d)) ≡ fenced fence (spelling (relocated_fields (relocated (relocation rs bases)) (fields d)))
  unfolding spelling
  descriptor_filled fence d lie =
      let code = code_stays d.op in
      let at = goes d.record_at 32 lie.1.0 in
      let first = first_goes d.op d.size lie.0 lie.1.1 in
      let second = second_goes d.op d.size lie.0 lie.1.1 in
      let head : List ℕ = take 8 (fenced fence (spelling (fields d))) in
      let own = ap (λ (xs : List ℕ). xs ++ replicate 8 0) (own_stays head d.op (word_value bases staging (own_word rs d.op)) (descriptor_reads_none fence d)) ∙ own_goes d.op d.size lie.1.1 d.listed.op_fits in
      descriptor_given fence d ∙ ap (fenced fence) (λ i.
      to_le_bytes w32 (owner_word (fields d)) ++ to_le_bytes w32 (d.flags.0 + code i * 2 ^ 24) ++ to_le_bytes w64 (at i) ++ to_le_bytes w64 (first i)
      ++ to_le_bytes w64 (second i) ++ to_le_bytes w32 d.size ++ to_le_bytes w16 d.int_handle ++ replicate 2 0 ++ own i)

  abbrev checksum_bytes : Bool → Checksum → List ℕ
  checksum_bytes fence c =
      to_le_bytes w32 (checksum_words.owner_word (checksum_fields c)) ++ to_le_bytes w32 (checksum_words.operation_word (checksum_fields c)) ++ to_le_bytes w64 (word_value bases staging (word_at rs c.record_at))
      ++ to_le_bytes w64 (word_value bases staging (source_word rs c.op)) ++ to_le_bytes w64 (word_value bases staging (destination_word rs c.op))
      ++ to_le_bytes w32 c.size ++ to_le_bytes w16 c.int_handle ++ replicate 2 0 ++ own_of fence (operation.Checksum c) ++ replicate 8 0

  checksum_given : (fence : Bool) (c : Checksum) → filled_entry bases staging (entry_of rs fence (operation.Checksum c)) ≡ fenced fence (checksum_bytes fence c)
  unfolding checksum_spelling
  checksum_given true c = refl
  checksum_given false c = refl

  checksum_filled : (fence : Bool) (c : Checksum) → PieceLies rs (operation.Checksum c) →
      filled_entry bases staging (entry_of rs fence (operation.Checksum c)) ≡ fenced fence (checksum_spelling (relocated_checksum (relocated (relocation rs bases)) (checksum_fields c)))
  unfolding checksum_spelling
  checksum_filled fence c lie =
      let code = checksum_code_stays c.op in
      let at = goes c.record_at 32 lie.1.0 in
      let first = source_goes c.op c.size lie.0 in
      let second = destination_goes c.op c.size lie.1.1 in
      let head : List ℕ = take 8 (fenced fence (checksum_spelling (checksum_fields c))) in
      let own = seed_goes head (seed_of c.op) lie.0.1 (seed_fits c.op c.listed.op_fits) (checksum_reads_seed fence c)
      ∙ ap (λ (x : Seed). (to_le_bytes w32 (given_value x) ++ replicate 4 0) ++ to_le_bytes w64 (seed_address x)) (sym (seed_moves c.op)) in
      checksum_given fence c ∙ ap (fenced fence) (λ i.
      to_le_bytes w32 (checksum_words.owner_word (checksum_fields c)) ++ to_le_bytes w32 (c.flags.0 + code i * 2 ^ 24) ++ to_le_bytes w64 (at i) ++ to_le_bytes w64 (first i)
      ++ to_le_bytes w64 (second i) ++ to_le_bytes w32 c.size ++ to_le_bytes w16 c.int_handle ++ replicate 2 0 ++ own i ++ replicate 8 0)

  pub piece_filled : (fence : Bool) (o : Operation) → PieceLies rs o → filled_entry bases staging (entry_of rs fence o) ≡ fenced fence (relocated_spelling (relocated (relocation rs bases)) o)
  piece_filled fence (operation.Descriptor d) lie = descriptor_filled fence d lie
  piece_filled fence (operation.Checksum c) lie = checksum_filled fence c lie

-- the entry of a batch has the bytes of its descriptor
pub batch_filled : (bases : List ℕ) (staging total : ℕ) (place : Place) (group : Group) (to : ℕ → ℕ) (ps : List Operation) →
    filled_entry bases staging (batch_entry_of total place group ps)
    ≡ batch_spelling (take 4 (flat_map (relocated_spelling to) ps)) (staging + 64 * total + 32 * place.batches) (staging + 64 * place.batched) (length group)
unfolding spelling checksum_spelling batch_spelling
batch_filled bases staging total place group to [] =
    let sum : staging + (64 * total + 32 * place.batches) ≡ staging + 64 * total + 32 * place.batches = omega arith in
    λ i. batch_spelling [] (sum i) (staging + 64 * place.batched) (length group)
batch_filled bases staging total place group to (operation.Descriptor d ∷ ps) =
    let sum : staging + (64 * total + 32 * place.batches) ≡ staging + 64 * total + 32 * place.batches = omega arith in
    λ i. batch_spelling (take 4 (spelling (fields d))) (sum i) (staging + 64 * place.batched) (length group)
batch_filled bases staging total place group to (operation.Checksum c ∷ ps) =
    let sum : staging + (64 * total + 32 * place.batches) ≡ staging + 64 * total + 32 * place.batches = omega arith in
    λ i. batch_spelling (take 4 (checksum_spelling (checksum_fields c))) (sum i) (staging + 64 * place.batched) (length group)
