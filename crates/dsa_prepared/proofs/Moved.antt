-- Operations at their relocated addresses.
use Rattle.std.proofs.Common.{◌≡◌, ℕ, ◌%◌, Bool, true, false, List, [], ◌∷◌, ◌++◌, length, map, suc, refl, sym, ap, subst, ◌∙◌}
use Rattle.std.proofs.lemmas.Bool.{true≢false}
use Rattle.std.specs.List.{AllByRecursion, flat_map}
use Rattle.dsa_descriptor.specs.declared.descriptor.Descriptor.{Descriptor}
use Rattle.dsa_descriptor.specs.declared.span.Span.{Span}
use Rattle.dsa_descriptor.specs.Data.{record_span}
use Rattle.dsa_descriptor.specs.Descriptors.{fields}
use Rattle.dsa_descriptor.specs.Spans.{IsAddressable, InSome}
use Rattle.dsa_ranges.specs.Hazards.{AreApart}
use Rattle.dsa_operations.specs.declared.checksum.Checksum.{Checksum}
use Rattle.dsa_operations.specs.declared.checksum_op.ChecksumOp.{ChecksumOp}
use Rattle.dsa_operations.specs.declared.checksum_op.ChecksumOp.TheVariants.{Crc, CopyCrc}
use Rattle.dsa_operations.specs.declared.checksum_op.Seed.{Seed}
use Rattle.dsa_operations.specs.declared.checksum_op.Seed.TheVariants.{Given, At}
use Rattle.dsa_operations.specs.declared.operation.Operation.{Operation}
use Rattle.dsa_operations.specs.declared.operation.Operation.TheVariants as operation
use Rattle.dsa_operations.specs.Checksums.{checksum_fields}
use Rattle.dsa_operations.specs.Data.{checksum_reads, checksum_writes, data_of, seed_spans, sources, targets}
use Rattle.dsa_operations.specs.Fields.{ChecksumFields}
use Rattle.dsa_operations.specs.Operands.{is_in_memory, seed_of}
use Rattle.dsa_operations.specs.Operations.{reads_of, size_of, spelling_of, writes_of}
use Rattle.dsa_operations.specs.Profile.{FieldsFit, IsListedChecksum, SeedFits}
use Rattle.dsa_prepared.specs.Relocated.{relocated_checksum, relocated_checksum_op, relocated_fields, relocated_seed, relocated_span, relocated_spelling, IsOneToOne, KeepsOffsets}
use Rattle.dsa_prepared.specs.Regions.{Region, base_span, new_span, relocated, AllPiecesLie, AreDisjoint, HasAddress, LiesInOne, PieceLies}
use Rattle.dsa_prepared.specs.Listed.{IsAlignedThere}
use Rattle.dsa_prepared.proofs.ByRegions.{spans_relocate}
use Rattle.dsa_prepared.proofs.Conflicts.{AllPaired, reads_relocate, writes_relocate}
use Rattle.dsa_prepared.proofs.Listed.{all_addressable, fits, listed_relocates}
use Rattle.dsa_prepared.proofs.PiecesLie.{all_join}
use Rattle.dsa_prepared.proofs.Planned.{made}
use Rattle.dsa_prepared.proofs.Regions.{regions_are_one_to_one, regions_keep_offsets}
use Rattle.dsa_prepared.proofs.RelocatedSpans.{some_come}
use Rattle.dsa_prepared.proofs.Submissions.{addressable, apart_moves}

-- ---- what a relocated checksum reads and writes

seed_spans_relocate : (to : ℕ → ℕ) (seed : Seed) → seed_spans (relocated_seed to seed) ≡ map (relocated_span to) (seed_spans seed)
seed_spans_relocate to (Given value) = refl
seed_spans_relocate to (At address) = refl

sources_relocate : (to : ℕ → ℕ) (op : ChecksumOp) (size : ℕ) → sources (relocated_checksum_op to op) size ≡ map (relocated_span to) (sources op size)
sources_relocate to (Crc src seed) size = ap (λ (ss : List Span). relocated_span to (record { first = src; len = size }) ∷ ss) (seed_spans_relocate to seed)
sources_relocate to (CopyCrc src dst seed) size = ap (λ (ss : List Span). relocated_span to (record { first = src; len = size }) ∷ ss) (seed_spans_relocate to seed)

targets_relocate : (to : ℕ → ℕ) (op : ChecksumOp) (size : ℕ) → targets (relocated_checksum_op to op) size ≡ map (relocated_span to) (targets op size)
targets_relocate to (Crc src seed) size = refl
targets_relocate to (CopyCrc src dst seed) size = refl

joined_relocate : (to : ℕ → ℕ) (ss ts : List Span) → map (relocated_span to) (ss ++ ts) ≡ map (relocated_span to) ss ++ map (relocated_span to) ts
joined_relocate to [] ts = refl
joined_relocate to (s ∷ ss) ts = ap (λ (xs : List Span). relocated_span to s ∷ xs) (joined_relocate to ss ts)

data_relocates : (to : ℕ → ℕ) (op : ChecksumOp) (size : ℕ) → data_of (relocated_checksum_op to op) size ≡ map (relocated_span to) (data_of op size)
data_relocates to op size = (λ i. sources_relocate to op size i ++ targets_relocate to op size i) ∙ sym (joined_relocate to (sources op size) (targets op size))

seed_stays : (to : ℕ → ℕ) (seed : Seed) → is_in_memory seed ≡ is_in_memory (relocated_seed to seed)
seed_stays to (Given value) = refl
seed_stays to (At address) = refl

seed_told_alike : (to : ℕ → ℕ) (op : ChecksumOp) → is_in_memory (seed_of op) ≡ is_in_memory (seed_of (relocated_checksum_op to op))
seed_told_alike to (Crc src seed) = seed_stays to seed
seed_told_alike to (CopyCrc src dst seed) = seed_stays to seed

-- lists of spans that were apart are apart where they go
lists_apart : (In : ℕ → Type 0) (to : ℕ → ℕ) (ss ts : List Span) → IsOneToOne In to → AllByRecursion (KeepsOffsets In to) ss → AllByRecursion (KeepsOffsets In to) ts → AreApart ss ts →
    AreApart (map (relocated_span to) ss) (map (relocated_span to) ts)
lists_apart In to ss ts apart keep keep' h b here there =
    let c = some_come In to ss b keep here in
    let d = some_come In to ts b keep' there in
    let same : d.0 ≡ c.0 = apart d.0 c.0 d.2 c.2 (d.3 ∙ sym c.3) in
    h c.0 c.1 (subst (λ (x : ℕ). InSome ts x) same d.1)

-- ---- a relocated checksum is listed

module _ (rs : List Region) (apart : AreDisjoint rs) (fit : AllByRecursion (λ r. IsAddressable (new_span r)) rs) where
  seed_fits : (seed : Seed) → AllByRecursion (LiesInOne (map base_span rs)) (seed_spans seed) → SeedFits seed → SeedFits (relocated_seed (relocated rs) seed)
  seed_fits (Given value) s h = h
  seed_fits (At address) s h = fits rs (record { first = address; len = 4 }) apart fit s.0

  op_fits : (op : ChecksumOp) (size : ℕ) → AllByRecursion (LiesInOne (map base_span rs)) (sources op size) → AllByRecursion (LiesInOne (map base_span rs)) (targets op size) → FieldsFit op →
      FieldsFit (relocated_checksum_op (relocated rs) op)
  op_fits (Crc src seed) size s t h = (fits rs (record { first = src; len = size }) apart fit s.0, seed_fits seed s.1 h.1)
  op_fits (CopyCrc src dst seed) size s t h =
      (fits rs (record { first = src; len = size }) apart fit s.0, fits rs (record { first = dst; len = size }) apart fit t.0, seed_fits seed s.1 h.2)

  checksum_listed : (f : ChecksumFields) → IsListedChecksum f → AllByRecursion (LiesInOne (map base_span rs)) (checksum_reads f) → AllByRecursion (LiesInOne (map base_span rs)) (checksum_writes f) →
      relocated rs f.record_at % 32 ≡ 0 → IsListedChecksum (relocated_checksum (relocated rs) f)
  checksum_listed f h from into aligned =
      let to : ℕ → ℕ = relocated rs in
      let all = all_join (LiesInOne (map base_span rs)) (sources f.op f.size) (targets f.op f.size) from into.1 in
      let all_data = sym (data_relocates to f.op f.size) in
      let one = regions_are_one_to_one rs apart in
      let regions = lists_apart (HasAddress rs) to (targets f.op f.size) (sources f.op f.size) one (spans_relocate rs (targets f.op f.size) apart into.1) (spans_relocate rs (sources f.op f.size) apart from) h.regions_apart in
      let far = apart_moves (HasAddress rs) to (record_span f.record_at) (data_of f.op f.size) one (regions_keep_offsets rs (record_span f.record_at) apart into.0) (spans_relocate rs (data_of f.op f.size) apart all) h.record_apart in
      record {
        pasid_fits = h.pasid_fits;
        flags_fit = h.flags_fit;
        record_at_fits = fits rs (record_span f.record_at) apart fit into.0;
        size_fits = h.size_fits;
        int_handle_fits = h.int_handle_fits;
        op_fits = op_fits f.op f.size from into.1 h.op_fits;
        seed_told = h.seed_told ∙ seed_told_alike to f.op;
        flags_listed = h.flags_listed;
        size_positive = h.size_positive;
        record_addressable = addressable rs (record_span f.record_at) apart fit into.0;
        data_addressable = subst (λ (ss : List Span). AllByRecursion IsAddressable ss) all_data (all_addressable rs apart fit (data_of f.op f.size) all);
        record_aligned = aligned;
        regions_apart = λ a here there. regions a (subst (λ (ss : List Span). InSome ss a) (targets_relocate to f.op f.size) here) (subst (λ (ss : List Span). InSome ss a) (sources_relocate to f.op f.size) there);
        record_apart = λ a here there. far a here (subst (λ (ss : List Span). InSome ss a) (data_relocates to f.op f.size) there);
      }

-- ---- the relocated operation

-- it is a descriptor
abbrev pub is_descriptor : Operation → Bool
is_descriptor (operation.Descriptor d) = true
is_descriptor (operation.Checksum c) = false

-- the second is the first at its relocated addresses
pub record IsMovedTo (to : ℕ → ℕ) (o p : Operation) : Type 0 where
  pub kind : is_descriptor p ≡ is_descriptor o
  pub spelling : spelling_of p ≡ relocated_spelling to o
  pub size : size_of p ≡ size_of o
  pub reads : reads_of p ≡ map (relocated_span to) (reads_of o)
  pub writes : writes_of p ≡ map (relocated_span to) (writes_of o)

abbrev made_checksum : (f : ChecksumFields) → IsListedChecksum f → Checksum
made_checksum f listed =
    record {
      pasid = f.pasid;
      privileged = f.privileged;
      flags = record { 0 = f.flags };
      record_at = f.record_at;
      size = f.size;
      int_handle = f.int_handle;
      op = f.op;
      listed = listed;
    }

module _ (rs : List Region) (apart : AreDisjoint rs) (fit : AllByRecursion (λ r. IsAddressable (new_span r)) rs) where
  moved : (o : Operation) → PieceLies (map base_span rs) o → IsAlignedThere (relocated rs) o → (p : Operation) × IsMovedTo (relocated rs) o p
  moved (operation.Descriptor d) lie aligned = (
    operation.Descriptor (made (relocated_fields (relocated rs) (fields d)) (listed_relocates rs (fields d) apart fit d.listed lie aligned)),
    record { kind = refl; spelling = refl; size = refl; reads = reads_relocate (relocated rs) (fields d); writes = writes_relocate (relocated rs) (fields d) },
  )
  moved (operation.Checksum c) lie aligned = (
    operation.Checksum (made_checksum (relocated_checksum (relocated rs) (checksum_fields c)) (checksum_listed rs apart fit (checksum_fields c) c.listed lie.0 lie.1 aligned)),
    record {
      kind = refl;
      spelling = refl;
      size = refl;
      reads = sources_relocate (relocated rs) c.op c.size;
      writes = ap (λ (ss : List Span). relocated_span (relocated rs) (record_span c.record_at) ∷ ss) (targets_relocate (relocated rs) c.op c.size);
    },
  )

  pub all_moved : (os : List Operation) → AllPiecesLie (map base_span rs) os → AllByRecursion (IsAlignedThere (relocated rs)) os → (ps : List Operation) × AllPaired (IsMovedTo (relocated rs)) os ps
  all_moved [] lie aligned = ([], tt)
  all_moved (o ∷ os) lie aligned =
      let here = moved o lie.0 aligned.0 in
      let rest = all_moved os lie.1 aligned.1 in
      (here.0 ∷ rest.0, (here.1, rest.1))

-- ---- lists of them

module _ (to : ℕ → ℕ) where
  pub moved_spelling : (os ps : List Operation) → AllPaired (IsMovedTo to) os ps → map spelling_of ps ≡ map (relocated_spelling to) os
  moved_spelling [] [] all = refl
  moved_spelling [] (p ∷ ps) all = absurd all
  moved_spelling (o ∷ os) [] all = absurd all
  moved_spelling (o ∷ os) (p ∷ ps) all = let rest = moved_spelling os ps all.1 in λ i. all.0.spelling i ∷ rest i

  pub moved_bytes : (os ps : List Operation) → AllPaired (IsMovedTo to) os ps → flat_map spelling_of ps ≡ flat_map (relocated_spelling to) os
  moved_bytes [] [] all = refl
  moved_bytes [] (p ∷ ps) all = absurd all
  moved_bytes (o ∷ os) [] all = absurd all
  moved_bytes (o ∷ os) (p ∷ ps) all = let rest = moved_bytes os ps all.1 in λ i. all.0.spelling i ++ rest i

  pub moved_sizes : (os ps : List Operation) → AllPaired (IsMovedTo to) os ps → map size_of ps ≡ map size_of os
  moved_sizes [] [] all = refl
  moved_sizes [] (p ∷ ps) all = absurd all
  moved_sizes (o ∷ os) [] all = absurd all
  moved_sizes (o ∷ os) (p ∷ ps) all = let rest = moved_sizes os ps all.1 in λ i. all.0.size i ∷ rest i

  pub moved_count : (os ps : List Operation) → AllPaired (IsMovedTo to) os ps → length ps ≡ length os
  moved_count [] [] all = refl
  moved_count [] (p ∷ ps) all = absurd all
  moved_count (o ∷ os) [] all = absurd all
  moved_count (o ∷ os) (p ∷ ps) all = ap suc (moved_count os ps all.1)

  -- those that go to descriptors are descriptors
  pub all_descriptors : (os : List Operation) (ds : List Descriptor) → AllPaired (IsMovedTo to) os (map operation.Descriptor ds) → (es : List Descriptor) × (os ≡ map operation.Descriptor es)
  all_descriptors [] [] all = ([], refl)
  all_descriptors [] (d ∷ ds) all = absurd all
  all_descriptors (o ∷ os) [] all = absurd all
  all_descriptors (operation.Descriptor e ∷ os) (d ∷ ds) all =
      let rest = all_descriptors os ds all.1 in
      (e ∷ rest.0, ap (λ (xs : List Operation). operation.Descriptor e ∷ xs) rest.1)
  all_descriptors (operation.Checksum c ∷ os) (d ∷ ds) all = absurd (true≢false all.0.kind)
