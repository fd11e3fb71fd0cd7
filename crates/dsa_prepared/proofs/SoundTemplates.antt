-- A template of pieces that lie in regions can be filled safely.
use Rattle.std.proofs.Common.{◌≡◌, ℕ, zero, suc, ◌≤◌, inl, inr, Bool, false, List, [], ◌∷◌, length, map, take, drop, sym, ap, ◌∙◌, add-one, arith}
use Rattle.std.specs.Prelude.{All, replicate, slice_index_or}
use Rattle.std.specs.List.{AllByRecursion}
use Rattle.std.proofs.lemmas.Bool.{cases_Bool, cases_lt}
use Rattle.std.proofs.lemmas.List.{length-append, length-map, length-take, length-replicate}
use Rattle.std.proofs.lemmas.List.Sums.{sum_by-take-le, sum_by_more}
use Rattle.dsa_descriptor.specs.declared.op.Op.{Op}
use Rattle.dsa_descriptor.specs.declared.op.Op.TheVariants.{Move, Fill, Compare, ComparePattern, ApplyDelta, Dualcast}
use Rattle.dsa_descriptor.specs.declared.span.Span.{Span}
use Rattle.dsa_descriptor.specs.Data.{sources, targets}
use Rattle.dsa_descriptor.specs.Pieces.{most_pieces}
use Rattle.dsa_descriptor.specs.Spans.{InSome, span}
use Rattle.dsa_emission.specs.declared.place.Place.{Place}
use Rattle.dsa_emission.specs.Emission.{is_batch, batch_count, batched_count, place_of}
use Rattle.dsa_emission.proofs.Places.{batch_yes, batch_no, counts_within}
use Rattle.dsa_operations.specs.declared.checksum_op.ChecksumOp.{ChecksumOp}
use Rattle.dsa_operations.specs.declared.checksum_op.ChecksumOp.TheVariants.{Crc, CopyCrc}
use Rattle.dsa_operations.specs.declared.checksum_op.Seed.{Seed}
use Rattle.dsa_operations.specs.declared.checksum_op.Seed.TheVariants.{Given, At}
use Rattle.dsa_operations.specs.declared.operation.Operation.{Operation}
use Rattle.dsa_operations.specs.declared.operation.Operation.TheVariants as operation
use Rattle.dsa_operations.specs.Data as checksum
use Rattle.dsa_operations.specs.Data.{seed_spans}
use Rattle.dsa_operations.specs.Operands.{seed_of}
use Rattle.dsa_settings.specs.Plan.{Group, Plan, piece_count}
use Rattle.dsa_prepared.specs.Regions.{AllPiecesLie, LiesInOne, PieceLies}
use Rattle.dsa_prepared.proofs.PiecesLie.{all_join}
use Rattle.dsa_prepared.specs.declared.entry.Entry.{Entry}
use Rattle.dsa_prepared.specs.Entries.{word_at, first_word, second_word, own_word, source_word, destination_word, seed_word, entry_of, fenced_entries, batch_entry_of}
use Rattle.dsa_prepared.specs.Sound.{IsWithin, AreWithin, IsTieWithin, IsSound}
use Rattle.dsa_prepared.specs.Templates.{gathered, group_entries, group_staged, portal_entries, staging_entries, op_ties, template_of, tied, ties_of}
use Rattle.dsa_prepared.proofs.Aligned.{length-units, units_are, ones_are}
use Rattle.dsa_prepared.proofs.Emitted.{all_drop, all_take}
use Rattle.dsa_prepared.proofs.Spans.{place_holds}
use Rattle.dsa_prepared.proofs.Words.{first_has}

-- ---- lists

all_of_each : {X : Type 0} (P : X → Type 0) (xs : List X) → AllByRecursion P xs → All P xs
all_of_each P [] all k d lt = absurd (omega (arith, lt))
all_of_each P (x ∷ xs) all zero d lt = all.0
all_of_each P (x ∷ xs) all (suc k) d lt = all_of_each P xs all.1 k d (omega (arith, lt))

all_gathered : {X : Type 0} (P : X → Type 0) (part : ℕ → List X) → ((k : ℕ) → AllByRecursion P (part k)) → (n : ℕ) → AllByRecursion P (gathered part n)
all_gathered P part each zero = tt
all_gathered P part each (suc n) = all_join P (gathered part n) (part n) (all_gathered P part each n) (each n)

-- parts that are no longer than groups are together no longer than the plan
length_gathered : (plan : Plan) (part : ℕ → List Entry) → ((k : ℕ) → length (part k) ≤ length (slice_index_or plan k [])) → (n : ℕ) → n ≤ length plan →
    length (gathered part n) ≤ piece_count (take n plan)
length_gathered plan part each zero le = omega arith
length_gathered plan part each (suc n) le =
    let before = length_gathered plan part each n (omega (arith, le)) in
    let more = sum_by_more length plan n [] (omega (arith, le)) in
    let step = ap (λ (k : ℕ). piece_count (take k plan)) (sym (add-one n)) in
    omega (arith, before, more, step, each n, length-append (gathered part n) (part n))

-- ---- entries

module _ (rs : List Span) where
  word_within : (a : ℕ) → InSome rs a → IsWithin rs (word_at rs a)
  word_within a here =
      let p = place_holds rs a here in
      (p.region, p.offset)

  at_within : (a len : ℕ) → LiesInOne rs (span a len) → IsWithin rs (word_at rs a)
  at_within a len lies = word_within a (first_has rs (span a len) lies)

  first_within : (op : Op) (size : ℕ) → AllByRecursion (LiesInOne rs) (sources op size) → AllByRecursion (LiesInOne rs) (targets op size) → IsWithin rs (first_word rs op)
  first_within (Move src dst) size s t = at_within src size s.0
  first_within (Fill pattern dst) size s t = tt
  first_within (Compare src src2 expected) size s t = at_within src size s.0
  first_within (ComparePattern src pattern expected) size s t = at_within src size s.0
  first_within (ApplyDelta delta dst record_size) size s t = at_within delta record_size s.0
  first_within (Dualcast src dst dst2) size s t = at_within src size s.0

  second_within : (op : Op) (size : ℕ) → AllByRecursion (LiesInOne rs) (sources op size) → AllByRecursion (LiesInOne rs) (targets op size) → IsWithin rs (second_word rs op)
  second_within (Move src dst) size s t = at_within dst size t.0
  second_within (Fill pattern dst) size s t = at_within dst size t.0
  second_within (Compare src src2 expected) size s t = at_within src2 size s.1.0
  second_within (ComparePattern src pattern expected) size s t = tt
  second_within (ApplyDelta delta dst record_size) size s t = at_within dst size t.0
  second_within (Dualcast src dst dst2) size s t = at_within dst size t.0

  own_within : (op : Op) (size : ℕ) → AllByRecursion (LiesInOne rs) (targets op size) → IsWithin rs (own_word rs op)
  own_within (Move src dst) size t = tt
  own_within (Fill pattern dst) size t = tt
  own_within (Compare src src2 expected) size t = tt
  own_within (ComparePattern src pattern expected) size t = tt
  own_within (ApplyDelta delta dst record_size) size t = tt
  own_within (Dualcast src dst dst2) size t = at_within dst2 size t.1.0

  source_within : (op : ChecksumOp) (size : ℕ) → AllByRecursion (LiesInOne rs) (checksum.sources op size) → IsWithin rs (source_word rs op)
  source_within (Crc src seed) size s = at_within src size s.0
  source_within (CopyCrc src dst seed) size s = at_within src size s.0

  destination_within : (op : ChecksumOp) (size : ℕ) → AllByRecursion (LiesInOne rs) (checksum.targets op size) → IsWithin rs (destination_word rs op)
  destination_within (Crc src seed) size t = tt
  destination_within (CopyCrc src dst seed) size t = at_within dst size t.0

  seed_within : (seed : Seed) → AllByRecursion (LiesInOne rs) (seed_spans seed) → IsWithin rs (seed_word rs seed)
  seed_within (Given value) s = tt
  seed_within (At address) s = at_within address 4 s.0

  entry_within : (fence : Bool) (o : Operation) → PieceLies rs o → AreWithin rs (entry_of rs fence o)
  entry_within fence (operation.Descriptor d) lie =
      record {
        completion = at_within d.record_at 32 lie.1.0;
        first = first_within d.op d.size lie.0 lie.1.1;
        second = second_within d.op d.size lie.0 lie.1.1;
        own = own_within d.op d.size lie.1.1;
      }
  entry_within fence (operation.Checksum c) lie =
      record {
        completion = at_within c.record_at 32 lie.1.0;
        first = source_within c.op c.size lie.0;
        second = destination_within c.op c.size lie.1.1;
        own = seed_within (seed_of c.op) lie.0.1;
      }

  lone_within : (fs : List Operation) → AllPiecesLie rs fs → AllByRecursion (AreWithin rs) (map (entry_of rs false) fs)
  lone_within [] lie = tt
  lone_within (f ∷ fs) lie = (entry_within false f lie.0, lone_within fs lie.1)

  fenced_within : (group : Group) (fs : List Operation) → AllPiecesLie rs fs → AllByRecursion (AreWithin rs) (fenced_entries rs group fs)
  fenced_within [] fs lie = tt
  fenced_within (fence ∷ group) [] lie = tt
  fenced_within (fence ∷ group) (f ∷ fs) lie = (entry_within fence f lie.0, fenced_within group fs lie.1)

  batch_within : (total : ℕ) (place : Place) (group : Group) (fs : List Operation) → total ≤ most_pieces → place.batches ≤ most_pieces → place.batched ≤ most_pieces →
      AreWithin rs (batch_entry_of total place group fs)
  batch_within total place group fs a b d = record { completion = omega (arith, a, b); first = omega (arith, d); second = tt; own = tt }

  group_within : (total : ℕ) (place : Place) (group : Group) (fs : List Operation) → total ≤ most_pieces → place.batches ≤ most_pieces → place.batched ≤ most_pieces → AllPiecesLie rs fs →
      AllByRecursion (AreWithin rs) (group_entries rs total place group fs)
  group_within total place group fs a b d lie =
      let batch = batch_within total place group fs a b d in
      let cut = all_take (PieceLies rs) (length group) (drop place.start fs) (all_drop (PieceLies rs) place.start fs lie) in
      let lone = lone_within (take (length group) (drop place.start fs)) cut in
      elim (cases_Bool (is_batch group)) [
        | inl more ↦ rw more (batch, tt)
        | inr few ↦ rw few lone
      ]

  staged_within : (place : Place) (group : Group) (fs : List Operation) → AllPiecesLie rs fs → AllByRecursion (AreWithin rs) (group_staged rs place group fs)
  staged_within place group fs lie =
      let fenced = fenced_within group (drop place.start fs) (all_drop (PieceLies rs) place.start fs lie) in
      elim (cases_Bool (is_batch group)) [
        | inl more ↦ rw more fenced
        | inr few ↦ rw few tt
      ]

  -- ---- how many

  length_fenced : (group : Group) (fs : List Operation) → length (fenced_entries rs group fs) ≤ length group
  length_fenced [] fs = omega arith
  length_fenced (fence ∷ group) [] = omega arith
  length_fenced (fence ∷ group) (f ∷ fs) = let rest = length_fenced group fs in omega (arith, rest)

  length_staged : (place : Place) (group : Group) (fs : List Operation) → length (group_staged rs place group fs) ≤ length group
  length_staged place group fs =
      let fenced = length_fenced group (drop place.start fs) in
      elim (cases_Bool (is_batch group)) [
        | inl more ↦ rw more fenced
        | inr few ↦ rw few (omega arith)
      ]

  length_portal : (total : ℕ) (place : Place) (group : Group) (fs : List Operation) → length (group_entries rs total place group fs) ≤ length group
  length_portal total place group fs =
      let cut : List Operation = take (length group) (drop place.start fs) in
      elim (cases_lt 1 (length group)) [
        | inl more ↦ rw (batch_yes group more) (omega (arith, more))
        | inr few ↦ rw (batch_no group (λ lt. absurd (omega (arith, few, lt)))) (omega (arith, length-map cut (entry_of rs false), length-take (length group) (drop place.start fs)))
      ]

  -- ---- ties

  op_ties_within : (op : Op) (size : ℕ) → AllByRecursion (LiesInOne rs) (targets op size) → AllByRecursion (IsTieWithin rs) (op_ties rs op)
  op_ties_within (Move src dst) size t = tt
  op_ties_within (Fill pattern dst) size t = tt
  op_ties_within (Compare src src2 expected) size t = tt
  op_ties_within (ComparePattern src pattern expected) size t = tt
  op_ties_within (ApplyDelta delta dst record_size) size t = tt
  op_ties_within (Dualcast src dst dst2) size t =
      let a = place_holds rs dst (first_has rs (span dst size) t.0) in
      let b = place_holds rs dst2 (first_has rs (span dst2 size) t.1.0) in
      (record { region = a.region; offset = a.offset; other = b.region; other_offset = b.offset }, tt)

  tied_within : (o : Operation) → PieceLies rs o → AllByRecursion (IsTieWithin rs) (tied rs o)
  tied_within (operation.Descriptor d) lie = op_ties_within d.op d.size lie.1.1
  tied_within (operation.Checksum c) lie = tt

  ties_within : (fs : List Operation) → AllPiecesLie rs fs → AllByRecursion (IsTieWithin rs) (ties_of rs fs)
  ties_within [] lie = tt
  ties_within (o ∷ os) lie = all_join (IsTieWithin rs) (tied rs o) (ties_of rs os) (tied_within o lie.0) (ties_within os lie.1)

  -- ---- all of it

  pub sound : (operations : List Operation) (plan : Plan) (pieces : List Operation) → AllPiecesLie rs operations → AllPiecesLie rs pieces → piece_count plan ≡ length pieces → length pieces ≤ most_pieces →
      IsSound (template_of rs operations plan pieces)
  sound operations plan pieces ops lie covers few =
      let ones : List ℕ = replicate (length rs) 1 in
      let counts = counts_within plan in
      let before : (k : ℕ) → (batch_count (take k plan) ≤ most_pieces) × (batched_count (take k plan) ≤ most_pieces) =
      λ k. let c = counts_within (take k plan) in let w = sum_by-take-le length plan k in (omega (arith, c.0, w, covers, few), omega (arith, c.1, w, covers, few)) in
      let portal = length_gathered plan (λ k. group_entries rs (batched_count plan) (place_of plan k) (slice_index_or plan k []) pieces)
      (λ k. length_portal (batched_count plan) (place_of plan k) (slice_index_or plan k []) pieces) (length plan) (omega arith) in
      let staging = length_gathered plan (λ k. group_staged rs (place_of plan k) (slice_index_or plan k []) pieces)
      (λ k. length_staged (place_of plan k) (slice_index_or plan k []) pieces) (length plan) (omega arith) in
      let whole = sum_by-take-le length plan (length plan) in
      record {
        unit_count = length-units rs ones operations ∙ length-replicate (length rs) 1;
        units = units_are rs ones operations (ones_are (length rs));
        ties = all_of_each (IsTieWithin rs) (ties_of rs operations) (ties_within operations ops);
        portal = all_of_each (AreWithin rs) (portal_entries rs plan pieces)
            (all_gathered (AreWithin rs) (λ k. group_entries rs (batched_count plan) (place_of plan k) (slice_index_or plan k []) pieces)
            (λ k. group_within (batched_count plan) (place_of plan k) (slice_index_or plan k []) pieces (omega (arith, counts.1, covers, few)) (before k).0 (before k).1 lie) (length plan));
        staging = all_of_each (AreWithin rs) (staging_entries rs plan pieces)
            (all_gathered (AreWithin rs) (λ k. group_staged rs (place_of plan k) (slice_index_or plan k []) pieces)
            (λ k. staged_within (place_of plan k) (slice_index_or plan k []) pieces lie) (length plan));
        few_entries = omega (arith, portal, whole, covers, few);
        few_staged = omega (arith, staging, whole, covers, few);
        few_batches = omega (arith, counts.0, covers, few);
        few = few;
      }

  -- ---- how many rows there are

  -- the portal and the staging area have an entry for each piece at most
  pub few_entries : (plan : Plan) (pieces : List Operation) → piece_count plan ≡ length pieces →
      (length (portal_entries rs plan pieces) ≤ length pieces) × (length (staging_entries rs plan pieces) ≤ length pieces)
  few_entries plan pieces covers =
      let portal = length_gathered plan (λ k. group_entries rs (batched_count plan) (place_of plan k) (slice_index_or plan k []) pieces)
      (λ k. length_portal (batched_count plan) (place_of plan k) (slice_index_or plan k []) pieces) (length plan) (omega arith) in
      let staging = length_gathered plan (λ k. group_staged rs (place_of plan k) (slice_index_or plan k []) pieces)
      (λ k. length_staged (place_of plan k) (slice_index_or plan k []) pieces) (length plan) (omega arith) in
      let whole = sum_by-take-le length plan (length plan) in
      (omega (arith, portal, whole, covers), omega (arith, staging, whole, covers))

  op_few_ties : (op : Op) → length (op_ties rs op) ≤ 1
  op_few_ties (Move src dst) = omega arith
  op_few_ties (Fill pattern dst) = omega arith
  op_few_ties (Compare src src2 expected) = omega arith
  op_few_ties (ComparePattern src pattern expected) = omega arith
  op_few_ties (ApplyDelta delta dst record_size) = omega arith
  op_few_ties (Dualcast src dst dst2) = omega arith

  few_tied : (o : Operation) → length (tied rs o) ≤ 1
  few_tied (operation.Descriptor d) = op_few_ties d.op
  few_tied (operation.Checksum c) = omega arith

  -- and each operation has a tie at most
  pub few_ties : (os : List Operation) → length (ties_of rs os) ≤ length os
  few_ties [] = omega arith
  few_ties (o ∷ os) = omega (arith, few_tied o, few_ties os, length-append (tied rs o) (ties_of rs os))
