-- What the entries of a portal tell: numbers and places.
use Rattle.std.proofs.Common.{ℕ, zero, suc, ◌≡◌, ◌+◌, ◌<◌, ◌≤◌, inl, inr, Bool, true, false, cond, List, [], ◌∷◌, length, take, refl, sym, ap, subst, count_by, sum_by, add-one, arith}
use Rattle.std.specs.Prelude.{slice_index_or}
use Rattle.std.proofs.lemmas.Bool.{cases_lt}
use Rattle.std.proofs.lemmas.List.{take_all}
use Rattle.std.proofs.lemmas.List.Sums.{sum_by_more, sum_by_more_le, count_by-le-length, sum_by-cons}
use Rattle.dsa_descriptor.specs.Places.{u32_at}
use Rattle.dsa_emission.specs.declared.place.Place.{Place}
use Rattle.dsa_emission.specs.EmissionFaults.{is_batch_entry, entry_size, entry_batched, place_before, after_entry, place_at_end}

-- the batches of the end are no more than the entries
pub few_batches : (es : List (List ℕ)) → (place_at_end es).batches ≤ length es
few_batches es = omega (arith, ap (count_by is_batch_entry) (take_all (length es) es (omega arith)), count_by-le-length is_batch_entry es)

-- no more pieces are in batches than there are
cond_le : (b : Bool) (n : ℕ) → cond b n 0 ≤ cond b n 1
cond_le true n = omega arith
cond_le false n = omega arith

sums_le : (es : List (List ℕ)) → sum_by entry_batched es ≤ sum_by entry_size es
sums_le [] = omega arith
sums_le (e ∷ es) = omega (arith, sums_le es, cond_le (is_batch_entry e) (u32_at 32 e), sum_by-cons entry_batched e es, sum_by-cons entry_size e es)

pub batched_within : (es : List (List ℕ)) → (place_at_end es).batched ≤ (place_at_end es).start
batched_within es = sums_le (take (length es) es)

-- the entry of a batch and those before it
pub batched_more : (es : List (List ℕ)) (n : ℕ) → n < length es → (place_before es n).batched + entry_batched (slice_index_or es n []) ≤ (place_at_end es).batched
batched_more es n lt =
    omega (arith, sum_by_more_le entry_batched es n [] lt, ap (sum_by entry_batched) (take_all (length es) es (omega arith)))

pub sized_more : (es : List (List ℕ)) (n : ℕ) → n < length es → (place_before es n).start + entry_size (slice_index_or es n []) ≤ (place_at_end es).start
sized_more es n lt =
    omega (arith, sum_by_more_le entry_size es n [] lt, ap (sum_by entry_size) (take_all (length es) es (omega arith)))

pub place_before-next : (es : List (List ℕ)) (n : ℕ) → n < length es → place_before es (n + 1) ≡ after_entry (place_before es n) (slice_index_or es n [])
place_before-next es n lt =
    let a = sum_by_more entry_size es n [] lt in
    let b = sum_by_more (λ (e : List ℕ). cond (is_batch_entry e) 1 0) es n [] lt in
    let c = sum_by_more entry_batched es n [] lt in
    λ i. record { start = a i; batches = b i; batched = c i }

-- where each entry of a batch names a piece, there are no more batches than pieces
batches_more : (b : Bool) (start batches batched count : ℕ) → (b ≡ true → 1 ≤ count) → batches ≤ start → batched ≤ start →
    (batched + cond b count 0 ≤ start + cond b count 1) × (batches + cond b 1 0 ≤ start + cond b count 1)
batches_more true start batches batched count two a c = (omega (arith, two refl), omega (arith, two refl))
batches_more false start batches batched count two a c = (omega arith, omega arith)

pub placed_more : (place after : Place) (e : List ℕ) → after ≡ after_entry place e → (is_batch_entry e ≡ true → 1 ≤ u32_at 32 e) → place.batches ≤ place.start → place.batched ≤ place.start →
    (after.batched ≤ after.start) × (after.batches ≤ after.start)
placed_more place after e next two a c =
    subst (λ (p : Place). (p.batched ≤ p.start) × (p.batches ≤ p.start)) (sym next) (batches_more (is_batch_entry e) place.start place.batches place.batched (u32_at 32 e) two a c)

-- an earlier entry has its pieces before a later one
pub start_before : (es : List (List ℕ)) (n m : ℕ) → n < m → m ≤ length es → (place_before es n).start + entry_size (slice_index_or es n []) ≤ (place_before es m).start
start_before es n zero lt le = absurd (omega arith)
start_before es n (suc m) lt le =
    let next : (place_before es (suc m)).start ≡ (place_before es m).start + entry_size (slice_index_or es m []) = rw add-one at (ap (λ (p : Place). p.start) (place_before-next es m (omega arith))) in
    elim (cases_lt n m) [
      | inl less ↦ omega (arith, next, start_before es n m less (omega arith))
      | inr most ↦ let same : m ≡ n = omega arith in omega (arith, next, ap (λ (k : ℕ). (place_before es k).start + entry_size (slice_index_or es k [])) same)
    ]
