-- A plan with the sizes that the entries of a portal tell.
use Rattle.std.proofs.Common.{ℕ, zero, suc, ◌≡◌, ◌<◌, Bool, true, false, cond, List, [], ◌∷◌, length, take, refl, sym, ap, ◌∙◌, sum_by, arith}
use Rattle.std.specs.Prelude.{slice_index_or}
use Rattle.std.proofs.lemmas.List.{take_all}
use Rattle.std.proofs.lemmas.List.Sums.{sum_by-cons}
use Rattle.dsa_descriptor.specs.Places.{u32_at}
use Rattle.dsa_emission.specs.declared.place.Place.{Place}
use Rattle.dsa_settings.specs.Plan.{Group, Plan, piece_count}
use Rattle.dsa_emission.specs.Emission.{is_batch, batched, batch_count, batched_count, place_of}
use Rattle.dsa_emission.specs.EmissionFaults.{is_batch_entry, entry_size, entry_batched, place_before, place_at_end}
use Rattle.dsa_emission.proofs.Told.{group_at}

pub record SameShape (es : List (List ℕ)) (plan : Plan) : Type 0 where
  pub count : length plan ≡ length es
  pub sizes : (k : ℕ) → k < length es → length (group_at plan k) ≡ entry_size (slice_index_or es k [])
  pub batches : (k : ℕ) → k < length es → is_batch (group_at plan k) ≡ is_batch_entry (slice_index_or es k [])

sums_same : (u : Group → ℕ) (v : List ℕ → ℕ) (plan : Plan) (es : List (List ℕ)) (n : ℕ) → length plan ≡ length es → ((k : ℕ) → k < length es → u (group_at plan k) ≡ v (slice_index_or es k [])) →
    sum_by u (take n plan) ≡ sum_by v (take n es)
sums_same u v plan es zero count same = refl
sums_same u v [] [] (suc n) count same = refl
sums_same u v [] (e ∷ es) (suc n) count same = absurd (omega arith)
sums_same u v (g ∷ plan) [] (suc n) count same = absurd (omega arith)
sums_same u v (g ∷ plan) (e ∷ es) (suc n) count same =
    let first : u g ≡ v e = same 0 (omega arith) in
    let later : sum_by u (take n plan) ≡ sum_by v (take n es) = sums_same u v plan es n (omega arith) (λ k lt. same (suc k) (omega arith)) in
    omega (arith, first, later, sum_by-cons u g (take n plan), sum_by-cons v e (take n es))

cond_same : (a b : Bool) (m count : ℕ) → a ≡ b → m ≡ cond b count 1 → cond a m 0 ≡ cond b count 0
cond_same a true m count e size = ap (λ (z : Bool). cond z m 0) e ∙ size
cond_same a false m count e size = ap (λ (z : Bool). cond z m 0) e

pub place_same : (es : List (List ℕ)) (plan : Plan) (n : ℕ) → SameShape es plan → place_of plan n ≡ place_before es n
place_same es plan n same =
    let a = sums_same length entry_size plan es n same.count same.sizes in
    let b = sums_same (λ (g : Group). cond (is_batch g) 1 0) (λ (e : List ℕ). cond (is_batch_entry e) 1 0) plan es n same.count (λ k lt. ap (λ (z : Bool). cond z 1 0) (same.batches k lt)) in
    let c = sums_same batched entry_batched plan es n same.count
    (λ k lt. cond_same (is_batch (group_at plan k)) (is_batch_entry (slice_index_or es k [])) (length (group_at plan k)) (u32_at 32 (slice_index_or es k [])) (same.batches k lt) (same.sizes k lt)) in
    λ i. record { start = a i; batches = b i; batched = c i }

-- the whole
pub record SameEnd (es : List (List ℕ)) (plan : Plan) : Type 0 where
  pub pieces : piece_count plan ≡ (place_at_end es).start
  pub batch_total : batch_count plan ≡ (place_at_end es).batches
  pub batched_total : batched_count plan ≡ (place_at_end es).batched

pub end_same : (es : List (List ℕ)) (plan : Plan) → SameShape es plan → SameEnd es plan
end_same es plan same =
    let all : take (length es) plan ≡ plan = take_all (length es) plan (omega (arith, same.count)) in
    let e : place_of plan (length es) ≡ place_at_end es = place_same es plan (length es) same in
    record {
      pieces = ap piece_count (sym all) ∙ ap (λ (p : Place). p.start) e;
      batch_total = ap batch_count (sym all) ∙ ap (λ (p : Place). p.batches) e;
      batched_total = ap batched_count (sym all) ∙ ap (λ (p : Place). p.batched) e;
    }
