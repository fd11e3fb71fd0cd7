-- What the entries of a portal name.
use Rattle.std.proofs.Common.{◌≡◌, ℕ, ◌+◌, ◌*◌, ◌^◌, ◌<◌, inl, inr, Bool, true, false, cond, List, [], ◌∷◌, get_or, length, take, eqb, refl, sym, ap, ◌∙◌, arith}
use Rattle.std.proofs.lemmas.Bool.{cases_lt, ne_eqb}
use Rattle.std.proofs.lemmas.List.{get_or_default}
use Rattle.std.proofs.lemmas.Nat.{from_le_bytes-to_le_bytes_8}
use Rattle.dsa_descriptor.specs.declared.span.Span.{Span}
use Rattle.dsa_descriptor.specs.Descriptors.{fields}
use Rattle.dsa_descriptor.specs.Fields.{Fields}
use Rattle.dsa_descriptor.specs.Places.{u32_at, u64_at}
use Rattle.dsa_descriptor.specs.Spans.{span}
use Rattle.dsa_descriptor.specs.Spelling.{spelling}
use Rattle.dsa_emission.specs.declared.place.Place.{Place}
use Rattle.dsa_emission.specs.Emission.{batch_spelling, batched_count, is_batch, place_of}
use Rattle.dsa_emission.specs.EmissionFaults.{is_batch_entry}
use Rattle.dsa_emission.proofs.Places.{batch_no, batch_yes, counts_within}
use Rattle.dsa_descriptor.proofs.Listed.{code_told}
use Rattle.dsa_emission.proofs.Told.{Fits, batch_code_told, batch_entry_is, count_told, fits_at, lone_entry_is}
use Rattle.dsa_settings.specs.Plan.{Group}
use Rattle.dsa_tracker.specs.Groups.{GroupsStageWhatEntriesName, group_at, group_staging, named_spans}
use Rattle.dsa_tracker.proofs.Grouped.{batch_within}

record_told : (f : Fields) (record_at list_at count : ℕ) → record_at < 2 ^ 64 → u64_at 8 (batch_spelling (take 4 (spelling f)) record_at list_at count) ≡ record_at
unfolding spelling batch_spelling u64_at
record_told f record_at list_at count lt = from_le_bytes-to_le_bytes_8 record_at lt

list_told : (f : Fields) (record_at list_at count : ℕ) → list_at < 2 ^ 64 → u64_at 16 (batch_spelling (take 4 (spelling f)) record_at list_at count) ≡ list_at
unfolding spelling batch_spelling u64_at
list_told f record_at list_at count lt = from_le_bytes-to_le_bytes_8 list_at lt

-- the spans of a batch
abbrev two : ℕ → ℕ → ℕ → List Span
two list_at count record_at = span list_at (64 * count) ∷ span record_at 32 ∷ []

-- if the entry is that of a batch or not, the spans
named_yes : (entry : List ℕ) → is_batch_entry entry ≡ true → named_spans entry ≡ two (u64_at 16 entry) (u32_at 32 entry) (u64_at 8 entry)
named_yes entry is = ap (λ (b : Bool). cond b (two (u64_at 16 entry) (u32_at 32 entry) (u64_at 8 entry)) []) is

named_no : (entry : List ℕ) → is_batch_entry entry ≡ false → named_spans entry ≡ []
named_no entry is = ap (λ (b : Bool). cond b (two (u64_at 16 entry) (u32_at 32 entry) (u64_at 8 entry)) []) is

staged_yes : (staging total : ℕ) (place : Place) (g : Group) → is_batch g ≡ true → group_staging staging total place g ≡ two (staging + 64 * place.batched) (length g) (staging + 64 * total + 32 * place.batches)
staged_yes staging total place g is = ap (λ (b : Bool). cond b (two (staging + 64 * place.batched) (length g) (staging + 64 * total + 32 * place.batches)) []) is

staged_no : (staging total : ℕ) (place : Place) (g : Group) → is_batch g ≡ false → group_staging staging total place g ≡ []
staged_no staging total place g is = ap (λ (b : Bool). cond b (two (staging + 64 * place.batched) (length g) (staging + 64 * total + 32 * place.batches)) []) is

pub groups_stage : GroupsStageWhatEntriesName
groups_stage s plan ds number can lt area =
    let fits : Fits (place_of plan number) (group_at plan number) ds = fits_at s plan ds can number lt in
    elim (cases_lt 1 (length (group_at plan number))) [
      | inl more ↦
          let (d, is) = batch_entry_is s (batched_count plan) (place_of plan number) (group_at plan number) ds fits more in
          let record_at : ℕ = s.staging + 64 * batched_count plan + 32 * (place_of plan number).batches in
          let list_at : ℕ = s.staging + 64 * (place_of plan number).batched in
          let entry : List ℕ = batch_spelling (take 4 (spelling (fields d))) record_at list_at (length (group_at plan number)) in
          let all = counts_within plan in
          let within = batch_within plan plan refl number (place_of plan number) (group_at plan number) refl lt (get_or_default plan number [] (group_at plan number) lt) more in
          ap named_spans is
          ∙ named_yes entry (ap (λ (n : ℕ). eqb n 1) (batch_code_told (fields d) record_at list_at (length (group_at plan number))))
          ∙ (λ i. two (list_told (fields d) record_at list_at (length (group_at plan number)) (omega (arith, area, can.covers, more, all.0, all.1, within.0, within.1)) i) (count_told (fields d) record_at list_at (length (group_at plan number)) (omega (arith, fits.room, fits.few)) i) (record_told (fields d) record_at list_at (length (group_at plan number)) (omega (arith, area, can.covers, more, all.0, all.1, within.0, within.1)) i))
          ∙ sym (staged_yes s.staging (batched_count plan) (place_of plan number) (group_at plan number) (batch_yes (group_at plan number) more))
      | inr few ↦
          let (d, is, at) = lone_entry_is s (batched_count plan) (place_of plan number) (group_at plan number) ds fits (omega (arith, fits.nonempty)) in
          ap named_spans is ∙ named_no (spelling (fields d)) (ne_eqb (get_or (spelling (fields d)) 7 0) 1 (code_told (fields d) d.listed))
          ∙ sym (staged_no s.staging (batched_count plan) (place_of plan number) (group_at plan number) (batch_no (group_at plan number) (λ more. absurd (omega (arith, few, more)))))
    ]
