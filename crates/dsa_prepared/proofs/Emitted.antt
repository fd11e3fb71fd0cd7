-- A filled template has the bytes that submit the relocated pieces.
use Rattle.std.proofs.Common.{◌≡◌, ℕ, zero, suc, ◌*◌, inl, inr, false, List, [], ◌∷◌, ◌++◌, length, map, take, drop, refl, ap, ◌∙◌}
use Rattle.std.specs.Prelude.{replicate, slice_index_or}
use Rattle.std.specs.List.{AllByRecursion, flat_map}
use Rattle.std.proofs.lemmas.Bool.{cases_Bool}
use Rattle.std.proofs.lemmas.List.{append-nil}
use Rattle.std.proofs.lemmas.List.Concat.{flat_map-append}
use Rattle.dsa_descriptor.specs.declared.span.Span.{Span}
use Rattle.dsa_emission.specs.declared.place.Place.{Place}
use Rattle.dsa_emission.specs.Emission.{is_batch, batch_count, batched_count, place_of, group_entry, fenced_pieces, group_staged, joined, portal_of, staging_of}
use Rattle.dsa_operations.specs.declared.operation.Operation.{Operation}
use Rattle.dsa_settings.specs.Plan.{Group, Plan}
use Rattle.dsa_settings.specs.Settings.{Limits}
use Rattle.dsa_prepared.specs.Relocated.{relocated_spelling}
use Rattle.dsa_prepared.specs.Regions.{relocated, AllPiecesLie, PieceLies}
use Rattle.dsa_prepared.specs.Submissions.{staged_at}
use Rattle.dsa_prepared.specs.declared.entry.Entry.{Entry}
use Rattle.dsa_prepared.specs.Entries.{filled, filled_entry, entry_of, fenced_entries, batch_entry_of}
use Rattle.dsa_prepared.specs.Templates.{gathered, group_entries, portal_entries, staging_entries, group_staged as entries_staged}
use Rattle.dsa_prepared.specs.Preparing.{relocation}
use Rattle.dsa_prepared.proofs.Words.{piece_filled, batch_filled}

-- ---- lists

pub all_drop : {X : Type 0} (P : X → Type 0) (n : ℕ) (xs : List X) → AllByRecursion P xs → AllByRecursion P (drop n xs)
all_drop P zero xs all = all
all_drop P (suc n) [] all = tt
all_drop P (suc n) (x ∷ xs) all = all_drop P n xs all.1

pub all_take : {X : Type 0} (P : X → Type 0) (n : ℕ) (xs : List X) → AllByRecursion P xs → AllByRecursion P (take n xs)
all_take P zero xs all = tt
all_take P (suc n) [] all = tt
all_take P (suc n) (x ∷ xs) all = (all.0, all_take P n xs all.1)

joined_gathered : (show : Entry → List ℕ) (part : ℕ → List Entry) (other : ℕ → List ℕ) → ((k : ℕ) → flat_map show (part k) ≡ other k) → (n : ℕ) → flat_map show (gathered part n) ≡ joined other n
joined_gathered show part other same zero = refl
joined_gathered show part other same (suc n) =
    flat_map-append show (gathered part n) (part n) ∙ (λ i. joined_gathered show part other same n i ++ same n i)

-- ---- groups

module _ (rs : List Span) (bases : List ℕ) (staging : ℕ) (count : length bases ≡ length rs) where
  lone_filled : (ps : List Operation) → AllPiecesLie rs ps → filled bases staging (map (entry_of rs false) ps) ≡ flat_map (relocated_spelling (relocated (relocation rs bases))) ps
  lone_filled [] all = refl
  lone_filled (p ∷ ps) all =
      let here = piece_filled rs bases staging count false p all.0 in
      let rest = lone_filled ps all.1 in
      λ i. here i ++ rest i

  fenced_filled : (group : Group) (ps : List Operation) → AllPiecesLie rs ps → filled bases staging (fenced_entries rs group ps) ≡ fenced_pieces (relocated_spelling (relocated (relocation rs bases))) group ps
  fenced_filled [] ps all = refl
  fenced_filled (fence ∷ group) [] all = refl
  fenced_filled (fence ∷ group) (p ∷ ps) all =
      let here = piece_filled rs bases staging count fence p all.0 in
      let rest = fenced_filled group ps all.1 in
      λ i. here i ++ rest i

  group_filled : (s : Limits) (total : ℕ) (place : Place) (group : Group) (ps : List Operation) → AllPiecesLie rs ps →
      filled bases staging (group_entries rs total place group ps) ≡ group_entry (relocated_spelling (relocated (relocation rs bases))) (staged_at staging s) total place group ps
  group_filled s total place group ps all =
      let cut : List Operation = take (length group) (drop place.start ps) in
      let lone = lone_filled cut (all_take (PieceLies rs) (length group) (drop place.start ps) (all_drop (PieceLies rs) place.start ps all)) in
      let batch = append-nil (filled_entry bases staging (batch_entry_of total place group ps)) ∙ batch_filled bases staging total place group (relocated (relocation rs bases)) ps in
      elim (cases_Bool (is_batch group)) [
        | inl more ↦ rw more batch
        | inr few ↦ rw few lone
      ]

  staged_filled : (place : Place) (group : Group) (ps : List Operation) → AllPiecesLie rs ps →
      filled bases staging (entries_staged rs place group ps) ≡ group_staged (relocated_spelling (relocated (relocation rs bases))) place group ps
  staged_filled place group ps all =
      let fenced = fenced_filled group (drop place.start ps) (all_drop (PieceLies rs) place.start ps all) in
      elim (cases_Bool (is_batch group)) [
        | inl more ↦ rw more fenced
        | inr few ↦ rw few refl
      ]

  pub portal_filled : (s : Limits) (plan : Plan) (ps : List Operation) → AllPiecesLie rs ps →
      filled bases staging (portal_entries rs plan ps) ≡ portal_of (relocated_spelling (relocated (relocation rs bases))) (staged_at staging s) plan ps
  portal_filled s plan ps all =
      joined_gathered (filled_entry bases staging) (λ number. group_entries rs (batched_count plan) (place_of plan number) (slice_index_or plan number []) ps)
      (λ number. group_entry (relocated_spelling (relocated (relocation rs bases))) (staged_at staging s) (batched_count plan) (place_of plan number) (slice_index_or plan number []) ps)
      (λ k. group_filled s (batched_count plan) (place_of plan k) (slice_index_or plan k []) ps all) (length plan)

  pub area_filled : (plan : Plan) (ps : List Operation) → AllPiecesLie rs ps →
      filled bases staging (staging_entries rs plan ps) ++ replicate (32 * batch_count plan) 0 ≡ staging_of (relocated_spelling (relocated (relocation rs bases))) plan ps
  area_filled plan ps all =
      ap (λ (xs : List ℕ). xs ++ replicate (32 * batch_count plan) 0)
      (joined_gathered (filled_entry bases staging) (λ number. entries_staged rs (place_of plan number) (slice_index_or plan number []) ps)
      (λ number. group_staged (relocated_spelling (relocated (relocation rs bases))) (place_of plan number) (slice_index_or plan number []) ps)
      (λ k. staged_filled (place_of plan k) (slice_index_or plan k []) ps all) (length plan))
