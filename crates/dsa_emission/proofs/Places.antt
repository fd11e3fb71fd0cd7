-- The places of the groups of a plan, and what each adds to the portal and to the staging area.
use Rattle.std.proofs.Common.{ℕ, zero, suc, ◌≡◌, ◌+◌, ◌-◌, ◌*◌, ◌<◌, ◌≤◌, inl, inr, true, false, cond, List, [], ◌∷◌, ◌++◌, length, take, drop, get_or, Some, refl, sym, ap, ◌∙◌, slice_get, add-one, append_assoc, arith}
use Rattle.std.specs.Prelude.{map, slice_index_or, replicate}
use Rattle.std.specs.List.{flat_map}
use Rattle.std.proofs.lemmas.Bool.{cases_lt, lt-ltb, le-ltb}
use Rattle.std.proofs.lemmas.List.{append-nil, take_all, take-append-le, drop_more, get_or_default, take_rest, drop-map, take-map, replicate-append-replicate}
use Rattle.std.proofs.lemmas.List.Folds.{flat_map-map}
use Rattle.std.proofs.lemmas.List.Sums.{sum_by-cons, sum_by-take-le, sum_by_more}
use Rattle.std.proofs.lemmas.Option.{slice_get-get_or}
use Rattle.dsa_descriptor.specs.Fields.{Fields}
use Rattle.dsa_descriptor.specs.Spelling.{spelling}
use Rattle.dsa_emission.specs.declared.place.Place.{Place}
use Rattle.dsa_settings.specs.Plan.{Group, Plan, piece_count, start_of}
use Rattle.dsa_settings.specs.Shapes.{HasGroupShapes}
use Rattle.dsa_settings.specs.Settings.{Limits}
use Rattle.dsa_descriptor.specs.Fences.{fenced}
use Rattle.dsa_emission.specs.Emission.{is_batch, batched, batch_count, batched_count, place_of, place_after, batch_spelling, group_entry, fenced_pieces, group_staged, portal_of, staging_of, fenced_spelling, staged, joined}
use Rattle.dsa_settings.proofs.Plans.{start_of-next}

pub batch_yes : (g : Group) → 1 < length g → is_batch g ≡ true
batch_yes g lt = lt-ltb 1 (length g) lt

pub batch_no : (g : Group) → (1 < length g → ⊥) → is_batch g ≡ false
batch_no g few = le-ltb 1 (length g) (omega arith)

-- a group has no more batches than pieces, nor more pieces in batches
one_group : (g : Group) → (cond (is_batch g) 1 0 ≤ length g) × (batched g ≤ length g)
one_group g =
    elim (cases_lt 1 (length g)) [
      | inl more ↦ rw (batch_yes g more) (omega arith, omega arith)
      | inr few ↦ rw (batch_no g (λ lt. absurd (omega arith))) (omega arith, omega arith)
    ]

pub counts_within : (plan : Plan) → (batch_count plan ≤ piece_count plan) × (batched_count plan ≤ piece_count plan)
counts_within [] = (omega arith, omega arith)
counts_within (g ∷ rest) =
    let here = one_group g in
    let later = counts_within rest in (
      omega (arith, here.0, later.0, sum_by-cons (λ (x : Group). cond (is_batch x) 1 0) g rest, sum_by-cons length g rest),
      omega (arith, here.1, later.1, sum_by-cons batched g rest, sum_by-cons length g rest),
    )

-- of the place of each group
pub record IsPlaced (plan : Plan) (m : ℕ) (g : Group) : Type 0 where
  pub batches : batch_count (take m plan) ≤ start_of plan m
  pub batched_pieces : batched_count (take m plan) ≤ start_of plan m
  pub room : start_of plan m + length g ≤ piece_count plan

pub placed : (plan : Plan) (m : ℕ) (g : Group) → m < length plan → g ≡ get_or plan m g → IsPlaced plan m g
placed plan m g within is =
    let e : slice_get plan m ≡ Some g = slice_get-get_or plan m g within ∙ ap Some (sym is) in
    record {
      batches = (counts_within (take m plan)).0;
      batched_pieces = (counts_within (take m plan)).1;
      room = omega (arith, start_of-next plan m g e, sum_by-take-le length plan (m + 1));
    }

pub place_of-next : (plan : Plan) (m : ℕ) (g : Group) → m < length plan → g ≡ get_or plan m g → place_of plan (m + 1) ≡ place_after (place_of plan m) g
place_of-next plan m g within is =
    let a = sum_by_more length plan m g within ∙ ap (λ (x : Group). start_of plan m + length x) (sym is) in
    let b = sum_by_more (λ (x : Group). cond (is_batch x) 1 0) plan m g within ∙ ap (λ (x : Group). batch_count (take m plan) + cond (is_batch x) 1 0) (sym is) in
    let c = sum_by_more batched plan m g within ∙ ap (λ (x : Group). batched_count (take m plan) + batched x) (sym is) in
    λ i. record { start = a i; batches = b i; batched = c i }

pub total_is : (plan : Plan) (place : Place) → place ≡ place_of plan (length plan) → (place.batched ≡ batched_count plan) × (place.batches ≡ batch_count plan)
total_is plan place e = (
  ap (λ (p : Place). p.batched) e ∙ ap batched_count (take_all (length plan) plan (omega arith)),
  ap (λ (p : Place). p.batches) e ∙ ap batch_count (take_all (length plan) plan (omega arith)),
)

-- each group has a piece, so there are no more groups than pieces
pub groups_within : (greatest_batch : ℕ) (plan : Plan) → HasGroupShapes greatest_batch plan → length plan ≤ piece_count plan
groups_within greatest_batch [] shapes = omega arith
groups_within greatest_batch (g ∷ rest) shapes =
    let later : length rest ≤ piece_count rest = groups_within greatest_batch rest (λ m other e. shapes (suc m) other e) in
    omega (arith, sum_by-cons length g rest, (shapes 0 g refl).size.nonempty)

-- ---- pieces of any kind, by the bytes that spell each

module _ (P : Type 0) (spell : P → List ℕ) where
  pub group_batch : (s : Limits) (total : ℕ) (place : Place) (g : Group) (ps : List P) (p : P) → 1 < length g → 0 < length ps → length (spell p) ≡ 64 → p ≡ get_or ps 0 p →
      group_entry spell s total place g ps ≡ batch_spelling (take 4 (spell p)) (s.staging + 64 * total + 32 * place.batches) (s.staging + 64 * place.batched) (length g)
  group_batch s total place g [] p more some long is = absurd (omega arith)
  group_batch s total place g (x ∷ ps) p more some long is =
      let four : 4 ≤ length (spell x) = omega (arith, ap (λ (y : P). length (spell y)) is, long) in
      let first : take 4 (flat_map spell (x ∷ ps)) ≡ take 4 (spell p) =
      take-append-le 4 (spell x) (flat_map spell ps) four ∙ ap (λ (y : P). take 4 (spell y)) (sym is) in
      rw (batch_yes g more, first) refl

  -- the entry of a batch, as the code makes it
  pub batch_made : (s : Limits) (total : ℕ) (place : Place) (g : Group) (ps : List P) (p : P) (staging count : ℕ) (entry : List ℕ) → 1 < length g → 0 < length ps → length (spell p) ≡ 64 → p ≡ get_or ps 0 p →
      staging ≡ s.staging → count ≡ length g → entry ≡ batch_spelling (take 4 (spell p)) (staging + 64 * total + 32 * place.batches) (staging + 64 * place.batched) count → entry ≡ group_entry spell s total place g ps
  batch_made s total place g ps p staging count entry more some long is at size made =
      made ∙ (λ i. batch_spelling (take 4 (spell p)) (at i + 64 * total + 32 * place.batches) (at i + 64 * place.batched) (size i))
      ∙ sym (group_batch s total place g ps p more some long is)

  pub group_lone : (s : Limits) (total : ℕ) (place : Place) (g : Group) (ps : List P) (p : P) → length g ≡ 1 → place.start < length ps → p ≡ get_or ps place.start p →
      group_entry spell s total place g ps ≡ spell p
  group_lone s total place g ps p one within is =
      let rest : drop place.start ps ≡ get_or ps place.start p ∷ drop (place.start + 1) ps = drop_more ps place.start p within in
      let here : get_or ps place.start p ≡ p = sym is in
      rw (batch_no g (λ more. absurd (omega arith)), one, rest, here) (append-nil (spell p))

  fenced_more_suc : (g : Group) (ps : List P) (k : ℕ) (p : P) → k < length g → k < length ps →
      fenced_pieces spell (take (suc k) g) ps ≡ fenced_pieces spell (take k g) ps ++ fenced (get_or g k false) (spell (get_or ps k p))
  fenced_more_suc [] ps k p lt within = absurd (omega arith)
  fenced_more_suc (x ∷ g) [] k p lt within = absurd (omega arith)
  fenced_more_suc (x ∷ g) (q ∷ ps) zero p lt within = append-nil (fenced x (spell q))
  fenced_more_suc (x ∷ g) (q ∷ ps) (suc k) p lt within =
      ap (λ (bytes : List ℕ). fenced x (spell q) ++ bytes) (fenced_more_suc g ps k p (omega arith) (omega arith))
      ∙ sym (append_assoc (fenced x (spell q)) (fenced_pieces spell (take k g) ps) (fenced (get_or g k false) (spell (get_or ps k p))))

  -- the bytes of one piece more
  fenced_more : (g : Group) (ps : List P) (k : ℕ) (p : P) → k < length g → k < length ps → p ≡ get_or ps k p →
      fenced_pieces spell (take (k + 1) g) ps ≡ fenced_pieces spell (take k g) ps ++ fenced (get_or g k false) (spell p)
  fenced_more g ps k p lt within is =
      rw (add-one k) (fenced_more_suc g ps k p lt within
      ∙ ap (λ (q : P). fenced_pieces spell (take k g) ps ++ fenced (get_or g k false) (spell q)) (sym is))

  -- the same, as the code adds it
  pub batch_more : (g : Group) (ps : List P) (k : ℕ) (p : P) (before old entry new : List ℕ) → k < length g → k < length ps → p ≡ get_or ps k p → old ≡ before ++ fenced_pieces spell (take k g) ps →
      entry ≡ fenced (get_or g k false) (spell p) → new ≡ old ++ entry → new ≡ before ++ fenced_pieces spell (take (k + 1) g) ps
  batch_more g ps k p before old entry new lt within is so_far written added =
      added ∙ (λ i. so_far i ++ written i) ∙ append_assoc before (fenced_pieces spell (take k g) ps) (fenced (get_or g k false) (spell p))
      ∙ ap (λ (bytes : List ℕ). before ++ bytes) (sym (fenced_more g ps k p lt within is))

  pub batch_pieces : (place : Place) (g : Group) (ps : List P) → 1 < length g → group_staged spell place g ps ≡ fenced_pieces spell g (drop place.start ps)
  batch_pieces place g ps more = rw (batch_yes g more) refl

  pub lone_pieces : (place : Place) (g : Group) (ps : List P) → (1 < length g → ⊥) → group_staged spell place g ps ≡ []
  lone_pieces place g ps few = rw (batch_no g few) refl

  -- the pieces of a batch, as the code cuts them out
  pub batch_cut : (place : Place) (g : Group) (ps : List P) → 1 < length g →
      fenced_pieces spell g (take (length ps - place.start) (drop place.start ps)) ≡ group_staged spell place g ps
  batch_cut place g ps more = ap (fenced_pieces spell g) (take_rest ps place.start) ∙ sym (batch_pieces place g ps more)

-- ---- pieces that are descriptors

pub batch_staged : (place : Place) (g : Group) (ps : List Fields) → 1 < length g → staged place g ps ≡ fenced_spelling g (drop place.start ps)
batch_staged place g ps more = batch_pieces _ spelling place g ps more

pub lone_staged : (place : Place) (g : Group) (ps : List Fields) → (1 < length g → ⊥) → staged place g ps ≡ []
lone_staged place g ps few = lone_pieces _ spelling place g ps few

-- ---- pieces that are spelt by what they map to

module _ (P Q : Type 0) (spell : Q → List ℕ) (h : P → Q) where
  pub entry_map : (s : Limits) (total : ℕ) (place : Place) (g : Group) (ps : List P) → group_entry (λ p. spell (h p)) s total place g ps ≡ group_entry spell s total place g (map h ps)
  entry_map s total place g ps =
      let all : flat_map (λ p. spell (h p)) ps ≡ flat_map spell (map h ps) = sym (flat_map-map spell h ps) in
      let cut : take (length g) (drop place.start (map h ps)) ≡ map h (take (length g) (drop place.start ps)) =
      ap (take (length g)) (drop-map h place.start ps) ∙ take-map h (length g) (drop place.start ps) in
      let one : flat_map (λ p. spell (h p)) (take (length g) (drop place.start ps)) ≡ flat_map spell (take (length g) (drop place.start (map h ps))) =
      sym (flat_map-map spell h (take (length g) (drop place.start ps))) ∙ ap (flat_map spell) (sym cut) in
      λ i. cond (is_batch g) (batch_spelling (take 4 (all i)) (s.staging + 64 * total + 32 * place.batches) (s.staging + 64 * place.batched) (length g)) (one i)

  pub fenced_map : (g : Group) (ps : List P) → fenced_pieces (λ p. spell (h p)) g ps ≡ fenced_pieces spell g (map h ps)
  fenced_map [] ps = refl
  fenced_map (x ∷ g) [] = refl
  fenced_map (x ∷ g) (p ∷ ps) = ap (λ (bytes : List ℕ). fenced x (spell (h p)) ++ bytes) (fenced_map g ps)

  pub staged_map : (place : Place) (g : Group) (ps : List P) → group_staged (λ p. spell (h p)) place g ps ≡ group_staged spell place g (map h ps)
  staged_map place g ps =
      let cut : fenced_pieces (λ p. spell (h p)) g (drop place.start ps) ≡ fenced_pieces spell g (drop place.start (map h ps)) =
      fenced_map g (drop place.start ps) ∙ ap (fenced_pieces spell g) (sym (drop-map h place.start ps)) in
      λ i. cond (is_batch g) (cut i) []

  pub portal_map : (s : Limits) (plan : Plan) (ps : List P) → portal_of (λ p. spell (h p)) s plan ps ≡ portal_of spell s plan (map h ps)
  portal_map s plan ps = λ i. joined (λ number. entry_map s (batched_count plan) (place_of plan number) (slice_index_or plan number []) ps i) (length plan)

  pub staging_map : (plan : Plan) (ps : List P) → staging_of (λ p. spell (h p)) plan ps ≡ staging_of spell plan (map h ps)
  staging_map plan ps = λ i. joined (λ number. staged_map (place_of plan number) (slice_index_or plan number []) ps i) (length plan) ++ replicate (32 * batch_count plan) 0

-- one part more

pub joined_more : (part : ℕ → List ℕ) (m : ℕ) (old new more : List ℕ) → old ≡ joined part m → new ≡ old ++ more → more ≡ part m → new ≡ joined part (m + 1)
joined_more part m old new more so_far added is = rw (add-one m) (added ∙ rw (so_far, is) refl)

pub group_read : (plan : Plan) (m : ℕ) (g : Group) → m < length plan → g ≡ get_or plan m g → g ≡ slice_index_or plan m []
group_read plan m g within is = is ∙ get_or_default plan m g [] within

-- the place that the code has at a group
pub record IsPlacedAt (plan : Plan) (place : Place) (g : Group) : Type 0 where
  pub batches : place.batches ≤ place.start
  pub batched_pieces : place.batched ≤ place.start
  pub room : place.start + length g ≤ piece_count plan

pub placed_at : (plan : Plan) (m : ℕ) (place : Place) (g : Group) → place ≡ place_of plan m → m < length plan → g ≡ get_or plan m g → IsPlacedAt plan place g
placed_at plan m place g e within is =
    let here : IsPlaced plan m g = placed plan m g within is in
    rw e (record { batches = here.batches; batched_pieces = here.batched_pieces; room = here.room })

pub placed_after : (plan : Plan) (m : ℕ) (place after : Place) (g : Group) → place ≡ place_of plan m → m < length plan → g ≡ get_or plan m g → after ≡ place_after place g → after ≡ place_of plan (m + 1)
placed_after plan m place after g e within is next =
    next ∙ ap (λ (p : Place). place_after p g) e ∙ sym (place_of-next plan m g within is)

pub shaped_at : (greatest_batch : ℕ) (plan : Plan) (m : ℕ) (g : Group) → HasGroupShapes greatest_batch plan → m < length plan → g ≡ get_or plan m g → 0 < length g
shaped_at greatest_batch plan m g shapes within is = (shapes m g (slice_get-get_or plan m g within ∙ ap Some (sym is))).size.nonempty

module _ (P : Type 0) (spell : P → List ℕ) where
  -- the entry of a group, as the code makes it
  pub entry_is : (s : Limits) (plan : Plan) (ps : List P) (m total : ℕ) (place : Place) (g : Group) (entry : List ℕ) → total ≡ batched_count plan → place ≡ place_of plan m → m < length plan → g ≡ get_or plan m g →
      entry ≡ group_entry spell s total place g ps → entry ≡ group_entry spell s (batched_count plan) (place_of plan m) (slice_index_or plan m []) ps
  entry_is s plan ps m total place g entry t e within is made =
      made ∙ ap (λ (n : ℕ). group_entry spell s n place g ps) t ∙ ap (λ (p : Place). group_entry spell s (batched_count plan) p g ps) e
      ∙ ap (λ (h : Group). group_entry spell s (batched_count plan) (place_of plan m) h ps) (group_read plan m g within is)

  pub staged_is : (plan : Plan) (ps : List P) (m : ℕ) (place : Place) (g : Group) → place ≡ place_of plan m → m < length plan → g ≡ get_or plan m g →
      group_staged spell place g ps ≡ group_staged spell (place_of plan m) (slice_index_or plan m []) ps
  staged_is plan ps m place g e within is =
      ap (λ (p : Place). group_staged spell p g ps) e ∙ ap (λ (h : Group). group_staged spell (place_of plan m) h ps) (group_read plan m g within is)

pub zeros_more : (old new : List ℕ) (first : List ℕ) (m : ℕ) → old ≡ first ++ replicate (32 * m) 0 → new ≡ old ++ replicate 32 0 → new ≡ first ++ replicate (32 * (m + 1)) 0
zeros_more old new first m so_far added =
    let size : 32 * m + 32 ≡ 32 * (m + 1) = omega arith in
    added ∙ ap (λ (bytes : List ℕ). bytes ++ replicate 32 0) so_far ∙ append_assoc first (replicate (32 * m) 0) (replicate 32 0)
    ∙ ap (λ (bytes : List ℕ). first ++ bytes) (replicate-append-replicate (32 * m) 32 0 ∙ ap (λ (n : ℕ). replicate n 0) size)
