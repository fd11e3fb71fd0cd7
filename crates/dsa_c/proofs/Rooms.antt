-- How much room the bytes to submit need.
use Rattle.std.proofs.Common.{List, [], ◌∷◌, ℕ, ◌≡◌, ◌≤◌, ◌+◌, ◌-◌, ◌*◌, ◌/◌, ◌%◌, Bool, true, cond, Ok, inl, inr, length, get_or, map, ap, subst, sym, refl, ◌∙◌, arith}
use Rattle.std.specs.List.{sum_by}
use Rattle.std.specs.Int.{from_le_bytes, w32}
use Rattle.std.proofs.lemmas.List.{length-map, drop-set-lt}
use Rattle.std.proofs.lemmas.List.Sums.{sum_by-cons}
use Rattle.dsa_descriptor.specs.declared.descriptor.Descriptor.{Descriptor}
use Rattle.dsa_descriptor.specs.Fields.{Fields}
use Rattle.dsa_descriptor.specs.Descriptors.{fields}
use Rattle.dsa_descriptor.specs.Lists.{entries, list_spelling}
use Rattle.dsa_descriptor.specs.Spelling.{spelling}
use Rattle.dsa_descriptor.specs.Places.{u32_at}
use Rattle.dsa_descriptor.proofs.Rules.{spelling_stands}
use Rattle.dsa_descriptor.proofs.Listed.{chunks_spelt, length-list_spelling}
use Rattle.dsa_image.specs.Lines.{quotient_up}
use Rattle.dsa_settings.specs.Plan.{Plan, Group, piece_count}
use Rattle.dsa_settings.specs.Settings.{Limits}
use Rattle.dsa_settings.specs.Legal.{IsLegal}
use Rattle.dsa_emission.specs.Emission.{is_batch, batched, batch_count, batched_count, CanBeEmitted, portal_bytes, staging_bytes}
use Rattle.dsa_descriptor.specs.Fences.{unfenced, barriers_of, unfenced_list}
use Rattle.dsa_emission.specs.EmissionLaws.{StandsAtPlaces}
use Rattle.dsa_emission.proofs.AtPlaces.{emission_at_places}
use Rattle.dsa_emission.proofs.Places.{batch_yes, groups_within}
use Rattle.dsa_splitter.specs.Pieces.{all_pieces}
use Rattle.dsa_splitter.specs.Rules.{piece_total, IsSplit}
use Rattle.dsa_splitter.proofs.Walks.{length_all}
use Rattle.dsa_calls.specs.Fenced.{PiecesConflict, PlansFenced}
use Rattle.dsa_calls.specs.Lists.{IsListOf}
use Rattle.dsa_calls.specs.Planned.{Submission, CanBePlanned}
use Rattle.dsa_descriptor.proofs.Seen.{entries_unfenced}
use Rattle.dsa_calls.proofs.FencedPlans.{fenced_plan_is_least}
use Rattle.dsa_calls.proofs.Submissions.{pieces_can, can_emit}
use Rattle.dsa_c.specs.Counting.{pieces_of, HasRoom}

-- batches have two pieces at least, and no more than there are
record BatchesWithin (plan : Plan) : Type 0 where
  pieces : batched_count plan ≤ piece_count plan
  halves : 2 * batch_count plan ≤ batched_count plan

-- the same of one group
group_within : (g : Group) → (batched g ≤ length g) × (2 * cond (is_batch g) 1 0 ≤ batched g)
group_within [] = (omega arith, omega arith)
group_within (x ∷ []) = (omega arith, omega arith)
group_within (x ∷ (y ∷ g)) =
    let yes : is_batch (x ∷ (y ∷ g)) ≡ true = batch_yes (x ∷ (y ∷ g)) (omega arith) in
    let all : batched (x ∷ (y ∷ g)) ≡ length (x ∷ (y ∷ g)) = ap (λ (b : Bool). cond b (length (x ∷ (y ∷ g))) 0) yes in
    let one : ◌≡◌ {A = ℕ} (cond {A = ℕ} (is_batch (x ∷ (y ∷ g))) 1 0) 1 = ap (λ (b : Bool). cond {A = ℕ} b 1 0) yes in
    let long : 2 ≤ length (x ∷ (y ∷ g)) = omega arith in
    (omega (arith, all), omega (arith, all, one, long))

batches_within : (plan : Plan) → BatchesWithin plan
batches_within [] = record { pieces = omega arith; halves = omega arith }
batches_within (g ∷ rest) =
    let later = batches_within rest in
    let here = group_within g in
    let n = sum_by-cons length g rest in
    let b = sum_by-cons batched g rest in
    let c = sum_by-cons (λ (x : Group). cond (is_batch x) 1 0) g rest in
    record { pieces = omega (arith, n, b, here.0, later.pieces); halves = omega (arith, b, c, here.1, later.halves) }

-- the emission of a legal plan has that much room, whichever pieces conflict
emission_has_room : (C : ℕ → ℕ → Type 0) (s : Limits) (p : Submission) → CanBePlanned s (map fields p.pieces) → IsLegal C s.greatest_batch (length p.pieces) p.plan
    → p.portal ≡ portal_bytes s p.plan (map fields p.pieces) → p.staging ≡ staging_bytes p.plan (map fields p.pieces) → HasRoom p
emission_has_room C s p can legal portal_is staging_is =
    let legal_map : IsLegal C s.greatest_batch (length (map fields p.pieces)) p.plan =
    subst (λ (n : ℕ). IsLegal C s.greatest_batch n p.plan) (sym (length-map p.pieces fields)) legal in
    let emitted : CanBeEmitted s p.plan (map fields p.pieces) = can_emit C s (map fields p.pieces) p.plan can legal_map in
    let at : StandsAtPlaces s p.plan p.pieces p.portal p.staging = (emission_at_places s p.plan p.pieces p.portal p.staging emitted).0 (portal_is, staging_is) in
    let within = batches_within p.plan in
    record {
      portal = omega (arith, at.portal_length, groups_within s.greatest_batch p.plan emitted.shapes, legal.covers);
      staging = omega (arith, at.staging_length, within.pieces, within.halves, legal.covers);
    }

-- the pieces of operations that bytes spell can be planned, and there are as many as the sizes in the bytes say
pub record AreCounted (list : List ℕ) (s : Limits) (pieces : List Descriptor) : Type 0 where
  pub can : CanBePlanned s (map fields pieces)
  pub few : length pieces ≤ 65536
  pub count : sum_by (pieces_of s.greatest_transfer) (entries list) ≡ length pieces

-- the entries of a list have the sizes of its operations
sizes_stand : (ds : List Descriptor) (greatest : ℕ) → sum_by (pieces_of greatest) (map spelling (map fields ds)) ≡ piece_total greatest (map fields ds)
sizes_stand [] greatest = refl
sizes_stand (d ∷ ds) greatest =
    let size : u32_at 32 (spelling (fields d)) ≡ d.size = (spelling_stands (fields d) d.listed).size_there in
    let one : pieces_of greatest (spelling (fields d)) ≡ quotient_up d.size greatest = ap (λ (n : ℕ). quotient_up n greatest) size in
    sum_by-cons (pieces_of greatest) (spelling (fields d)) (map spelling (map fields ds))
    ∙ ap (λ (n : ℕ). n + sum_by (pieces_of greatest) (map spelling (map fields ds))) one
    ∙ ap (λ (n : ℕ). quotient_up d.size greatest + n) (sizes_stand ds greatest)
    ∙ sym (sum_by-cons (λ (f : Fields). quotient_up f.size greatest) (fields d) (map fields ds))

pieces_counted : (list : List ℕ) (s : Limits) (ds pieces : List Descriptor) → IsListOf list ds → IsSplit s.greatest_transfer s.staging (map fields ds)
    → map fields pieces ≡ all_pieces (map fields ds) s.greatest_transfer → AreCounted list s pieces
pieces_counted list s ds pieces listed split is =
    let can : CanBePlanned s (map fields pieces) = pieces_can s (map fields ds) (map fields pieces) listed.owner split is in
    let whole : length (list_spelling (map fields ds)) / 64 ≡ length ds = omega (arith, length-list_spelling ds) in
    let spelt : entries list ≡ map spelling (map fields ds) = rw (listed.spelled, whole, chunks_spelt) refl in
    record {
      can = can;
      few = omega (arith, can.few, length-map pieces fields);
      count =
          ap (sum_by (pieces_of s.greatest_transfer)) spelt ∙ sizes_stand ds s.greatest_transfer ∙ sym (length_all (map fields ds) s.greatest_transfer) ∙ ap length (sym is)
          ∙ length-map pieces fields;
    }

-- ---- of a planned list

-- without its fence an entry has the same size
size_unfenced : (e : List ℕ) → u32_at 32 (unfenced e) ≡ u32_at 32 e
unfolding u32_at
size_unfenced e = ap (from_le_bytes w32) (drop-set-lt 32 e 4 (get_or e 4 0 - get_or e 4 0 % 2) (omega arith))

sizes_unfenced : (greatest : ℕ) (es : List (List ℕ)) → sum_by (pieces_of greatest) (map unfenced es) ≡ sum_by (pieces_of greatest) es
sizes_unfenced greatest [] = refl
sizes_unfenced greatest (e ∷ es) =
    sum_by-cons (pieces_of greatest) (unfenced e) (map unfenced es)
    ∙ ap (λ (n : ℕ). n + sum_by (pieces_of greatest) (map unfenced es)) (ap (λ (size : ℕ). quotient_up size greatest) (size_unfenced e))
    ∙ ap (λ (n : ℕ). pieces_of greatest e + n) (sizes_unfenced greatest es)
    ∙ sym (sum_by-cons (pieces_of greatest) e es)

pub planned_counted : (list : List ℕ) (s : Limits) (p : Submission) → PlansFenced list s (Ok p) → AreCounted list s p.pieces
planned_counted list s p (inl (fault, not, first, bad)) = absurd (cc)
planned_counted list s p (inr (ds, listed, of)) =
    let here : AreCounted (unfenced_list list) s p.pieces = pieces_counted (unfenced_list list) s ds p.pieces listed of.split of.pieces_are in
    record {
      can = here.can;
      few = here.few;
      count =
          sym (sizes_unfenced s.greatest_transfer (entries list)) ∙ ap (sum_by (pieces_of s.greatest_transfer)) (sym (entries_unfenced list)) ∙ here.count;
    }

pub has_room : (list : List ℕ) (s : Limits) (p : Submission) → PlansFenced list s (Ok p) → HasRoom p
has_room list s p (inl (fault, not, first, bad)) = absurd (cc)
has_room list s p (inr (ds, listed, of)) =
    let can = (planned_counted list s p (inr (ds, listed, of))).can in
    let least = fenced_plan_is_least list s p (inr (ds, listed, of)) in
    emission_has_room (PiecesConflict s (map fields least.operations) (barriers_of list) (map fields p.pieces)) s p can least.least.legal of.of_pieces.portal_is of.of_pieces.staging_is
