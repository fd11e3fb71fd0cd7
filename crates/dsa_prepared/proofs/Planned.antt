-- What is filled of a prepared list is what planning the relocated list answers.
use Rattle.std.proofs.Common.{◌≡◌, ℕ, zero, suc, ◌+◌, ◌-◌, ◌*◌, ◌/◌, ◌%◌, ◌<◌, ◌≤◌, inl, inr, min, List, [], ◌∷◌, length, map, refl, sym, ap, subst, ◌∙◌, arith}
use Rattle.std.specs.Prelude.{Ok}
use Rattle.std.specs.List.{AllByRecursion}
use Rattle.std.proofs.lemmas.Bool.{cases_Bool}
use Rattle.std.proofs.lemmas.Grind.{div_ceil_times}
use Rattle.std.proofs.lemmas.List.{length-map}
use Rattle.dsa_descriptor.specs.declared.descriptor.Descriptor.{Descriptor}
use Rattle.dsa_descriptor.specs.declared.span.Span.{Span}
use Rattle.dsa_descriptor.specs.Descriptors.{fields}
use Rattle.dsa_descriptor.specs.Fields.{Fields}
use Rattle.dsa_descriptor.specs.Profile.{IsListed}
use Rattle.dsa_descriptor.specs.Spans.{ApartFrom, IsAddressable, span}
use Rattle.dsa_image.specs.Parts.{quotient_up}
use Rattle.dsa_operations.specs.declared.operation.Operation.TheVariants as operation
use Rattle.dsa_settings.specs.Plan.{Plan}
use Rattle.dsa_settings.specs.Settings.{Limits}
use Rattle.dsa_emission.specs.Emission.{portal_bytes, staging_bytes}
use Rattle.dsa_splitter.specs.Operations.{op_runs_down}
use Rattle.dsa_splitter.specs.Pieces.{piece_at, piece_count, pieces, all_pieces}
use Rattle.dsa_settings.specs.Staging.{staging_area}
use Rattle.dsa_splitter.specs.Rules.{AllMaySplit, MaySplit, piece_total}
use Rattle.dsa_splitter.proofs.PieceListed.{piece_listed}
use Rattle.dsa_splitter.proofs.PiecesWhole.{pieces_up, pieces_down}
use Rattle.dsa_splitter.proofs.Walks.{length_all}
use Rattle.dsa_calls.specs.Lists.{IsListOf}
use Rattle.dsa_calls.specs.Planned.{Submission}
use Rattle.dsa_calls.proofs.Unfenced.{no_fences_plan_alike, unfenced_unset}
use Rattle.dsa_prepared.specs.Relocated.{relocated_fields}
use Rattle.dsa_prepared.specs.Regions.{Region, base_span, new_span, relocated, AreDisjoint, LiesInOne, LieInOne, AllLieInOne, LiesWhole}
use Rattle.dsa_prepared.specs.Listed.{IsAlignedAt, PlansWithFencesOf}
use Rattle.dsa_prepared.specs.Submissions.{MayRelocate, staged_at, with_pieces}
use Rattle.dsa_prepared.proofs.Listed.{listed_relocates, plans_relocate}
use Rattle.dsa_prepared.proofs.PiecesLie.{all_join, all_first, pieces_lie}
use Rattle.dsa_prepared.proofs.ByRegions.{pieces_relocate}
use Rattle.dsa_prepared.proofs.Submissions.{may_split}
use Rattle.dsa_prepared.specs.Templates.{Template, template_of, filled_portal, filled_staging}
use Rattle.dsa_prepared.specs.Preparing.{AreRegions, IsPreparedOf, relocation}
use Rattle.dsa_prepared.specs.Sound.{IsSplitInto}
use Rattle.dsa_prepared.specs.Filling.{HasBases, CanFill, IsPlannedAnew}
use Rattle.dsa_prepared.specs.Laws.{FilledIsPlanned, PreparedWithoutFences}
use Rattle.dsa_prepared.proofs.Spans.{bases_are, disjoint, all_fit, all_clear}
use Rattle.dsa_prepared.proofs.AsOperations.{aligned_of, pieces_of, portal_alike, staging_alike, whole_of}
use Rattle.dsa_prepared.proofs.Whole.{filled_is_emission, aligned_bases_align}

-- ---- descriptors of listed fields

abbrev pub made : (f : Fields) → IsListed f → Descriptor
made f listed =
    record {
      pasid = f.pasid;
      privileged = f.privileged;
      flags = record { 0 = f.flags };
      record_at = f.record_at;
      size = f.size;
      int_handle = f.int_handle;
      op = f.op;
      listed = listed;
    }

all_made : (fs : List Fields) → AllByRecursion IsListed fs → (ds : List Descriptor) × (map fields ds ≡ fs)
all_made [] all = ([], refl)
all_made (f ∷ fs) all =
    let rest = all_made fs all.1 in
    (made f all.0 ∷ rest.0, ap (λ (gs : List Fields). f ∷ gs) rest.1)

-- ---- operations and their pieces

some_count : (s g c : ℕ) → 0 < s → s ≤ c * g → 0 < c
some_count s g zero some low = absurd (omega arith)
some_count s g (suc c) some low = omega arith

some_pieces : (s g : ℕ) → 0 < s → 0 < g → 0 < quotient_up s g
unfolding quotient_up
some_pieces s g some pos =
    let bounds = div_ceil_times s g pos in
    some_count s g (s / g + min 1 (s % g)) some bounds.0

-- the first part of a span lies where the span does
front_lies : (rs : List Span) (a len some : ℕ) → some ≤ len → LiesInOne rs (span a len) → LiesInOne rs (span a some)
front_lies [] a len some le lies = absurd lies
front_lies (r ∷ rs) a len some le (inl lies) = inl (lies.0, lies.1, omega (arith, le, lies.2))
front_lies (r ∷ rs) a len some le (inr lies) = inr (front_lies rs a len some le lies)

pub op_lies : (rs : List Span) (g : ℕ) (f : Fields) → 0 < g → IsListed f → LiesWhole rs g f → LieInOne rs f
op_lies rs g f pos listed whole =
    let count : 0 < piece_count f g = some_pieces f.size g listed.size_positive pos in
    (whole.from, (front_lies rs f.record_at (32 * piece_count f g) 32 (omega (arith, count)) whole.row, whole.into))

pub ops_lie : (rs : List Span) (g : ℕ) (ds : List Descriptor) → 0 < g → AllByRecursion (LiesWhole rs g) (map fields ds) → AllLieInOne rs (map fields ds)
ops_lie rs g [] pos whole = tt
ops_lie rs g (d ∷ ds) pos whole = (op_lies rs g (fields d) pos d.listed whole.0, ops_lie rs g ds pos whole.1)

one_split : (g : ℕ) (f : Fields) → 0 < g → IsListed f → MaySplit f g → AllByRecursion IsListed (pieces f g)
one_split g f pos listed may =
    let n : ℕ = piece_count f g in
    elim (cases_Bool (op_runs_down f.op f.size)) [
      | inl down ↦
          subst (λ (xs : List Fields). AllByRecursion IsListed xs) (sym (pieces_down f g down))
          (all_first IsListed (λ t. piece_at f g (n - suc t)) n (λ k lt. piece_listed f g (n - suc k) listed may pos (omega (arith, lt))))
      | inr up ↦
          subst (λ (xs : List Fields). AllByRecursion IsListed xs) (sym (pieces_up f g up))
          (all_first IsListed (piece_at f g) n (λ k lt. piece_listed f g k listed may pos lt))
    ]

module _ (rel : List Region) (g : ℕ) (pos : 0 < g) (apart : AreDisjoint rel) (fit : AllByRecursion (λ r. IsAddressable (new_span r)) rel) where
  -- the relocated operations are listed, and so are their pieces
  ops_listed : (ds : List Descriptor) → AllLieInOne (map base_span rel) (map fields ds) → AllByRecursion (IsAlignedAt (relocated rel)) (map fields ds) →
      AllByRecursion IsListed (map (relocated_fields (relocated rel)) (map fields ds))
  ops_listed [] lie aligned = tt
  ops_listed (d ∷ ds) lie aligned = (listed_relocates rel (fields d) apart fit d.listed lie.0 aligned.0, ops_listed ds lie.1 aligned.1)

  pieces_listed : (fs : List Fields) → AllByRecursion (LiesWhole (map base_span rel) g) fs → AllMaySplit g fs → AllByRecursion IsListed (map (relocated_fields (relocated rel)) fs) →
      AllByRecursion IsListed (all_pieces (map (relocated_fields (relocated rel)) fs) g)
  pieces_listed [] whole may listed = tt
  pieces_listed (f ∷ fs) whole may listed =
      let h : Fields → Fields = relocated_fields (relocated rel) in
      let here = one_split g (h f) pos listed.0 (may_split rel g f apart fit whole.0 (may 0 f refl)) in
      let rest = pieces_listed fs whole.1 (λ i e there. may (suc i) e there) listed.1 in
      all_join IsListed (pieces (h f) g) (all_pieces (map h fs) g) here rest

-- ---- the whole

-- the operations and their pieces at their new addresses, and the bytes that submit a plan of these
pub record IsMoved (rs : List Span) (bases : List ℕ) (staging : ℕ) (s : Limits) (ds pieces : List Descriptor) (plan : Plan) : Type 0 where
  pub operations : List Descriptor
  pub operations_are : map fields operations ≡ map (relocated_fields (relocated (relocation rs bases))) (map fields ds)
  pub moved : List Descriptor
  pub moved_are : map fields moved ≡ map (relocated_fields (relocated (relocation rs bases))) (map fields pieces)
  pub may : MayRelocate (relocation rs bases) staging s (map fields ds)
  pub portal_is : portal_bytes (staged_at staging s) plan (map fields moved) ≡ filled_portal (template_of rs (map operation.Descriptor ds) plan (map operation.Descriptor pieces)) bases staging
  pub staging_is : staging_bytes plan (map fields moved) ≡ filled_staging (template_of rs (map operation.Descriptor ds) plan (map operation.Descriptor pieces)) bases staging

pub moves : (rs : List Span) (bases : List ℕ) (staging : ℕ) (s : Limits) (ds pieces : List Descriptor) (plan : Plan) → 8 ≤ s.greatest_transfer → IsSplitInto s ds pieces → AreRegions rs →
    AllByRecursion (LiesWhole rs s.greatest_transfer) (map fields ds) → HasBases (template_of rs (map operation.Descriptor ds) plan (map operation.Descriptor pieces)) bases →
    CanFill (template_of rs (map operation.Descriptor ds) plan (map operation.Descriptor pieces)) bases staging → IsMoved rs bases staging s ds pieces plan
moves rs bases staging s ds pieces plan least is regions lies count can =
    let g : ℕ = s.greatest_transfer in
    let pos : 0 < g = omega (arith, least) in
    let ops : List Fields = map fields ds in
    let rel : List Region = relocation rs bases in
    let to : Fields → Fields = relocated_fields (relocated (relocation rs bases)) in
    let spans = bases_are rs bases count in
    let apart = disjoint rs bases count regions can.apart in
    let fit = all_fit rs bases count can.fit in
    let whole : AllByRecursion (LiesWhole (map base_span rel) g) ops = subst (λ (ss : List Span). AllByRecursion (LiesWhole ss g) ops) (sym spans) lies in
    let lie : AllLieInOne rs ops = ops_lie rs g ds pos lies in
    let lie' : AllLieInOne (map base_span rel) ops = subst (λ (ss : List Span). AllLieInOne ss ops) (sym spans) lie in
    let aligned = aligned_of (relocated rel) ds (aligned_bases_align rs bases (map operation.Descriptor ds) (map operation.Descriptor pieces) plan count (pieces_of rs ds lie) can.aligned can.tied) in
    let total : length (map operation.Descriptor pieces) ≡ piece_total g ops = omega (arith, length-map pieces operation.Descriptor, length-map pieces fields, ap length is.pieces_are, length_all ops g) in
    let clear : ApartFrom (staging_area staging (piece_total g ops)) (map new_span rel) =
    subst (λ (n : ℕ). ApartFrom (staging_area staging n) (map new_span rel)) total (all_clear rs bases (staging_area staging (length (map operation.Descriptor pieces))) count can.clear) in
    let may : MayRelocate rel staging s ops = record { apart = apart; addressable = fit; clear = clear; operations = whole } in
    let listed = ops_listed rel g pos apart fit ds lie' aligned in
    let listed' = subst (λ (fs : List Fields). AllByRecursion IsListed fs) (pieces_relocate rel g ops apart pos whole ∙ ap (map to) (sym is.pieces_are))
    (pieces_listed rel g pos apart fit ops whole is.split.few.may_split listed) in
    let new_ops = all_made (map to ops) listed in
    let new_pieces = all_made (map to (map fields pieces)) listed' in
    let pieces_in : AllLieInOne rs (map fields pieces) = subst (λ (fs : List Fields). AllLieInOne rs fs) (sym is.pieces_are) (pieces_lie rs g ops pos lies) in
    let bytes = filled_is_emission rs bases staging s (map operation.Descriptor ds) (map operation.Descriptor pieces) plan count (pieces_of rs pieces pieces_in) in
    record {
      operations = new_ops.0;
      operations_are = new_ops.1;
      moved = new_pieces.0;
      moved_are = new_pieces.1;
      may = may;
      portal_is = ap (λ (fs : List Fields). portal_bytes (staged_at staging s) plan fs) new_pieces.1 ∙ sym (portal_alike (relocated rel) (staged_at staging s) plan pieces) ∙ sym bytes.0;
      staging_is = ap (λ (fs : List Fields). staging_bytes plan fs) new_pieces.1 ∙ sym (staging_alike (relocated rel) plan pieces) ∙ sym bytes.1;
    }

abbrev Answer : List ℕ → List Span → List ℕ → ℕ → Limits → List Descriptor → Template → Type 0
Answer list rs bases staging s ds t =
    (p : Submission) × IsPlannedAnew rs bases staging s list ds p
    × (p.portal ≡ filled_portal t bases staging) × (p.staging ≡ filled_staging t bases staging)

of_template : (list : List ℕ) (s : Limits) (rs : List Span) (ds : List Descriptor) (t : Template) (bases : List ℕ) (staging : ℕ) (h : IsPreparedOf list s rs ds t) →
    HasBases (template_of rs (map operation.Descriptor ds) h.submission.plan (map operation.Descriptor h.submission.pieces)) bases →
    CanFill (template_of rs (map operation.Descriptor ds) h.submission.plan (map operation.Descriptor h.submission.pieces)) bases staging →
    Answer list rs bases staging s ds (template_of rs (map operation.Descriptor ds) h.submission.plan (map operation.Descriptor h.submission.pieces))
of_template list s rs ds t bases staging h count can =
    let least = h.kept.limits.least_transfer in
    let p : Submission = h.submission in
    let m = moves rs bases staging s ds p.pieces p.plan least (record { split = h.planned.split; pieces_are = h.planned.pieces_are }) h.kept.regions (whole_of rs s.greatest_transfer ds h.kept.lie) count can in
    let q : Submission = with_pieces (staged_at staging s) m.moved p in
    let plans = plans_relocate (relocation rs bases) staging s list ds m.operations m.moved p (omega (arith, least)) m.may h.listed h.planned m.operations_are m.moved_are in (
      q,
      subst (λ (fs : List Fields). PlansWithFencesOf list (staged_at staging s) fs q) m.operations_are plans,
      m.portal_is,
      m.staging_is,
    )

pub filled_is_planned : FilledIsPlanned
filled_is_planned list s rs ds t bases staging h =
    subst (λ (x : Template). HasBases x bases → CanFill x bases staging → Answer list rs bases staging s ds x) (sym h.kept.template) (of_template list s rs ds t bases staging h)

-- ---- without fences

pub prepared_without_fences : PreparedWithoutFences
prepared_without_fences list s rs ds t none h = (
  subst (λ (bytes : List ℕ). IsListOf bytes ds) (unfenced_unset list none) h.listed,
  (no_fences_plan_alike list s (Ok h.submission) none).0 (inr (ds, h.listed, h.planned)),
)
