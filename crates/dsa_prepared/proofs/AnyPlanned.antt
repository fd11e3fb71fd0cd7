-- What is filled of a list that may have checksums is what planning the relocated list answers.
use Rattle.std.proofs.Common.{◌≡◌, ℕ, zero, suc, ◌/◌, ◌%◌, ◌^◌, ◌<◌, inl, inr, Bool, Some, List, [], ◌∷◌, length, map, get_or, refl, sym, ap, subst, ◌∙◌, arith}
use Rattle.std.specs.Prelude.{◌==◌, slice_get}
use Rattle.std.specs.List.{AllByRecursion, flat_map}
use Rattle.dsa_descriptor.specs.declared.descriptor.Descriptor.{Descriptor}
use Rattle.dsa_descriptor.specs.declared.span.Span.{Span}
use Rattle.dsa_descriptor.specs.Fences.{after_first, barriers_of, set_marks, unfenced_list}
use Rattle.dsa_descriptor.specs.Lists.{AreOfOneOwner}
use Rattle.dsa_descriptor.specs.Places.{u32_at}
use Rattle.dsa_descriptor.specs.Spans.{ApartFrom, InSome}
use Rattle.dsa_descriptor.specs.Spelling.{spelling}
use Rattle.dsa_descriptor.proofs.Listed.{list_is, one_owner}
use Rattle.dsa_ranges.specs.Pieces.{TouchesAt}
use Rattle.dsa_settings.specs.Staging.{staging_area}
use Rattle.dsa_emission.specs.Emission.{portal_of, staging_of}
use Rattle.dsa_emission.proofs.Places.{portal_map, staging_map}
use Rattle.dsa_operations.specs.declared.operation.Operation.{Operation}
use Rattle.dsa_operations.specs.declared.operation.Operation.TheVariants as operation
use Rattle.dsa_operations.specs.Operations.{OperationConflictAt, operation_kind, reads_of, spelling_of, writes_of}
use Rattle.dsa_operations.specs.Spelling.{checksum_spelling}
use Rattle.dsa_settings.specs.Barriers.{WithBarriers}
use Rattle.dsa_settings.specs.Plan.{Plan}
use Rattle.dsa_settings.specs.Settings.{Limits, tariff_of}
use Rattle.dsa_search.specs.Chosen.{IsChosen}
use Rattle.dsa_calls.specs.Judge.{FitTransfer}
use Rattle.dsa_calls.specs.Lists.{IsListOf}
use Rattle.dsa_calls.proofs.SameChoice.{chosen_goes}
use Rattle.dsa_lists.specs.AnyLists.{IsOfDescriptors, counted}
use Rattle.dsa_lists.specs.Submissions.{AreReady, CanBeSubmitted, IsOperationSubmission, NoneHas, OperationSubmission, TouchesArea}
use Rattle.dsa_lists.proofs.AnyLists.{planned_any}
use Rattle.dsa_lists.proofs.Left.{no_list, spelt_alike, unmapped}
use Rattle.dsa_prepared.specs.Relocated.{relocated_spelling}
use Rattle.dsa_prepared.specs.Regions.{Region, base_span, new_span, relocated, AllPiecesLie, AreDisjoint, HasAddress, LiesInOne, PieceLies}
use Rattle.dsa_prepared.specs.Submissions.{staged_at}
use Rattle.dsa_prepared.specs.Templates.{Template, filled_portal, filled_staging, template_of}
use Rattle.dsa_prepared.specs.Preparing.{IsPreparedOfOperations, relocation}
use Rattle.dsa_prepared.specs.Filling.{CanFill, HasBases, IsAnyPlannedAnew}
use Rattle.dsa_prepared.specs.Laws.{FilledAnyIsPlanned}
use Rattle.dsa_prepared.proofs.AsOperations.{spelt_alike_there}
use Rattle.dsa_prepared.proofs.ByRegions.{spans_relocate}
use Rattle.dsa_prepared.proofs.Conflicts.{AllPaired, Goes, Keeps, conflicts_at_stay, paired_back}
use Rattle.dsa_prepared.proofs.Moved.{IsMovedTo, all_descriptors, all_moved, moved_bytes, moved_count, moved_sizes, moved_spelling}
use Rattle.dsa_prepared.proofs.Planned.{filled_is_planned}
use Rattle.dsa_prepared.proofs.Preparation.{as_they_lie}
use Rattle.dsa_prepared.proofs.Regions.{regions_are_one_to_one}
use Rattle.dsa_prepared.proofs.Spans.{all_clear, all_fit, bases_are, disjoint}
use Rattle.dsa_prepared.proofs.Submissions.{all_at, lands, with_within}
use Rattle.dsa_prepared.proofs.Whole.{aligned_bases_align, filled_is_emission}

-- ---- owners

-- an operation keeps its owner where it goes
owner_there : (to : ℕ → ℕ) (o : Operation) → u32_at 0 (relocated_spelling to o) ≡ u32_at 0 (spelling_of o)
unfolding spelling checksum_spelling u32_at
owner_there to (operation.Descriptor d) = refl
owner_there to (operation.Checksum c) = refl

owner_moves : (to : ℕ → ℕ) (o p : Operation) → IsMovedTo to o p → u32_at 0 (spelling_of p) ≡ u32_at 0 (spelling_of o)
owner_moves to o p moved = ap (u32_at 0) moved.spelling ∙ owner_there to o

paired_at : {X Y : Type 0} (R : X → Y → Type 0) (xs : List X) (ys : List Y) (i : ℕ) (x : X) (y : Y) → AllPaired R xs ys → i < length xs → R (get_or xs i x) (get_or ys i y)
paired_at R [] ys i x y all lt = absurd (omega (arith, lt))
paired_at R (a ∷ xs) [] i x y all lt = absurd all
paired_at R (a ∷ xs) (b ∷ ys) zero x y all lt = all.0
paired_at R (a ∷ xs) (b ∷ ys) (suc i) x y all lt = paired_at R xs ys i x y all.1 (omega (arith, lt))

owners_move : (to : ℕ → ℕ) (os ps : List Operation) → AllPaired (IsMovedTo to) os ps → AreOfOneOwner spelling_of os → AreOfOneOwner spelling_of ps
owners_move to os ps all owner i j d less within =
    let count = moved_count to os ps all in
    let a = owner_moves to (get_or os i d) (get_or ps i d) (paired_at (IsMovedTo to) os ps i d d all (omega (arith, less, within, count))) in
    let b = owner_moves to (get_or os j d) (get_or ps j d) (paired_at (IsMovedTo to) os ps j d d all (omega (arith, within, count))) in
    let h = owner i j d less (omega (arith, within, count)) in (
      (λ k. a k % 2 ^ 20) ∙ h.0 ∙ (λ k. sym b k % 2 ^ 20),
      (λ k. a k / 2 ^ 31 == 1) ∙ h.1 ∙ (λ k. sym b k / 2 ^ 31 == 1),
    )

-- ---- conflicts and the staging area

module _ (rel : List Region) (apart : AreDisjoint rel) where
  all_go : (os ps : List Operation) → AllPaired (IsMovedTo (relocated rel)) os ps →
      AllPaired (Goes Operation Operation reads_of writes_of reads_of writes_of (HasAddress rel) (relocated rel) (regions_are_one_to_one rel apart)) os ps
  all_go [] [] all = tt
  all_go [] (p ∷ ps) all = absurd all
  all_go (o ∷ os) [] all = absurd all
  all_go (o ∷ os) (p ∷ ps) all = ((all.0.reads, all.0.writes), all_go os ps all.1)

  all_keep : (os : List Operation) → AllPiecesLie (map base_span rel) os →
      AllByRecursion (Keeps Operation Operation reads_of writes_of reads_of writes_of (HasAddress rel) (relocated rel) (regions_are_one_to_one rel apart)) os
  all_keep [] lie = tt
  all_keep (o ∷ os) lie = ((spans_relocate rel (reads_of o) apart lie.0.0, spans_relocate rel (writes_of o) apart lie.0.1), all_keep os lie.1)

  lies_at : (os : List Operation) (o : Operation) (i : ℕ) → AllPiecesLie (map base_span rel) os → slice_get os i ≡ Some o →
      AllByRecursion (LiesInOne (map base_span rel)) (reads_of o) × AllByRecursion (LiesInOne (map base_span rel)) (writes_of o)
  lies_at os o i lie there = all_at (PieceLies (map base_span rel)) os i o lie there

  touched_new : (o p : Operation) (b : ℕ) → IsMovedTo (relocated rel) o p → AllByRecursion (LiesInOne (map base_span rel)) (reads_of o) → AllByRecursion (LiesInOne (map base_span rel)) (writes_of o) →
      TouchesAt operation_kind p b → InSome (map new_span rel) b
  touched_new o p b moved from into (inl reads) = lands rel (reads_of o) b apart from (subst (λ (ss : List Span). InSome ss b) moved.reads reads)
  touched_new o p b moved from into (inr writes) = lands rel (writes_of o) b apart into (subst (λ (ss : List Span). InSome ss b) moved.writes writes)

  clear_there : (area : Span) (os ps : List Operation) → AllPaired (IsMovedTo (relocated rel)) os ps → AllPiecesLie (map base_span rel) os → ApartFrom area (map new_span rel) → NoneHas (TouchesArea area) ps
  clear_there area os ps all lie clear i p there (b, inside, touch) =
      let o = paired_back (IsMovedTo (relocated rel)) os ps i p all there in
      let lies = lies_at os o.0 i lie o.1 in
      clear b inside (touched_new o.0 p b o.2 lies.0 lies.1 touch)

-- ---- the submission

abbrev submission_at : Limits → List Operation → OperationSubmission → OperationSubmission
submission_at s ps p =
    record {
      pieces = p.pieces;
      plan = p.plan;
      certificate = p.certificate;
      cost = p.cost;
      portal = portal_of spelling_of s p.plan ps;
      staging = staging_of spelling_of p.plan ps;
    }

module _ (rel : List Region) (staging : ℕ) (s : Limits) (os ps : List Operation) (apart : AreDisjoint rel) (all : AllPaired (IsMovedTo (relocated rel)) os ps) (lie : AllPiecesLie (map base_span rel) os) where
  can_there : ApartFrom (staging_area staging (length os)) (map new_span rel) → CanBeSubmitted s os → CanBeSubmitted (staged_at staging s) ps
  can_there clear can =
      let count = moved_count (relocated rel) os ps all in
      record {
        few = omega (arith, count, can.few);
        short = subst (λ (sizes : List ℕ). FitTransfer s.greatest_transfer sizes) (sym (moved_sizes (relocated rel) os ps all)) can.short;
        clear = subst (λ (n : ℕ). NoneHas (TouchesArea (staging_area staging n)) ps) (sym count) (clear_there rel apart (staging_area staging (length os)) os ps all lie clear);
      }

  submitted_there : (marks : List Bool) (p : OperationSubmission) → ApartFrom (staging_area staging (length os)) (map new_span rel) → IsOperationSubmission s os marks p →
      IsOperationSubmission (staged_at staging s) ps marks (submission_at (staged_at staging s) ps p)
  submitted_there marks p clear sub =
      let count = moved_count (relocated rel) os ps all in
      let C = OperationConflictAt os in
      let D = OperationConflictAt ps in
      let stay = conflicts_at_stay Operation Operation reads_of writes_of reads_of writes_of (HasAddress rel) (relocated rel) (regions_are_one_to_one rel apart) os ps (all_go rel apart os ps all) (all_keep rel apart os lie) in
      let chosen = chosen_goes (WithBarriers C marks) (WithBarriers D marks) (with_within C D marks (λ a b. (stay a b).0)) (with_within D C marks (λ a b. (stay a b).1))
      s.greatest_batch (tariff_of s) (length os) p.certificate.prices p.certificate.pairs p.plan sub.chosen in
      record {
        can = can_there clear sub.can;
        pieces_are = sub.pieces_are ∙ sym count;
        chosen = subst (λ (n : ℕ). IsChosen (WithBarriers D marks) s.greatest_batch (tariff_of s) n p.certificate.prices p.certificate.pairs p.plan) (sym count) chosen;
        version_is = sub.version_is;
        cost_is = sub.cost_is;
        portal_is = refl;
        staging_is = refl;
      }

-- ---- the bytes

abbrev as_they_are : List ℕ → List ℕ
as_they_are bytes = bytes

portal_there : (to : ℕ → ℕ) (s : Limits) (plan : Plan) (os ps : List Operation) → AllPaired (IsMovedTo to) os ps → portal_of spelling_of s plan ps ≡ portal_of (relocated_spelling to) s plan os
portal_there to s plan os ps all =
    portal_map _ _ as_they_are spelling_of s plan ps ∙ ap (λ (all_bytes : List (List ℕ)). portal_of as_they_are s plan all_bytes) (moved_spelling to os ps all)
    ∙ sym (portal_map _ _ as_they_are (relocated_spelling to) s plan os)

staging_there : (to : ℕ → ℕ) (plan : Plan) (os ps : List Operation) → AllPaired (IsMovedTo to) os ps → staging_of spelling_of plan ps ≡ staging_of (relocated_spelling to) plan os
staging_there to plan os ps all =
    staging_map _ _ as_they_are spelling_of plan ps ∙ ap (λ (all_bytes : List (List ℕ)). staging_of as_they_are plan all_bytes) (moved_spelling to os ps all)
    ∙ sym (staging_map _ _ as_they_are (relocated_spelling to) plan os)

-- operations that are all descriptors are a list of them
listed_as : (list : List ℕ) (s : Limits) (os : List Operation) (es : List Descriptor) → AreReady list s os → os ≡ map operation.Descriptor es → IsListOf (unfenced_list list) es
listed_as list s os es ready is =
    record {
      spelled = ready.spelt ∙ ap (flat_map spelling_of) is ∙ spelt_alike es ∙ sym (list_is es);
      owner = one_owner es (unmapped es (subst (λ (xs : List Operation). AreOfOneOwner spelling_of xs) is ready.owner));
    }

abbrev Answer : List ℕ → List Span → List ℕ → ℕ → Limits → List Operation → Template → Type 0
Answer list rs bases staging s os t =
    (p : OperationSubmission) × IsAnyPlannedAnew rs bases staging s list os p
    × (p.portal ≡ filled_portal t bases staging) × (p.staging ≡ filled_staging t bases staging)

of_operations : (list : List ℕ) (s : Limits) (rs : List Span) (os : List Operation) (t : Template) (bases : List ℕ) (staging : ℕ) → ¬ IsOfDescriptors list → (h : IsPreparedOfOperations list s rs os t) →
    HasBases (template_of rs os h.submission.plan os) bases → CanFill (template_of rs os h.submission.plan os) bases staging → Answer list rs bases staging s os (template_of rs os h.submission.plan os)
of_operations list s rs os t bases staging none h count can =
    let pos : 0 < s.greatest_transfer = omega (arith, h.kept.limits.least_transfer) in
    let rel : List Region = relocation rs bases in
    let to : ℕ → ℕ = relocated (relocation rs bases) in
    let p : OperationSubmission = h.submission in
    let there : Limits = staged_at staging s in
    let spans = bases_are rs bases count in
    let apart = disjoint rs bases count h.kept.regions can.apart in
    let fit = all_fit rs bases count can.fit in
    let lie : AllPiecesLie rs os = as_they_lie rs s.greatest_transfer os pos h.kept.lie in
    let lie' : AllPiecesLie (map base_span rel) os = subst (λ (ss : List Span). AllPiecesLie ss os) (sym spans) lie in
    let aligned = aligned_bases_align rs bases os os p.plan count lie can.aligned can.tied in
    let moved = all_moved rel apart fit os lie' aligned in
    let clear = all_clear rs bases (staging_area staging (length os)) count can.clear in
    let bytes_are = filled_is_emission rs bases staging s os os p.plan count lie in
    let sub = submitted_there rel staging s os moved.0 apart moved.1 lie' (barriers_of list) p clear h.planned in
    let no_one : (ds : List Descriptor) → moved.0 ≡ map operation.Descriptor ds → ⊥ =
    λ ds is.
    let es = all_descriptors to os ds (subst (λ (xs : List Operation). AllPaired (IsMovedTo to) os xs) is moved.1) in
    none (es.0, listed_as list s os es.0 h.ready es.1) in (
      submission_at there moved.0 p,
      λ bytes b.
          let spelt : unfenced_list bytes ≡ flat_map spelling_of moved.0 = b.spelt ∙ sym (moved_bytes to os moved.0 moved.1) in
          let marks : barriers_of list ≡ barriers_of bytes = sym (ap (λ (fences : List Bool). set_marks (after_first fences)) b.fences) in
          let here = subst (λ (of : List Bool). IsOperationSubmission there moved.0 of (submission_at there moved.0 p)) marks sub in
          inr (no_list bytes moved.0 spelt no_one, inr (moved.0, spelt, owners_move to os moved.0 moved.1 h.ready.owner, here)),
      portal_there to there p.plan os moved.0 moved.1 ∙ sym bytes_are.0,
      staging_there to p.plan os moved.0 moved.1 ∙ sym bytes_are.1,
    )

pub filled_any_is_planned : FilledAnyIsPlanned
filled_any_is_planned list s rs os t bases staging (inl (of, (ds, h, is))) count can =
    let f = filled_is_planned list s rs ds t bases staging h count can in
    let to : ℕ → ℕ = relocated (relocation rs bases) in (
      counted f.0,
      λ bytes b. planned_any bytes (staged_at staging s) f.0 (f.1.fenced bytes (record { operations = b.spelt ∙ ap (flat_map (relocated_spelling to)) is ∙ spelt_alike_there to ds; fences = b.fences })),
      f.2,
      f.3,
    )
filled_any_is_planned list s rs os t bases staging (inr (none, h)) count can =
    subst (λ (x : Template). HasBases x bases → CanFill x bases staging → Answer list rs bases staging s os x) (sym h.kept.template) (of_operations list s rs os t bases staging none h) count can
