-- The submission of relocated operations.
use Rattle.std.proofs.Common.{◌≡◌, ℕ, zero, suc, ◌-◌, ◌<◌, inl, inr, Some, Bool, false, List, [], ◌∷◌, ◌++◌, map, length, replicate, refl, sym, ap, subst, ◌∙◌, arith}
use Rattle.std.specs.Prelude.{slice_get}
use Rattle.std.specs.List.{AllByRecursion}
use Rattle.std.proofs.lemmas.Option.{same_Some}
use Rattle.std.proofs.lemmas.List.{length-map}
use Rattle.std.proofs.lemmas.List.Sums.{sum_by-cons}
use Rattle.dsa_descriptor.specs.declared.op.Op.{Op}
use Rattle.dsa_descriptor.specs.declared.op.Op.TheVariants.{Move, Fill, Compare, ComparePattern, ApplyDelta, Dualcast}
use Rattle.dsa_descriptor.specs.declared.span.Span.{Span}
use Rattle.dsa_descriptor.specs.Descriptors.{fields}
use Rattle.dsa_descriptor.specs.Fields.{Fields}
use Rattle.dsa_descriptor.specs.Data.{sources, targets, data_of}
use Rattle.dsa_descriptor.specs.Spans.{InSome, ApartFrom, IsAddressable}
use Rattle.dsa_ranges.specs.Ranges.{ConflictAt, read_spans, written_spans, Touches}
use Rattle.dsa_settings.specs.Barriers.{WithBarriers}
use Rattle.dsa_settings.specs.Settings.{Limits, tariff_of}
use Rattle.dsa_settings.proofs.Barriers.{parted_by, by_conflict, by_barrier}
use Rattle.dsa_splitter.specs.Operations.{IsSplittable, ExpectedFits}
use Rattle.dsa_splitter.specs.Pieces.{all_pieces, piece_barriers, piece_count, row_span}
use Rattle.dsa_settings.specs.Staging.{staging_area}
use Rattle.dsa_splitter.specs.Rules.{MaySplit, IsSplit, IsClear, piece_total}
use Rattle.dsa_search.specs.Chosen.{IsChosen}
use Rattle.dsa_calls.proofs.SameChoice.{Within, chosen_goes}
use Rattle.dsa_prepared.specs.Relocated.{relocated_op, relocated_fields, relocated_span, IsOneToOne, KeepsOffsets}
use Rattle.dsa_prepared.specs.Regions.{Region, base_span, new_span, relocated, HasAddress, AreDisjoint, LiesInOne, LieInOne, AllLieInOne, LiesWhole}
use Rattle.dsa_prepared.specs.Submissions.{MayRelocate, SubmissionRelocates}
use Rattle.dsa_prepared.proofs.RelocatedSpans.{comes, some_come}
use Rattle.dsa_prepared.proofs.Conflicts.{reads_relocate, writes_relocate, relocated_at}
use Rattle.dsa_prepared.proofs.Regions.{head, tail, outside, first_in, goes_to, regions_are_one_to_one, regions_keep_offsets}
use Rattle.dsa_prepared.proofs.PiecesLie.{all_join, pieces_lie}
use Rattle.dsa_prepared.proofs.ByRegions.{spans_relocate, places_stay, pieces_relocate}

pub all_at : {X : Type 0} (P : X → Type 0) (xs : List X) (i : ℕ) (x : X) → AllByRecursion P xs → slice_get xs i ≡ Some x → P x
all_at P [] i x all there = absurd cc
all_at P (y ∷ xs) zero x all there = subst P (same_Some y x there) all.0
all_at P (y ∷ xs) (suc i) x all there = all_at P xs i x all.1 there

-- a span that lies in one of the regions does not go past 2^64 where it goes
pub addressable : (rs : List Region) (s : Span) → AreDisjoint rs → AllByRecursion (λ r. IsAddressable (new_span r)) rs → LiesInOne (map base_span rs) s → IsAddressable (relocated_span (relocated rs) s)
addressable [] s apart fit lies = absurd lies
addressable (r ∷ rs) s apart fit (inl lies) =
    let e = head r rs s.first (lies.0, lies.1) in
    let f = fit.0 in
    omega (arith, e, f, lies.0, lies.1, lies.2)
addressable (r ∷ rs) s apart fit (inr lies) =
    let e = tail r rs s.first (outside r rs s.first apart (first_in rs s lies)) in
    let f = addressable rs s apart.2 fit.1 lies in
    omega (arith, e, f)

pub data_relocates : (to : ℕ → ℕ) (op : Op) (size : ℕ) → data_of (relocated_op to op) size ≡ map (relocated_span to) (data_of op size)
data_relocates to (Move src dst) size = refl
data_relocates to (Fill pattern dst) size = refl
data_relocates to (Compare src src2 expected) size = refl
data_relocates to (ComparePattern src pattern expected) size = refl
data_relocates to (ApplyDelta delta dst record_size) size = refl
data_relocates to (Dualcast src dst dst2) size = refl

splittable_moves : (to : ℕ → ℕ) (op : Op) (size g : ℕ) → IsSplittable op size g → IsSplittable (relocated_op to op) size g
splittable_moves to (Move src dst) size g h = h
splittable_moves to (Fill pattern dst) size g h = h
splittable_moves to (Compare src src2 expected) size g h = h
splittable_moves to (ComparePattern src pattern expected) size g h = h
splittable_moves to (ApplyDelta delta dst record_size) size g h = h
splittable_moves to (Dualcast src dst dst2) size g h = h

expected_moves : (to : ℕ → ℕ) (op : Op) (flags size g : ℕ) → ExpectedFits op flags size g → ExpectedFits (relocated_op to op) flags size g
expected_moves to (Move src dst) flags size g h = h
expected_moves to (Fill pattern dst) flags size g h = h
expected_moves to (Compare src src2 expected) flags size g h = h
expected_moves to (ComparePattern src pattern expected) flags size g h = h
expected_moves to (ApplyDelta delta dst record_size) flags size g h = h
expected_moves to (Dualcast src dst dst2) flags size g h = h

-- a span that was apart from others is apart from them where they go
pub apart_moves : (In : ℕ → Type 0) (to : ℕ → ℕ) (s : Span) (ss : List Span) → IsOneToOne In to → KeepsOffsets In to s → AllByRecursion (KeepsOffsets In to) ss → ApartFrom s ss → ApartFrom (relocated_span to s) (map (relocated_span to) ss)
apart_moves In to s ss apart whole wholes h b here there =
    let c = comes In to s b whole here in
    let d = some_come In to ss b wholes there in
    let same : d.0 ≡ c.0 = apart d.0 c.0 d.2 c.2 (d.3 ∙ sym c.3) in
    h c.0 c.1 (subst (λ (x : ℕ). InSome ss x) same d.1)

pub may_split : (rs : List Region) (g : ℕ) (f : Fields) → AreDisjoint rs → AllByRecursion (λ r. IsAddressable (new_span r)) rs → LiesWhole (map base_span rs) g f → MaySplit f g → MaySplit (relocated_fields (relocated rs) f) g
may_split rs g f apart fit lies may =
    let whole = spans_relocate rs (data_of f.op f.size) apart (all_join (LiesInOne (map base_span rs)) (sources f.op f.size) (targets f.op f.size) lies.from lies.into) in
    let far = apart_moves (HasAddress rs) (relocated rs) (row_span f g) (data_of f.op f.size) (regions_are_one_to_one rs apart) (regions_keep_offsets rs (row_span f g) apart lies.row) whole may.row_apart in
    record {
      splittable = splittable_moves (relocated rs) f.op f.size g may.splittable;
      expected_fits = expected_moves (relocated rs) f.op f.flags f.size g may.expected_fits;
      row_addressable = addressable rs (row_span f g) apart fit lies.row;
      row_apart = subst (λ (ss : List Span). ApartFrom (row_span (relocated_fields (relocated rs) f) g) ss) (sym (data_relocates (relocated rs) f.op f.size)) far;
    }

total_moves : (to : ℕ → ℕ) (g : ℕ) (fs : List Fields) → piece_total g (map (relocated_fields to) fs) ≡ piece_total g fs
total_moves to g [] = refl
total_moves to g (f ∷ fs) =
    omega (arith, total_moves to g fs, sum_by-cons (λ (x : Fields). piece_count x g) f fs, sum_by-cons (λ (x : Fields). piece_count x g) (relocated_fields to f) (map (relocated_fields to) fs))

-- what relocated spans have lies where the regions go
pub lands : (rs : List Region) (ss : List Span) (b : ℕ) → AreDisjoint rs → AllByRecursion (LiesInOne (map base_span rs)) ss → InSome (map (relocated_span (relocated rs)) ss) b → InSome (map new_span rs) b
lands rs ss b apart lie here =
    let c = some_come (HasAddress rs) (relocated rs) ss b (spans_relocate rs ss apart lie) here in
    subst (λ (x : ℕ). InSome (map new_span rs) x) c.3 (goes_to rs c.0 apart c.2)

touches_new : (rs : List Region) (f : Fields) (b : ℕ) → AreDisjoint rs → LieInOne (map base_span rs) f → Touches (relocated_fields (relocated rs) f) b → InSome (map new_span rs) b
touches_new rs f b apart lie (inl reads) =
    lands rs (read_spans f) b apart lie.0 (subst (λ (ss : List Span). InSome ss b) (reads_relocate (relocated rs) f) reads)
touches_new rs f b apart lie (inr writes) =
    lands rs (written_spans f) b apart lie.1 (subst (λ (ss : List Span). InSome ss b) (writes_relocate (relocated rs) f) writes)

clear_moves : (rs : List Region) (area : Span) (ps : List Fields) → AreDisjoint rs → ApartFrom area (map new_span rs) → AllLieInOne (map base_span rs) ps → IsClear area (map (relocated_fields (relocated rs)) ps)
clear_moves rs area ps apart clear lie q e there (b, inside, touch) =
    let p = relocated_at (relocated rs) ps q e there in
    let touch' : Touches (relocated_fields (relocated rs) p.0) b = subst (λ (x : Fields). Touches x b) p.2 touch in
    clear b inside (touches_new rs p.0 b apart (all_at (LieInOne (map base_span rs)) ps q p.0 lie p.1) touch')

pub split_moves : (rs : List Region) (staging : ℕ) (s : Limits) (fs : List Fields) → 0 < s.greatest_transfer → MayRelocate rs staging s fs → IsSplit s.greatest_transfer s.staging fs
    → IsSplit s.greatest_transfer staging (map (relocated_fields (relocated rs)) fs)
split_moves rs staging s fs pos may split =
    let g : ℕ = s.greatest_transfer in
    let total = total_moves (relocated rs) g fs in
    let clear = clear_moves rs (staging_area staging (piece_total g fs)) (all_pieces fs g) may.apart may.clear (pieces_lie (map base_span rs) g fs pos may.operations) in
    let clear' = subst (λ (n : ℕ). IsClear (staging_area staging n) (map (relocated_fields (relocated rs)) (all_pieces fs g))) (sym total) clear in
    record {
      few = record {
        may_split = λ i e there.
            let p = relocated_at (relocated rs) fs i e there in
            let lies = all_at (LiesWhole (map base_span rs) g) fs i p.0 may.operations p.1 in
            subst (λ (x : Fields). MaySplit x g) (sym p.2) (may_split rs g p.0 may.apart may.addressable lies (split.few.may_split i p.0 p.1));
        few = let few = split.few.few in omega (arith, total, few);
      };
      clear = subst (λ (ps : List Fields). IsClear (staging_area staging (piece_total g (map (relocated_fields (relocated rs)) fs))) ps) (sym (pieces_relocate rs g fs may.apart pos may.operations)) clear';
    }

-- ---- barriers at the new addresses

marks_stay : (to : ℕ → ℕ) (g : ℕ) (fs : List Fields) (marks : List Bool) → piece_barriers g (map (relocated_fields to) fs) marks ≡ piece_barriers g fs marks
marks_stay to g fs [] = refl
marks_stay to g [] (mark ∷ marks) = refl
marks_stay to g (f ∷ fs) (mark ∷ marks) =
    ap (λ (ms : List Bool). (mark ∷ replicate (piece_count f g - 1) false) ++ ms) (marks_stay to g fs marks)

pub with_within : (C D : ℕ → ℕ → Type 0) (marks : List Bool) → Within C D → Within (WithBarriers C marks) (WithBarriers D marks)
with_within C D marks to a b h =
    elim (parted_by C marks a b h) [
      | inl conflict ↦ by_conflict D marks a b (to a b conflict)
      | inr pair ↦ by_barrier D marks a b pair
    ]

-- ---- the submission of the relocated operations

pub submission_relocates : SubmissionRelocates
submission_relocates rs staging s fs marks p pieces pos may sub are =
    let g : ℕ = s.greatest_transfer in
    let to : Fields → Fields = relocated_fields (relocated rs) in
    let of : List Bool = piece_barriers g fs marks in
    let lie : AllLieInOne (map base_span rs) (map fields p.pieces) = subst (λ (ps : List Fields). AllLieInOne (map base_span rs) ps) (sym sub.pieces_are) (pieces_lie (map base_span rs) g fs pos may.operations) in
    let count : length p.pieces ≡ length pieces = omega (arith, length-map p.pieces fields, length-map pieces fields, length-map (map fields p.pieces) to, ap length are) in
    let C = ConflictAt (map fields p.pieces) in
    let D = ConflictAt (map to (map fields p.pieces)) in
    let stay = places_stay rs (map fields p.pieces) may.apart lie in
    let chosen = chosen_goes (WithBarriers C of) (WithBarriers D of) (with_within C D of (λ a b. (stay a b).0)) (with_within D C of (λ a b. (stay a b).1))
    s.greatest_batch (tariff_of s) (length p.pieces) p.certificate.prices p.certificate.pairs p.plan sub.of_pieces.chosen in
    let counted = subst (λ (n : ℕ). IsChosen (WithBarriers D of) s.greatest_batch (tariff_of s) n p.certificate.prices p.certificate.pairs p.plan) count chosen in
    let named = subst (λ (ps : List Fields). IsChosen (WithBarriers (ConflictAt ps) of) s.greatest_batch (tariff_of s) (length pieces) p.certificate.prices p.certificate.pairs p.plan) (sym are) counted in
    record {
      split = split_moves rs staging s fs pos may sub.split;
      pieces_are = are ∙ ap (map to) sub.pieces_are ∙ sym (pieces_relocate rs g fs may.apart pos may.operations);
      of_pieces = record {
        chosen =
            subst (λ (ms : List Bool). IsChosen (WithBarriers (ConflictAt (map fields pieces)) ms) s.greatest_batch (tariff_of s) (length pieces) p.certificate.prices p.certificate.pairs p.plan)
            (sym (marks_stay (relocated rs) g fs marks)) named;
        version_is = sub.of_pieces.version_is;
        cost_is = sub.of_pieces.cost_is;
        portal_is = refl;
        staging_is = refl;
      };
    }
