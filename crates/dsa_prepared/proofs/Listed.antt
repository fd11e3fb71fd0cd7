-- Relocated descriptors are listed.
use Rattle.std.proofs.Common.{◌≡◌, ℕ, ◌^◌, ◌<◌, inl, inr, Bool, List, [], ◌∷◌, map, refl, sym, ap, subst, ◌∙◌, arith}
use Rattle.std.specs.Prelude.{Ok}
use Rattle.std.specs.List.{AllByRecursion}
use Rattle.std.proofs.lemmas.List.{get_or-map, length-map}
use Rattle.dsa_descriptor.specs.declared.op.Op.{Op}
use Rattle.dsa_descriptor.specs.declared.op.Op.TheVariants.{Move, Fill, Compare, ComparePattern, ApplyDelta, Dualcast}
use Rattle.dsa_descriptor.specs.declared.span.Span.{Span}
use Rattle.dsa_descriptor.specs.Fields.{Fields}
use Rattle.dsa_descriptor.specs.Data.{sources, targets, data_of, record_span}
use Rattle.dsa_descriptor.specs.Fences.{after_first, barriers_of, set_marks}
use Rattle.dsa_descriptor.specs.Lists.{HaveOneOwner}
use Rattle.dsa_descriptor.specs.Spans.{Apart, IsAddressable}
use Rattle.dsa_descriptor.specs.Profile.{FieldsFit, AreListedFlags, RegionsApart, HasDeltaUnits, HasExpectedBit, IsListed}
use Rattle.dsa_prepared.specs.Relocated.{relocated_op, relocated_fields, relocated_span}
use Rattle.dsa_prepared.specs.Regions.{Region, base_span, new_span, relocated, HasAddress, AreDisjoint, LiesInOne, LieInOne}
use Rattle.dsa_prepared.specs.Listed.{HasAlignedDelta, IsAlignedAt, ListedRelocates, PlansRelocate}
use Rattle.dsa_descriptor.specs.Descriptors.{fields}
use Rattle.dsa_calls.specs.Fenced.{IsSubmissionWith}
use Rattle.dsa_calls.specs.Planned.{Submission}
use Rattle.dsa_calls.proofs.Unfenced.{no_barriers, no_marks_plan_alike}
use Rattle.dsa_prepared.specs.Submissions.{staged_at, with_pieces}
use Rattle.dsa_prepared.proofs.RelocatedSpans.{comes}
use Rattle.dsa_prepared.proofs.Regions.{head, tail, outside, first_in, regions_are_one_to_one, regions_keep_offsets}
use Rattle.dsa_prepared.proofs.PiecesLie.{all_join}
use Rattle.dsa_prepared.proofs.Submissions.{addressable, data_relocates, submission_relocates}

-- the first address of a span goes to an address
pub fits : (rs : List Region) (s : Span) → AreDisjoint rs → AllByRecursion (λ r. IsAddressable (new_span r)) rs → LiesInOne (map base_span rs) s → relocated rs s.first < 2 ^ 64
fits [] s apart fit lies = absurd lies
fits (r ∷ rs) s apart fit (inl lies) =
    let e = head r rs s.first (lies.0, lies.1) in
    let f = fit.0 in
    omega (arith, e, f, lies.0, lies.1)
fits (r ∷ rs) s apart fit (inr lies) =
    let e = tail r rs s.first (outside r rs s.first apart (first_in rs s lies)) in
    let f = fits rs s apart.2 fit.1 lies in
    omega (arith, e, f)

two_apart : (rs : List Region) (s t : Span) → AreDisjoint rs → LiesInOne (map base_span rs) s → LiesInOne (map base_span rs) t → Apart s t → Apart (relocated_span (relocated rs) s) (relocated_span (relocated rs) t)
two_apart rs s t apart lies lies' h b here there =
    let c = comes (HasAddress rs) (relocated rs) s b (regions_keep_offsets rs s apart lies) here in
    let d = comes (HasAddress rs) (relocated rs) t b (regions_keep_offsets rs t apart lies') there in
    let same : d.0 ≡ c.0 = regions_are_one_to_one rs apart d.0 c.0 d.2 c.2 (d.3 ∙ sym c.3) in
    h c.0 c.1 (omega (arith, same, d.1.0), omega (arith, same, d.1.1))

module _ (rs : List Region) (apart : AreDisjoint rs) (fit : AllByRecursion (λ r. IsAddressable (new_span r)) rs) where
  pub all_addressable : (ss : List Span) → AllByRecursion (LiesInOne (map base_span rs)) ss → AllByRecursion IsAddressable (map (relocated_span (relocated rs)) ss)
  all_addressable [] lie = tt
  all_addressable (s ∷ ss) lie = (addressable rs s apart fit lie.0, all_addressable ss lie.1)

  all_apart : (s : Span) (ss : List Span) → LiesInOne (map base_span rs) s → AllByRecursion (LiesInOne (map base_span rs)) ss → AllByRecursion (Apart s) ss → AllByRecursion (Apart (relocated_span (relocated rs) s)) (map (relocated_span (relocated rs)) ss)
  all_apart s [] lies lie h = tt
  all_apart s (t ∷ ss) lies lie h = (two_apart rs s t apart lies lie.0 h.0, all_apart s ss lies lie.1 h.1)

  op_fits : (op : Op) (size : ℕ) → AllByRecursion (LiesInOne (map base_span rs)) (sources op size) → AllByRecursion (LiesInOne (map base_span rs)) (targets op size) → FieldsFit op → FieldsFit (relocated_op (relocated rs) op)
  op_fits (Move src dst) size s t h = (fits rs (record { first = src; len = size }) apart fit s.0, fits rs (record { first = dst; len = size }) apart fit t.0)
  op_fits (Fill pattern dst) size s t h = (h.0, fits rs (record { first = dst; len = size }) apart fit t.0)
  op_fits (Compare src src2 expected) size s t h = (fits rs (record { first = src; len = size }) apart fit s.0, fits rs (record { first = src2; len = size }) apart fit s.1.0, h.2)
  op_fits (ComparePattern src pattern expected) size s t h = (fits rs (record { first = src; len = size }) apart fit s.0, h.1, h.2)
  op_fits (ApplyDelta delta dst record_size) size s t h = (fits rs (record { first = delta; len = record_size }) apart fit s.0, fits rs (record { first = dst; len = size }) apart fit t.0, h.2)
  op_fits (Dualcast src dst dst2) size s t h =
      (fits rs (record { first = src; len = size }) apart fit s.0, fits rs (record { first = dst; len = size }) apart fit t.0, fits rs (record { first = dst2; len = size }) apart fit t.1.0)

  op_flags : (op : Op) (flags : ℕ) → AreListedFlags op flags → AreListedFlags (relocated_op (relocated rs) op) flags
  op_flags (Move src dst) flags h = record { required = h.required; refused = h.refused }
  op_flags (Fill pattern dst) flags h = record { required = h.required; refused = h.refused }
  op_flags (Compare src src2 expected) flags h = record { required = h.required; refused = h.refused }
  op_flags (ComparePattern src pattern expected) flags h = record { required = h.required; refused = h.refused }
  op_flags (ApplyDelta delta dst record_size) flags h = record { required = h.required; refused = h.refused }
  op_flags (Dualcast src dst dst2) flags h = record { required = h.required; refused = h.refused }

  op_regions : (op : Op) (size : ℕ) → AllByRecursion (LiesInOne (map base_span rs)) (sources op size) → AllByRecursion (LiesInOne (map base_span rs)) (targets op size) → RegionsApart op size → RegionsApart (relocated_op (relocated rs) op) size
  op_regions (Move src dst) size s t h = tt
  op_regions (Fill pattern dst) size s t h = tt
  op_regions (Compare src src2 expected) size s t h = tt
  op_regions (ComparePattern src pattern expected) size s t h = tt
  op_regions (ApplyDelta delta dst record_size) size s t h = two_apart rs (record { first = delta; len = record_size }) (record { first = dst; len = size }) apart s.0 s.1.0 h
  op_regions (Dualcast src dst dst2) size s t h = (
    two_apart rs (record { first = src; len = size }) (record { first = dst; len = size }) apart s.0 t.0 h.0,
    two_apart rs (record { first = src; len = size }) (record { first = dst2; len = size }) apart s.0 t.1.0 h.1,
    two_apart rs (record { first = dst; len = size }) (record { first = dst2; len = size }) apart t.0 t.1.0 h.2,
  )

  op_units : (op : Op) (size : ℕ) → HasAlignedDelta (relocated rs) op → HasDeltaUnits op size → HasDeltaUnits (relocated_op (relocated rs) op) size
  op_units (Move src dst) size a h = tt
  op_units (Fill pattern dst) size a h = tt
  op_units (Compare src src2 expected) size a h = tt
  op_units (ComparePattern src pattern expected) size a h = tt
  op_units (ApplyDelta delta dst record_size) size a h = (h.0, h.1, a, h.3)
  op_units (Dualcast src dst dst2) size a h = tt

  op_bit : (op : Op) → HasExpectedBit op → HasExpectedBit (relocated_op (relocated rs) op)
  op_bit (Move src dst) h = tt
  op_bit (Fill pattern dst) h = tt
  op_bit (Compare src src2 expected) h = h
  op_bit (ComparePattern src pattern expected) h = h
  op_bit (ApplyDelta delta dst record_size) h = tt
  op_bit (Dualcast src dst dst2) h = tt

  moves_listed : (f : Fields) → IsListed f → LieInOne (map base_span rs) f → IsAlignedAt (relocated rs) f → IsListed (relocated_fields (relocated rs) f)
  moves_listed f h lie aligned =
      let all = all_join (LiesInOne (map base_span rs)) (sources f.op f.size) (targets f.op f.size) lie.0 lie.1.1 in
      let all_data = sym (data_relocates (relocated rs) f.op f.size) in
      record {
        pasid_fits = h.pasid_fits;
        flags_fit = h.flags_fit;
        record_at_fits = fits rs (record_span f.record_at) apart fit lie.1.0;
        size_fits = h.size_fits;
        int_handle_fits = h.int_handle_fits;
        op_fits = op_fits f.op f.size lie.0 lie.1.1 h.op_fits;
        flags_listed = op_flags f.op f.flags h.flags_listed;
        size_positive = h.size_positive;
        record_addressable = addressable rs (record_span f.record_at) apart fit lie.1.0;
        data_addressable = subst (λ (ss : List Span). AllByRecursion IsAddressable ss) all_data (all_addressable (data_of f.op f.size) all);
        record_aligned = aligned.record_aligned;
        low_bits = aligned.low_bits;
        regions_apart = op_regions f.op f.size lie.0 lie.1.1 h.regions_apart;
        delta_units = op_units f.op f.size aligned.delta_aligned h.delta_units;
        expected_bit = op_bit f.op h.expected_bit;
        record_apart = subst (λ (ss : List Span). AllByRecursion (Apart (record_span (relocated rs f.record_at))) ss) all_data (all_apart (record_span f.record_at) (data_of f.op f.size) lie.1.0 all h.record_apart);
      }

pub listed_relocates : ListedRelocates
listed_relocates rs f apart fit h lie aligned = moves_listed rs apart fit f h lie aligned

pub one_owner : (to : ℕ → ℕ) (fs : List Fields) → HaveOneOwner fs → HaveOneOwner (map (relocated_fields to) fs)
one_owner to fs one i j d less lt =
    let count = length-map fs (relocated_fields to) in
    let a = get_or-map (relocated_fields to) fs i d d (omega (arith, less, lt, count)) in
    let b = get_or-map (relocated_fields to) fs j d d (omega (arith, lt, count)) in
    let h = one i j d less (omega (arith, lt, count)) in
    (ap (λ (f : Fields). f.pasid) a ∙ h.0 ∙ sym (ap (λ (f : Fields). f.pasid) b), ap (λ (f : Fields). f.privileged) a ∙ h.1 ∙ sym (ap (λ (f : Fields). f.privileged) b))

pub plans_relocate : PlansRelocate
plans_relocate rs staging s list ds ds' pieces p pos may listed sub are are' =
    let q : Submission = with_pieces (staged_at staging s) pieces p in
    let owner : HaveOneOwner (map fields ds') = subst (λ (fs : List Fields). HaveOneOwner fs) (sym are) (one_owner (relocated rs) (map fields ds) listed.owner) in
    let moved : IsSubmissionWith (barriers_of list) (staged_at staging s) (map fields ds') q =
    subst (λ (fs : List Fields). IsSubmissionWith (barriers_of list) (staged_at staging s) fs q) (sym are)
    (submission_relocates rs staging s (map fields ds) (barriers_of list) p pieces pos may sub are') in
    record {
      fenced = λ bytes b. inr (
        ds',
        record { spelled = b.operations; owner = owner },
        subst (λ (marks : List Bool). IsSubmissionWith marks (staged_at staging s) (map fields ds') q) (sym (ap (λ (marks : List Bool). set_marks (after_first marks)) b.fences)) moved,
      );
      plain = λ none. inr (
        ds',
        record { spelled = refl; owner = owner },
        (no_marks_plan_alike (staged_at staging s) (map fields ds') (Ok q)).0 (subst (λ (marks : List Bool). IsSubmissionWith marks (staged_at staging s) (map fields ds') q) (no_barriers list none) moved),
      );
    }
