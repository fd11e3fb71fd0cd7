-- The sample meets the premises of the laws.
use Rattle.std.proofs.Common.{◌≡◌, ◌+◌, ◌≤◌, ◌⊎◌, inl, inr, List, [], ◌∷◌, map, refl, arith, lit≤, lit<}
use Rattle.std.specs.List.{AllByRecursion}
use Rattle.dsa_descriptor.specs.Spans.{span, ApartFrom}
use Rattle.dsa_descriptor.specs.declared.span.Span.{Span}
use Rattle.dsa_image.specs.Parts.{quotient_up}
use Rattle.dsa_prepared.specs.Relocated.{relocated_fields}
use Rattle.dsa_prepared.specs.Regions.{has_address, relocated}
use Rattle.dsa_prepared.specs.Submissions.{MayRelocate}
use Rattle.dsa_prepared.specs.Listed.{IsAlignedAt}
use Rattle.dsa_prepared.specs.Samples.{sample_regions, sample_settings, sample_staging, sample_list, relocated_sample}

-- one of the spans ends before the other begins
abbrev OneEndsFirst : Span → Span → Type 0
OneEndsFirst s t = (s.first + s.len ≤ t.first) ⊎ (t.first + t.len ≤ s.first)

apart_none : (s : Span) → ApartFrom s []
apart_none s address here there = absurd there

apart_more : (s t : Span) (ts : List Span) → OneEndsFirst s t → ApartFrom s ts → ApartFrom s (t ∷ ts)
apart_more s t ts (inl ends) rest address here (inl there) = omega (arith, ends, here.1, there.0)
apart_more s t ts (inr ends) rest address here (inl there) = omega (arith, ends, here.0, there.1)
apart_more s t ts ends rest address here (inr there) = rest address here there

pub sample_may : MayRelocate sample_regions sample_staging sample_settings sample_list
unfolding quotient_up
sample_may =
    let a : Span = span 0x1000 4100 in
    let b : Span = span 0x4000 4100 in
    let c : Span = span 0x8000 64 in
    let a' : Span = span 0x900001 4100 in
    let b' : Span = span 0x600000 4100 in
    let c' : Span = span 0x7000 64 in
    let area : Span = span 0x20000000 192 in
    record {
      apart = (
        apart_more a b (c ∷ []) (inl (lit≤ tt)) (apart_more a c [] (inl (lit≤ tt)) (apart_none a)),
        apart_more a' b' (c' ∷ []) (inr (lit≤ tt)) (apart_more a' c' [] (inr (lit≤ tt)) (apart_none a')),
        (
          apart_more b c [] (inl (lit≤ tt)) (apart_none b),
          apart_more b' c' [] (inr (lit≤ tt)) (apart_none b'),
          (apart_none c, apart_none c', tt),
        ),
      );
      addressable = (lit≤ tt, (lit≤ tt, (lit≤ tt, tt)));
      clear = apart_more area a' (b' ∷ c' ∷ []) (inr (lit≤ tt)) (apart_more area b' (c' ∷ []) (inr (lit≤ tt)) (apart_more area c' [] (inr (lit≤ tt)) (apart_none area)));
      operations = (
        record {
          from = (inl (lit≤ tt, lit< tt, lit≤ tt), tt);
          into = (inr (inl (lit≤ tt, lit< tt, lit≤ tt)), tt);
          row = inr (inr (inl (lit≤ tt, lit< tt, lit≤ tt)));
          splittable = tt;
        },
        tt,
      );
    }

pub sample_goes : map (relocated_fields (relocated sample_regions)) sample_list ≡ relocated_sample
unfolding has_address
sample_goes = refl

pub sample_aligned : AllByRecursion (IsAlignedAt (relocated sample_regions)) sample_list
unfolding has_address
sample_aligned = (record { record_aligned = refl; delta_aligned = tt; low_bits = tt }, tt)
