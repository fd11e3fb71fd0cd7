-- Emissions of descriptors are those of pieces of their kind.
use Rattle.std.proofs.Common.{ℕ, ◌≡◌, ◌*◌, ◌≤◌, List, length, sym, ◌∙◌, subst, arith}
use Rattle.std.specs.Prelude.{All, map}
use Rattle.std.proofs.lemmas.List.{length-map, get_or-map}
use Rattle.std.proofs.lemmas.List.Elements.{All-map}
use Rattle.dsa_descriptor.specs.declared.descriptor.Descriptor.{Descriptor}
use Rattle.dsa_descriptor.specs.Descriptors.{fields}
use Rattle.dsa_descriptor.specs.Fields.{Fields}
use Rattle.dsa_descriptor.specs.Spans.{InSpan, span}
use Rattle.dsa_descriptor.specs.Spelling.{spelling}
use Rattle.dsa_descriptor.proofs.Listed.{one_owner, spelt_owner}
use Rattle.dsa_ranges.specs.Pieces.{descriptors}
use Rattle.dsa_ranges.specs.Ranges.{Touches}
use Rattle.dsa_settings.specs.Plan.{Plan}
use Rattle.dsa_settings.specs.Settings.{Limits}
use Rattle.dsa_emission.specs.Emission.{CanBeEmitted, CanBeEmittedAs}
use Rattle.dsa_emission.specs.EmissionFaults.{IsEmission, IsEmissionAs}
use Rattle.dsa_emission.proofs.Places.{portal_map, staging_map}

-- what holds of the fields of all holds of those of each
of_each : (Q : Fields → Type 0) (ds : List Descriptor) → All Q (map fields ds) → All (λ d. Q (fields d)) ds
of_each Q ds all i d lt = subst Q (get_or-map fields ds i d (fields d) lt) (all i (fields d) (omega (arith, lt, length-map ds fields)))

-- so many pieces have this staging area, and the fields touch none of it
abbrev ClearOf : Limits → ℕ → Fields → Type 0
ClearOf s n f = (address : ℕ) → InSpan (span s.staging (96 * n)) address → ¬ Touches f address

pub can_as : (s : Limits) (plan : Plan) (ds : List Descriptor) → CanBeEmitted s plan (map fields ds) → CanBeEmittedAs descriptors s plan ds
can_as s plan ds h =
    let count : length (map fields ds) ≡ length ds = length-map ds fields in
    record {
      covers = h.covers ∙ count;
      few = omega (arith, h.few, count);
      shapes = h.shapes;
      one_owner = spelt_owner ds h.one_owner;
      short = of_each (λ f. f.size ≤ s.greatest_transfer) ds h.short;
      clear = subst (λ (n : ℕ). All (λ d. ClearOf s n (fields d)) ds) count (of_each (ClearOf s (length (map fields ds))) ds h.clear);
    }

as_can : (s : Limits) (plan : Plan) (ds : List Descriptor) → CanBeEmittedAs descriptors s plan ds → CanBeEmitted s plan (map fields ds)
as_can s plan ds h =
    let count : length ds ≡ length (map fields ds) = sym (length-map ds fields) in
    record {
      covers = h.covers ∙ count;
      few = omega (arith, h.few, count);
      shapes = h.shapes;
      one_owner = one_owner ds h.one_owner;
      short = All-map (λ f. f.size ≤ s.greatest_transfer) fields ds h.short;
      clear = All-map (ClearOf s (length (map fields ds))) fields ds (subst (λ (n : ℕ). All (λ d. ClearOf s n (fields d)) ds) count h.clear);
    }

pub emission_as : (s : Limits) (portal staging : List ℕ) (plan : Plan) (ds : List Descriptor) → IsEmission s portal staging plan ds → IsEmissionAs descriptors s portal staging plan ds
emission_as s portal staging plan ds m = record {
  can_be = can_as s plan ds m.can_be;
  portal_is = m.portal_is ∙ sym (portal_map _ _ spelling fields s plan ds);
  staging_is = m.staging_is ∙ sym (staging_map _ _ spelling fields plan ds);
}

pub as_emission : (s : Limits) (portal staging : List ℕ) (plan : Plan) (ds : List Descriptor) → IsEmissionAs descriptors s portal staging plan ds → IsEmission s portal staging plan ds
as_emission s portal staging plan ds m = record {
  can_be = as_can s plan ds m.can_be;
  portal_is = m.portal_is ∙ portal_map _ _ spelling fields s plan ds;
  staging_is = m.staging_is ∙ staging_map _ _ spelling fields plan ds;
}
