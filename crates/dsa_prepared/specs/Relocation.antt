-- What relocation keeps.
use Rattle.std.specs.Prelude.{ℕ, ◌≡◌, ◌<◌, ◌↔◌, List, map}
use Rattle.dsa_descriptor.specs.declared.span.Span.{Span}
use Rattle.dsa_descriptor.specs.Fields.{Fields}
use Rattle.dsa_descriptor.specs.Spans.{Meets}
use Rattle.dsa_ranges.specs.Ranges.{Conflicts, ConflictAt}
use Rattle.dsa_settings.specs.Plan.{Tariff, Plan}
use Rattle.dsa_plan.specs.Chain.{Pairs}
use Rattle.dsa_search.specs.Chosen.{IsChosen}
use Rattle.dsa_prepared.specs.Relocated.{relocated_fields, relocated_span, IsOneToOne, KeepsOffsets}
use Rattle.dsa_prepared.specs.Regions.{Region, base_span, relocated, HasAddress, AreDisjoint, LiesInOne, LieInOne, AllLieInOne, LiesWhole}
use Rattle.std.specs.List.{AllByRecursion}
use Rattle.dsa_splitter.specs.Pieces.{all_pieces}

-- two spans, each of which lies in one region, meet exactly if the relocated spans do
abbrev pub MeetingSpansStay : Type 0
MeetingSpansStay =
    (rs : List Region) (s t : Span) → AreDisjoint rs → LiesInOne (map base_span rs) s → LiesInOne (map base_span rs) t →
    (Meets s t ↔ Meets (relocated_span (relocated rs) s) (relocated_span (relocated rs) t))

-- two descriptors whose spans each lie in one region conflict exactly if the relocated ones do
abbrev pub ConflictsStay : Type 0
ConflictsStay =
    (rs : List Region) (f g : Fields) → AreDisjoint rs → LieInOne (map base_span rs) f → LieInOne (map base_span rs) g →
    (Conflicts f g ↔ Conflicts (relocated_fields (relocated rs) f) (relocated_fields (relocated rs) g))

-- the same of the descriptors at two places of a list
abbrev pub PlacesStay : Type 0
PlacesStay =
    (rs : List Region) (fs : List Fields) → AreDisjoint rs → AllLieInOne (map base_span rs) fs →
    (i j : ℕ) → (ConflictAt fs i j ↔ ConflictAt (map (relocated_fields (relocated rs)) fs) i j)

-- the chosen plan of such pieces, with its prices and pairs, is that of the relocated pieces
abbrev pub ChoiceStays : Type 0
ChoiceStays =
    (rs : List Region) (fs : List Fields) → AreDisjoint rs → AllLieInOne (map base_span rs) fs →
    (greatest_batch : ℕ) (tariff : Tariff) (n : ℕ) (costs : List ℕ) (pairs : Pairs) (plan : Plan) →
    IsChosen (ConflictAt fs) greatest_batch tariff n costs pairs plan →
    IsChosen (ConflictAt (map (relocated_fields (relocated rs)) fs)) greatest_batch tariff n costs pairs plan

-- disjoint regions relocate no two of their addresses to the same address
abbrev pub RegionsAreOneToOne : Type 0
RegionsAreOneToOne = (rs : List Region) → AreDisjoint rs → IsOneToOne (HasAddress rs) (relocated rs)

-- and each address of a span that lies in one of them keeps its offset in the span
abbrev pub RegionsKeepOffsets : Type 0
RegionsKeepOffsets = (rs : List Region) (s : Span) → AreDisjoint rs → LiesInOne (map base_span rs) s → KeepsOffsets (HasAddress rs) (relocated rs) s

-- the pieces of the relocated operations are the relocated pieces, in the same order
abbrev pub PiecesRelocate : Type 0
PiecesRelocate =
    (rs : List Region) (greatest : ℕ) (fs : List Fields) → AreDisjoint rs → 0 < greatest → AllByRecursion (LiesWhole (map base_span rs) greatest) fs →
    all_pieces (map (relocated_fields (relocated rs)) fs) greatest ≡ map (relocated_fields (relocated rs)) (all_pieces fs greatest)

-- each span of a piece lies in one region, if those of its operation do
abbrev pub PiecesLie : Type 0
PiecesLie =
    (rs : List Span) (greatest : ℕ) (fs : List Fields) → 0 < greatest → AllByRecursion (LiesWhole rs greatest) fs →
    AllLieInOne rs (all_pieces fs greatest)
