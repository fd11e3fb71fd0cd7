-- The laws of relocation, by regions.
use Rattle.std.proofs.Common.{ℕ, List, [], ◌∷◌, map}
use Rattle.std.specs.List.{AllByRecursion}
use Rattle.dsa_descriptor.specs.declared.span.Span.{Span}
use Rattle.dsa_descriptor.specs.Fields.{Fields}
use Rattle.dsa_ranges.specs.Ranges.{read_spans, written_spans}
use Rattle.dsa_prepared.specs.Relocated.{KeepsOffsets, SpansKeepOffsets, AllKeepOffsets}
use Rattle.dsa_prepared.specs.Regions.{Region, base_span, relocated, HasAddress, AreDisjoint, LiesInOne, LieInOne, AllLieInOne, LiesWhole}
use Rattle.dsa_prepared.specs.Relocation.{MeetingSpansStay, ConflictsStay, PlacesStay, ChoiceStays, PiecesRelocate}
use Rattle.dsa_prepared.proofs.Regions.{regions_are_one_to_one, regions_keep_offsets}
use Rattle.dsa_prepared.proofs.RelocatedSpans as spans
use Rattle.dsa_prepared.proofs.Conflicts as conflicts
use Rattle.dsa_prepared.proofs.Choice as choice
use Rattle.dsa_prepared.proofs.PiecesRelocate as split
use Rattle.dsa_prepared.proofs.PiecesRelocate.{RelocatesAsOne}
use Rattle.dsa_descriptor.specs.Data.{sources, targets}
use Rattle.dsa_splitter.specs.Pieces.{row_span}

pub spans_relocate : (rs : List Region) (ss : List Span) → AreDisjoint rs → AllByRecursion (LiesInOne (map base_span rs)) ss → AllByRecursion (KeepsOffsets (HasAddress rs) (relocated rs)) ss
spans_relocate rs [] apart lie = tt
spans_relocate rs (s ∷ ss) apart lie = (regions_keep_offsets rs s apart lie.0, spans_relocate rs ss apart lie.1)

pub keep : (rs : List Region) (f : Fields) → AreDisjoint rs → LieInOne (map base_span rs) f → SpansKeepOffsets (HasAddress rs) (relocated rs) f
keep rs f apart lie = (spans_relocate rs (read_spans f) apart lie.0, spans_relocate rs (written_spans f) apart lie.1)

pub all_keep : (rs : List Region) (fs : List Fields) → AreDisjoint rs → AllLieInOne (map base_span rs) fs → AllKeepOffsets (HasAddress rs) (relocated rs) fs
all_keep rs [] apart lie = tt
all_keep rs (f ∷ fs) apart lie = (keep rs f apart lie.0, all_keep rs fs apart lie.1)

pub meeting_spans_stay : MeetingSpansStay
meeting_spans_stay rs s t apart lies lies' =
    spans.meeting_spans_stay (HasAddress rs) (relocated rs) s t (regions_are_one_to_one rs apart) (regions_keep_offsets rs s apart lies) (regions_keep_offsets rs t apart lies')

pub conflicts_stay : ConflictsStay
conflicts_stay rs f g apart lie lie' = conflicts.conflicts_stay (HasAddress rs) (relocated rs) f g (regions_are_one_to_one rs apart) (keep rs f apart lie) (keep rs g apart lie')

pub places_stay : PlacesStay
places_stay rs fs apart lie = conflicts.places_stay (HasAddress rs) (relocated rs) fs (regions_are_one_to_one rs apart) (all_keep rs fs apart lie)

pub choice_stays : ChoiceStays
choice_stays rs fs apart lie = choice.choice_stays (HasAddress rs) (relocated rs) fs (regions_are_one_to_one rs apart) (all_keep rs fs apart lie)

relocate_as_one : (rs : List Region) (g : ℕ) (fs : List Fields) → AreDisjoint rs → AllByRecursion (LiesWhole (map base_span rs) g) fs → AllByRecursion (RelocatesAsOne (HasAddress rs) (relocated rs) g) fs
relocate_as_one rs g [] apart lie = tt
relocate_as_one rs g (f ∷ fs) apart lie = (
  record {
    from = spans_relocate rs (sources f.op f.size) apart lie.0.from;
    into = spans_relocate rs (targets f.op f.size) apart lie.0.into;
    row = regions_keep_offsets rs (row_span f g) apart lie.0.row;
    splittable = lie.0.splittable;
  },
  relocate_as_one rs g fs apart lie.1,
)

pub pieces_relocate : PiecesRelocate
pieces_relocate rs g fs apart pos lie = split.all_pieces_relocate (HasAddress rs) (relocated rs) g fs (regions_are_one_to_one rs apart) (relocate_as_one rs g fs apart lie) pos
