-- What submissions read and write, as spans of addresses.
use Rattle.std.specs.Prelude.{◌≡◌, ◌↔◌, ℕ, List, [], ◌∷◌, flat_map, length, map}
use Rattle.dsa_descriptor.specs.declared.span.Span.{Span}
use Rattle.dsa_descriptor.specs.Fields.{Fields}
use Rattle.dsa_descriptor.specs.Spans.{span}
use Rattle.dsa_ranges.specs.Ranges.{SpansConflict, read_spans, written_spans}
use Rattle.dsa_core.specs.Machine.{Machine}
use Rattle.dsa_core.specs.Run.{Setup}
use Rattle.dsa_flight.specs.Flight.{SubsConflict}
use Rattle.dsa_flight.specs.Hosted.{Host, AnyPiece}
use Rattle.dsa_flight.specs.Hosted.Host.{HostRead, HostWrite}
use Rattle.dsa_flight.specs.Hosted.AnyPiece.{Device, OfHost}

-- A submission with a staging area counts that area as written, its descriptors and its batch records: the host writes
-- both before it submits, the device reads the descriptors and writes the records (specification 341204, batch
-- descriptor; that the host writes them anew for each submission is this project's choice).
abbrev pub staged_writes : {P : Type 0} → (P → List Span) → Span → List P → List Span
staged_writes writes staging pieces = staging ∷ flat_map writes pieces

-- what the host or the device reads
abbrev pub host_read_spans : Host → List Span
host_read_spans (HostRead address) = span address 1 ∷ []
host_read_spans (HostWrite at bytes) = []

-- the spans that a piece of either kind reads
abbrev pub any_read_spans : AnyPiece → List Span
any_read_spans (Device d) = read_spans d
any_read_spans (OfHost h) = host_read_spans h

-- and what it writes
abbrev pub host_written_spans : Host → List Span
host_written_spans (HostRead address) = []
host_written_spans (HostWrite at bytes) = span at (length bytes) ∷ []

-- the spans that a piece of either kind writes
abbrev pub any_written_spans : AnyPiece → List Span
any_written_spans (Device d) = written_spans d
any_written_spans (OfHost h) = host_written_spans h

-- the spans that pieces read and write tell whether two submissions conflict
abbrev pub SpansTell : {D P : Type 0} → Machine D P → (D → List Span) → (D → List Span) → Type 0
SpansTell {D} machine reads writes =
    (a b : Setup D) →
    SubsConflict machine a b ↔ SpansConflict (flat_map reads a.pieces) (flat_map writes a.pieces) (flat_map reads b.pieces) (flat_map writes b.pieces)

-- the pieces of a submission whose staging bytes the host writes first
abbrev pub with_staging : ℕ → List ℕ → List Fields → List AnyPiece
with_staging at bytes pieces = OfHost (HostWrite at bytes) ∷ map Device pieces

-- these read and write what a submission with that staging area is said to
abbrev pub StagingIsWritten : Type 0
StagingIsWritten =
    (at : ℕ) (bytes : List ℕ) (pieces : List Fields) →
    (flat_map any_read_spans (with_staging at bytes pieces) ≡ flat_map read_spans pieces)
    × (flat_map any_written_spans (with_staging at bytes pieces) ≡ staged_writes written_spans (span at (length bytes)) pieces)
