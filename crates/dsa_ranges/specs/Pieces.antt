-- Pieces of any kind, by what they read and write.
use Rattle.std.specs.Prelude.{◌≡◌, ◌↔◌, ◌⊎◌, ℕ, List, Some, map, slice_get}
use Rattle.dsa_descriptor.specs.declared.descriptor.Descriptor.{Descriptor}
use Rattle.dsa_descriptor.specs.declared.fault.FieldFault.{FieldFault}
use Rattle.dsa_descriptor.specs.declared.span.Span.{Span}
use Rattle.dsa_descriptor.specs.Descriptors.{fields}
use Rattle.dsa_descriptor.specs.Faults.{Keeps}
use Rattle.dsa_descriptor.specs.Spans.{InSome}
use Rattle.dsa_descriptor.specs.Spelling.{spelling}
use Rattle.dsa_ranges.specs.Ranges.{ConflictAt, SpansConflict, read_spans, written_spans}

-- the pieces at two places of a list conflict: some address is written by one of the two and read or written by the other
-- (this project's choice, as for descriptors)
abbrev pub PieceConflictAt : {P : Type 0} → (P → List Span) → (P → List Span) → List P → ℕ → ℕ → Type 0
PieceConflictAt {P} reads writes ps i j =
    (p q : P) × (slice_get ps i ≡ Some p) × (slice_get ps j ≡ Some q) × SpansConflict (reads p) (writes p) (reads q) (writes q)

-- pieces conflict as what they read and write says
abbrev pub ConflictAsTouched : {P : Type 0} → (P → List Span) → (P → List Span) → (List P → ℕ → ℕ → Type 0) → Type 0
ConflictAsTouched {P} reads writes conflict = (ps : List P) (i j : ℕ) → conflict ps i j ↔ PieceConflictAt reads writes ps i j

-- ---- descriptors are pieces

-- all that a descriptor reads
abbrev pub reads_of : Descriptor → List Span
reads_of d = read_spans (fields d)

-- all that it writes
abbrev pub writes_of : Descriptor → List Span
writes_of d = written_spans (fields d)

-- the descriptors at two places of a list conflict
abbrev pub DescriptorConflictAt : List Descriptor → ℕ → ℕ → Type 0
DescriptorConflictAt ds = ConflictAt (map fields ds)

-- ---- what a plan has to know of pieces of a kind

-- the bytes that spell each, without a fence, and the rules that these keep; how long each is, and what it reads and writes
pub record Kind (P : Type 0) : Type 1 where
  pub spelling : P → List ℕ
  pub keeps : List ℕ → FieldFault → Type 0
  pub size : P → ℕ
  pub reads : P → List Span
  pub writes : P → List Span

-- the kind that these are
abbrev pub kind_of : {P : Type 0} → (P → List ℕ) → (List ℕ → FieldFault → Type 0) → (P → ℕ) → (P → List Span) → (P → List Span) → Kind P
kind_of spelling keeps size reads writes = record { spelling = spelling; keeps = keeps; size = size; reads = reads; writes = writes }

-- a piece reads or writes the address
abbrev pub TouchesAt : {P : Type 0} → Kind P → P → ℕ → Type 0
TouchesAt kind p address = InSome (kind.reads p) address ⊎ InSome (kind.writes p) address

-- the kind of descriptors
abbrev pub descriptors : Kind Descriptor
descriptors = kind_of (λ d. spelling (fields d)) Keeps (λ d. d.size) reads_of writes_of
