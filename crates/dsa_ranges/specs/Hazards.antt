-- Where two descriptors conflict, and why.
use Rattle.std.specs.Prelude.{ℕ, List}
use Rattle.dsa_descriptor.specs.declared.span.Span.{Span}
use Rattle.dsa_descriptor.specs.Spans.{InSpan, InSome}
use Rattle.dsa_ranges.specs.declared.hazards.HazardKind.{HazardKind}
use Rattle.dsa_ranges.specs.declared.hazards.HazardKind.TheVariants.{ReadAfterWrite, WriteAfterRead, WriteAfterWrite}

-- no address lies in the span and in one of the spans, or in one of each
abbrev pub AreApartFrom : Span → List Span → Type 0
AreApartFrom s ts = (a : ℕ) → InSpan s a → InSome ts a → ⊥

-- no address lies in one of each of two lists of spans
abbrev pub AreApart : List Span → List Span → Type 0
AreApart ss ts = (a : ℕ) → InSome ss a → InSome ts a → ⊥

-- of an earlier descriptor that reads and writes these spans, and a later one, the address shows why
-- the later waits: it reads what the earlier writes; else it writes what that writes; else it writes
-- what that reads
abbrev pub IsHazard : List Span → List Span → List Span → List Span → ℕ → HazardKind → Type 0
IsHazard reads writes reads' writes' a ReadAfterWrite = InSome writes a × InSome reads' a
IsHazard reads writes reads' writes' a WriteAfterWrite =
    InSome writes a × InSome writes' a × AreApart writes reads'
IsHazard reads writes reads' writes' a WriteAfterRead =
    InSome reads a × InSome writes' a × AreApart writes reads' × AreApart writes writes'
