-- The staging area of a plan: where its batches are put.
use Rattle.std.specs.Prelude.{ℕ, ◌*◌}
use Rattle.dsa_descriptor.specs.declared.span.Span.{Span}
use Rattle.dsa_descriptor.specs.Spans.{span}

-- the bytes that so many pieces may need, whatever their groups are, from the staging address on: each has 64 for its
-- descriptor and 32 for a record (this project's choice)
abbrev pub staging_area : ℕ → ℕ → Span
staging_area staging count = span staging (96 * count)
