-- What is known of the members of a batch, and which of them conflict.
use Rattle.std.specs.Prelude.{ℕ, ◌≡◌, ◌↔◌, IsTrue, List, [], slice_get, Option, Some, None}
use Rattle.std.specs.List.{AllByRecursion}
use Rattle.dsa_descriptor.specs.declared.span.Span.{Span}
use Rattle.dsa_descriptor.specs.Spans.{InSome, IsAddressable}
use Rattle.dsa_ranges.specs.Ranges.{SpansConflict}
use Rattle.dsa_ranges.specs.declared.span.Touched.{Touched}
use Rattle.dsa_ranges.specs.declared.hazards.Hazard.{Hazard}
use Rattle.dsa_ranges.specs.Hazards.{IsHazard}
use Rattle.dsa_audit.specs.declared.hazard.Hazards.{Hazards}
use Rattle.dsa_audit.specs.declared.member.Member.{Member}
use Rattle.dsa_audit.specs.declared.member.Unseen.{Unseen}
use Rattle.dsa_audit.specs.declared.member.Member.TheVariants.{Known, Unknown}

-- the spans that a member is known to read, and to write
abbrev pub reads_of : Member → List Span
reads_of (Known t) = t.reads.items
reads_of (Unknown why) = []

-- the spans that a member is known to write
abbrev pub writes_of : Member → List Span
writes_of (Known t) = t.writes.items
writes_of (Unknown why) = []

-- the same of a member that may not be there, of which nothing is known then
abbrev pub reads_at : Option Member → List Span
reads_at None = []
reads_at (Some m) = reads_of m

-- and what it writes
abbrev pub writes_at : Option Member → List Span
writes_at None = []
writes_at (Some m) = writes_of m

-- all that the member is known to read and write lies below 2 ^ 64
abbrev pub FitsMemory : Member → Type 0
FitsMemory m = AllByRecursion IsAddressable (reads_of m) × AllByRecursion IsAddressable (writes_of m)

-- nothing is known of the member at this place
abbrev pub IsUnknownAt : List Member → ℕ → Type 0
IsUnknownAt ms a = (why : Unseen) × (slice_get ms a ≡ Some (Unknown why))

-- two members of which it is known what they read and write conflict
abbrev pub TouchedConflict : Touched → Touched → Type 0
TouchedConflict t u = SpansConflict t.reads.items t.writes.items u.reads.items u.writes.items

-- what is known of two members shows that they conflict
abbrev pub AreKnownToConflict : Member → Member → Type 0
AreKnownToConflict (Known t) (Known u) = TouchedConflict t u
AreKnownToConflict (Known t) (Unknown why) = ⊥
AreKnownToConflict (Unknown why) (Known u) = ⊥
AreKnownToConflict (Unknown why) (Unknown other) = ⊥

-- what is known of two members does not rule out that they conflict
abbrev pub CanConflict : Member → Member → Type 0
CanConflict (Known t) (Known u) = TouchedConflict t u
CanConflict (Known t) (Unknown why) = Unit
CanConflict (Unknown why) (Known u) = Unit
CanConflict (Unknown why) (Unknown other) = Unit

-- the same of the members at two places of a batch
abbrev pub KnownConflict : List Member → ℕ → ℕ → Type 0
KnownConflict ms i j =
    (m n : Member) × (slice_get ms i ≡ Some m) × (slice_get ms j ≡ Some n) × AreKnownToConflict m n

-- what is known of the members at two places of a batch does not rule out that they conflict
abbrev pub PossibleConflict : List Member → ℕ → ℕ → Type 0
PossibleConflict ms i j =
    (m n : Member) × (slice_get ms i ≡ Some m) × (slice_get ms j ≡ Some n) × CanConflict m n

-- both members are known, and the hazard shows why the later has to wait for the earlier
abbrev pub IsHazardBetween : List Member → ℕ → ℕ → Hazard → Type 0
IsHazardBetween ms i j h =
    (t u : Touched) × (slice_get ms i ≡ Some (Known t)) × (slice_get ms j ≡ Some (Known u))
    × IsHazard t.reads.items t.writes.items u.reads.items u.writes.items h.address h.kind

-- some address is in one of each
abbrev pub ShareAddress : List Span → List Span → Type 0
ShareAddress ss ts = (address : ℕ) × InSome ss address × InSome ts address

-- these are all hazards between the members at two places of a batch, the first of which is the earlier
pub record AreHazardsBetween (ms : List Member) (i j : ℕ) (hs : Hazards) : Type 0 where
  pub read_after_write : IsTrue hs.read_after_write ↔ ShareAddress (writes_at (slice_get ms i)) (reads_at (slice_get ms j))
  pub write_after_write : IsTrue hs.write_after_write ↔ ShareAddress (writes_at (slice_get ms i)) (writes_at (slice_get ms j))
  pub write_after_read : IsTrue hs.write_after_read ↔ ShareAddress (reads_at (slice_get ms i)) (writes_at (slice_get ms j))
