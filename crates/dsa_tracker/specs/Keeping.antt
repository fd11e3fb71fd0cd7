-- What the stores keep of a list. Private clauses alone cite these.
use Rattle.std.specs.Prelude.{◌≡◌, ◌≢◌, ℕ, List, drop, flat_map, take}
use Rattle.dsa_descriptor.specs.declared.span.Span.{Span}
use Rattle.dsa_descriptor.specs.Spans.{InSome}
use Rattle.dsa_tracker.specs.Kept.{store_at}

-- some piece reads the address
abbrev pub InSources : {P : Type 0} → (P → List Span) → List P → ℕ → Type 0
InSources reads pieces a = InSome (flat_map reads pieces) a

-- some piece has the address in its destinations: what it writes after its completion record
abbrev pub InTargets : {P : Type 0} → (P → List Span) → List P → ℕ → Type 0
InTargets writes pieces a = InSome (flat_map (λ p. drop 1 (writes p)) pieces) a

-- some piece has it in its completion record
abbrev pub InRecord : {P : Type 0} → (P → List Span) → List P → ℕ → Type 0
InRecord writes pieces a = InSome (flat_map (λ p. take 1 (writes p)) pieces) a

-- all stores but that of this place are the same
abbrev pub AreOtherStores : ℕ → ℕ → List ℕ → List ℕ → Type 0
AreOtherStores width place old new = (other : ℕ) → other ≢ place → store_at width new other ≡ store_at width old other
