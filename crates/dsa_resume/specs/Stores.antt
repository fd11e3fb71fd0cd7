-- What completion records say, whatever engines store into memory, in whatever order.
use Rattle.std.specs.Prelude.{◌≡◌, ◌==◌, ℕ, List, [], ◌∷◌, Some, slice_get, if◌then◌else◌}
use Rattle.dsa_descriptor.specs.declared.span.Span.{Span}
use Rattle.dsa_descriptor.specs.Spans.{InSome, InSpan}
use Rattle.dsa_resume.specs.Shared.{NoneShare, first_of}

-- a byte that an engine stores while it does the piece of this number
pub record Store : Type 0 where
  pub piece : ℕ
  pub address : ℕ
  pub byte : ℕ

-- each is stored where its piece writes (specification 341204, operations): a piece that fails has stored a part
abbrev pub AreStoresOf : {P : Type 0} → (P → List Span) → List P → List Store → Type 0
AreStoresOf writes pieces [] = Unit {0}
AreStoresOf {P} writes pieces (s ∷ ss) = ((p : P) × (slice_get pieces s.piece ≡ Some p) × InSome (writes p) s.address) × AreStoresOf writes pieces ss

-- the byte at an address after these stores, if it was `byte` before
abbrev pub byte_after : List Store → ℕ → ℕ → ℕ
byte_after [] address byte = byte
byte_after (s ∷ ss) address byte = byte_after ss address (if s.address == address then s.byte else byte)

-- those for one piece
abbrev pub stores_for : ℕ → List Store → List Store
stores_for piece [] = []
stores_for piece (s ∷ ss) = if s.piece == piece then s ∷ stores_for piece ss else stores_for piece ss

-- If no two pieces share a record, the first span that each writes, each record has what was stored for its own piece alone. So it has what the caller has set
-- if nothing was stored for the piece, and else what its engine has written there.
abbrev pub RecordsAreTheirOwn : {P : Type 0} → (P → List Span) → Type 0
RecordsAreTheirOwn {P} writes =
    (pieces : List P) (stores : List Store) → NoneShare writes pieces → AreStoresOf writes pieces stores
    → (i : ℕ) (p : P) (address byte : ℕ) → slice_get pieces i ≡ Some p → InSpan (first_of (writes p)) address
    → byte_after stores address byte ≡ byte_after (stores_for i stores) address byte
