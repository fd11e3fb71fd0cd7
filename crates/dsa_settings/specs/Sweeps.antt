-- What the pieces of a group touch, as a sweep over addresses sees it.
use Rattle.std.specs.Prelude.{ℕ, ◌≡◌, ◌≢◌, ◌+◌, ◌≤◌, ◌⊎◌, Bool, true, false, List}
use Rattle.std.specs.List.{Contains}
use Rattle.dsa_descriptor.specs.declared.span.Span.{Span}
use Rattle.dsa_descriptor.specs.Spans.{InSpan}
use Rattle.dsa_settings.specs.declared.sweep.Access.{Access}
use Rattle.dsa_settings.specs.declared.sweep.Reach.{Reach}
use Rattle.dsa_settings.specs.declared.sweep.Seen.{Seen}

-- the piece touches the span
abbrev pub access : Span → ℕ → Bool → Access
access span owner written = record { span = span; owner = owner; written = written }

-- the first address of an access
abbrev pub first_of : Access → ℕ
first_of a = a.span.first

-- the end of its addresses
abbrev pub access_end : Access → ℕ
access_end a = a.span.first + a.span.len

-- two accesses of different pieces, one of which writes an address of the other
pub record Clash (a b : Access) : Type 0 where
  pub owners : a.owner ≢ b.owner
  pub written : (a.written ≡ true) ⊎ (b.written ≡ true)
  pub address : ℕ
  pub first : InSpan a.span address
  pub second : InSpan b.span address

-- no two accesses do
abbrev pub HasNoClash : List Access → Type 0
HasNoClash accesses = (a b : Access) → Contains accesses a → Contains accesses b → ¬ Clash a b

-- the access ends within the reach: within its own end if the access is of the reach's piece, else within the other end
pub record Covers (reach : Reach) (a : Access) : Type 0 where
  pub own : a.owner ≡ reach.owner → access_end a ≤ reach.own_end
  pub other : a.owner ≢ reach.owner → access_end a ≤ reach.other_end

-- neither end of others is past the own end
pub record IsOrdered (seen : Seen) : Type 0 where
  pub all : seen.all.other_end ≤ seen.all.own_end
  pub written : seen.written.other_end ≤ seen.written.own_end

-- the access is among those seen
pub record HasSeen (seen : Seen) (a : Access) : Type 0 where
  pub all : Covers seen.all a
  pub written : a.written ≡ true → Covers seen.written a

-- the accesses have all that the piece reads and writes
pub record HasAccesses (accesses : List Access) (read written : List Span) (owner : ℕ) : Type 0 where
  pub reads : (s : Span) → Contains read s → Contains accesses (access s owner false)
  pub writes : (s : Span) → Contains written s → Contains accesses (access s owner true)
