-- Conflicts of accesses that have an address in common, and lists of last conflicts in which they are noted.
use Rattle.std.specs.Prelude.{◌≡◌, ℕ, ◌+◌, ◌<◌, ◌≤◌, ◌⊎◌, List, length, Option, Some, None, slice_get, slice_index_or}
use Rattle.dsa_conflicts.specs.declared.access.Access.TheVariants.{Write}
use Rattle.dsa_conflicts.specs.declared.touches.Touch.{Touch}

-- the second access begins at an address of the first
abbrev pub BeginsIn : Touch → Touch → Type 0
BeginsIn t u = (t.span.first ≤ u.span.first) × (u.span.first < t.span.first + t.span.len)

-- the two are by these pieces, in one order or the other
abbrev pub AreBy : Touch → Touch → ℕ → ℕ → Type 0
AreBy t u a b = ((t.piece ≡ a) × (u.piece ≡ b)) ⊎ ((u.piece ≡ a) × (t.piece ≡ b))

-- by these two accesses piece b conflicts with piece a, which is before it in its window, if the second access begins in
-- the first
pub record Clash (window : ℕ) (t u : Touch) (b a : ℕ) : Type 0 where
  pub some : 0 < u.span.len
  pub writes : (t.access ≡ Write) ⊎ (u.access ≡ Write)
  pub pieces : AreBy t u a b
  pub before : a < b
  pub within : b ≤ a + window

-- the access at place p conflicts so with one after it and before place `end`, which begins in it
pub record ClashFrom (touches : List Touch) (window p end b a : ℕ) : Type 0 where
  pub place : ℕ
  pub here : Touch
  pub there : Touch
  pub after : p < place
  pub in_reach : place < end
  pub at_here : slice_get touches p ≡ Some here
  pub at_there : slice_get touches place ≡ Some there
  pub begins : BeginsIn here there
  pub clash : Clash window here there b a

-- one of the first n accesses conflicts so with one after it
abbrev pub ClashAmong : List Touch → ℕ → ℕ → ℕ → ℕ → Type 0
ClashAmong touches window n b a = (p : ℕ) × (p < n) × ClashFrom touches window p (length touches) b a

-- the last conflict noted for piece b
abbrev pub last_at : List (Option ℕ) → ℕ → Option ℕ
last_at lasts b = slice_index_or lasts b None

-- it is piece a or a later one
abbrev pub Reaches : List (Option ℕ) → ℕ → ℕ → Type 0
Reaches lasts b a = (m : ℕ) × (last_at lasts b ≡ Some m) × (a ≤ m)

-- the conflicts of b with a of which P holds are noted, and no others
pub record Notes (P : ℕ → ℕ → Type 0) (old new : List (Option ℕ)) : Type 0 where
  pub count : length new ≡ length old
  pub kept : (b a : ℕ) → Reaches old b a → Reaches new b a
  pub noted : (b a : ℕ) → P b a → Reaches new b a
  pub known : (b a : ℕ) → last_at new b ≡ Some a → (last_at old b ≡ Some a) ⊎ P b a
