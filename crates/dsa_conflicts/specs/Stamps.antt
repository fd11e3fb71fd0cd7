-- Stamps at places as functions: 0 if a place has none.
use Rattle.std.specs.Prelude.{◌≡◌, ℕ, ◌*◌, ◌/◌, ◌<◌, ◌≤◌, ◌⊎◌, length, max, slice_index}
use Rattle.dsa_conflicts.specs.declared.stamps.Levels.{Levels}
use Rattle.dsa_conflicts.specs.declared.stamps.Stamps.{Stamps}

-- no stamp is above this one
abbrev pub AtMost : (ℕ → ℕ) → ℕ → Type 0
AtMost f stamp = (p : ℕ) → f p ≤ stamp

-- the places from one to before another have this stamp now, and all others the one that they had
pub record Covered (old new : ℕ → ℕ) (from to stamp : ℕ) : Type 0 where
  pub inside : (p : ℕ) → from ≤ p → p < to → new p ≡ stamp
  pub before : (p : ℕ) → p < from → new p ≡ old p
  pub after : (p : ℕ) → to ≤ p → new p ≡ old p

-- the greatest stamp from one place to before another, 0 if there is none
pub record IsMost (f : ℕ → ℕ) (from to most : ℕ) : Type 0 where
  pub upper : (p : ℕ) → from ≤ p → p < to → f p ≤ most
  pub attained : 0 < most → (p : ℕ) × (from ≤ p) × (p < to) × (f p ≡ most)

-- the greater of a known stamp and the greatest one from one place to before another
pub record IsGreater (f : ℕ → ℕ) (from to known greater : ℕ) : Type 0 where
  pub least : known ≤ greater
  pub upper : (p : ℕ) → from ≤ p → p < to → f p ≤ greater
  pub attained : known < greater → (p : ℕ) × (from ≤ p) × (p < to) × (f p ≡ greater)

-- a block's stamp is the greatest one of its places
pub record Sums (f g : ℕ → ℕ) : Type 0 where
  pub upper : (p : ℕ) → f p ≤ g (p / 64)
  pub attained : (q : ℕ) → 0 < g q → (p : ℕ) × (p / 64 ≡ q) × (f p ≡ g q)

-- the greater stamp of a place and of its block
abbrev pub join : (ℕ → ℕ) → (ℕ → ℕ) → ℕ → ℕ
join f g p = max (f p) (g (p / 64))

-- the greatest stamp that begins in a range or covers its first place, 0 if there is none
pub record IsLatest (points covers : ℕ → ℕ) (from to latest : ℕ) : Type 0 where
  pub points_upper : (p : ℕ) → from ≤ p → p < to → points p ≤ latest
  pub covers_upper : covers from ≤ latest
  pub attained : 0 < latest → ((p : ℕ) × (from ≤ p) × (p < to) × (points p ≡ latest)) ⊎ (covers from ≡ latest)

-- there is a stamp for each of so many places, for each block and for each block of blocks
pub record Fits (count : ℕ) (l : Levels) : Type 0 where
  pub places : count ≡ length l.places.items
  pub blocks : length l.places.items ≤ 64 * length l.blocks.items
  pub tops : length l.blocks.items ≤ 64 * length l.tops.items

-- the greatest stamp of a range that begins at the place
abbrev pub points_at : Stamps → ℕ → ℕ
points_at m = slice_index m.points.places.items

-- the greatest stamp of a range that covers the place
abbrev pub covers_at : Stamps → ℕ → ℕ
covers_at m = join (slice_index m.covers.places.items) (join (slice_index m.covers.blocks.items) (slice_index m.covers.tops.items))

-- how many places there are
abbrev pub places_of : Stamps → ℕ
places_of m = length m.points.places.items

-- each level has its stamps, and blocks sum up what begins in them
pub record AreStamps (m : Stamps) : Type 0 where
  pub points_fit : Fits (places_of m) m.points
  pub covers_fit : Fits (places_of m) m.covers
  pub blocks : Sums (slice_index m.points.places.items) (slice_index m.points.blocks.items)
  pub tops : Sums (slice_index m.points.blocks.items) (slice_index m.points.tops.items)

-- no stamp is above this one
pub record AreAtMost (stamp : ℕ) (m : Stamps) : Type 0 where
  pub points : AtMost (points_at m) stamp
  pub covers : AtMost (covers_at m) stamp
