-- What is known of a block of at most 64 pieces, from piece `first` to before piece `past`, and of the ends after each of
-- them, for private clauses.
use Rattle.std.specs.Prelude.{ℕ, ◌≡◌, ◌+◌, ◌-◌, ◌*◌, ◌%◌, ◌<◌, ◌≤◌, List, slice_index}
use Rattle.dsa_plan.specs.Chain.{Pairs, IsLastBelow, HasCountBelow}

-- the place of the price at an end in a row; there are 64 rows for the pieces, and one of the prices as they are
abbrev pub place : ℕ → ℕ → ℕ → ℕ
place first row end = 64 * row + (end - first - 1)

-- each piece from `least` on has a row: the prices up to the piece as they are, and those after it less the fences that a
-- chain which comes to the piece has there; and the last piece of the block on its chain, with the number of pairs
pub record HasRows (pairs : Pairs) (fence first past least : ℕ) (rows lasts counts : List ℕ) : Type 0 where
  pub before :
      (x end : ℕ) → least ≤ x → x < past → first < end → end ≤ x →
      slice_index rows (place first (x - first) end) ≡ slice_index rows (place first 64 end)
  pub after :
      (x end : ℕ) → least ≤ x → x < past → x < end → end ≤ past →
      (count : ℕ) × HasCountBelow pairs x end count
      × (slice_index rows (place first (x - first) end) ≡ slice_index rows (place first 64 end) - fence * (count + 1))
  pub last :
      (x : ℕ) → least ≤ x → x < past →
      IsLastBelow pairs x past (slice_index counts (x - first)) (slice_index lasts (x - first))

-- all pieces of the block have their rows, and the last row has the prices
pub record IsFilled (pairs : Pairs) (prices : List ℕ) (fence first past : ℕ) (rows lasts counts : List ℕ) : Type 0 where
  pub each : HasRows pairs fence first past first rows lasts counts
  pub unfenced : (end : ℕ) → first < end → end ≤ past → slice_index rows (place first 64 end) ≡ slice_index prices end

-- at each end from `from` on the row has the price less the fences of the pairs that the chain of `start` has there beyond
-- its first `count` pairs
abbrev pub IsRowOf : Pairs → ℕ → ℕ → ℕ → ℕ → ℕ → ℕ → List ℕ → ℕ → Type 0
IsRowOf pairs fence first past start from count rows row =
    (end : ℕ) → first < end → from ≤ end → end ≤ past →
    (more : ℕ) × HasCountBelow pairs start end (count + more)
    × (slice_index rows (place first row end) ≡ slice_index rows (place first 64 end) - fence * more)

-- the chains of the starts from `least` to before `bound` up to an end, each at its start's number modulo 2048: how many
-- pairs it has, and its last piece
abbrev pub AreChains : Pairs → ℕ → ℕ → ℕ → List ℕ → List ℕ → Type 0
AreChains pairs least bound end fences pieces =
    (i : ℕ) → least ≤ i → i < bound →
    IsLastBelow pairs i end (slice_index fences (i % 2048)) (slice_index pieces (i % 2048))
