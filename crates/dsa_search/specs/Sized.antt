-- What the pieces of a block know of their chains, for private clauses.
use Rattle.std.specs.Prelude.{ℕ, ◌≡◌, ◌+◌, ◌-◌, ◌*◌, ◌/◌, ◌<◌, ◌≤◌, List, length, slice_index}
use Rattle.dsa_descriptor.specs.Pieces.{most_pieces}
use Rattle.dsa_plan.specs.Chain.{Pairs, GoForward, IsLastBelow, HasCountBelow}
use Rattle.dsa_settings.specs.Settings.{Limits, ArePrices, batch_price, greatest_price}

-- the pieces are divided into blocks of 64: the first piece past the block of x
unfoldable pub past_block : ℕ → ℕ
past_block x = x / 64 * 64 + 64

-- each piece from `from` on has a row of 64 counts: how many pairs of its chain end below each end up to past its block,
-- and its last piece of that block
pub record HasRows (pairs : Pairs) (from : ℕ) (rows lasts : List ℕ) : Type 0 where
  pub row_count : length rows ≡ 64 * length pairs
  pub last_count : length lasts ≡ length pairs
  pub row :
      (x j : ℕ) → from ≤ x → x < j → j ≤ past_block x → j ≤ length pairs →
      HasCountBelow pairs x j (slice_index rows (64 * x + (j + 63 - past_block x)))
  pub last :
      (x : ℕ) → from ≤ x → past_block x ≤ length pairs →
      IsLastBelow pairs x (past_block x) (slice_index rows (64 * x + 63)) (slice_index lasts x)
  pub blank : (k : ℕ) → k < 64 * from → slice_index rows k ≡ 0

-- what the offers of groups are made from: pairs that lead forward, the rows of all pieces, and prices within their limits
pub record IsSheet (pairs : Pairs) (rows lasts : List ℕ) (lone fence : ℕ) (table : List ℕ) : Type 0 where
  pub forward : GoForward pairs
  pub few : length pairs ≤ most_pieces
  pub rows_are : HasRows pairs 0 rows lasts
  pub sizes : length table ≤ 1023
  pub prices : ArePrices table
  pub lone_is : lone ≤ greatest_price
  pub fence_is : fence ≤ greatest_price

-- the same for settings: these pairs, and the prices of the settings for each size
pub record IsSheetOf (s : Limits) (pairs : Pairs) (own : Pairs) (rows lasts : List ℕ) (lone fence : ℕ) (table : List ℕ) : Type 0 where
  pub sheet : IsSheet own rows lasts lone fence table
  pub pairs_are : own ≡ pairs
  pub lone_are : lone ≡ s.lone
  pub fence_are : fence ≡ s.fence
  pub table_size : length table + 1 ≡ s.greatest_batch
  pub table_are : (size : ℕ) → 2 ≤ size → size ≤ s.greatest_batch → slice_index table (size - 2) ≡ batch_price s.batch size
