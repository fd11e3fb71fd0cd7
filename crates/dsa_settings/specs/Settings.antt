-- The settings of a planner, and their limits.
use Rattle.std.specs.Prelude.{◌≡◌, ℕ, ◌+◌, ◌-◌, ◌^◌, ◌%◌, ◌<◌, ◌≤◌, List, length, slice_index}
use Rattle.dsa_settings.specs.Plan.{Tariff}

-- what batches cost, without their fences: all the same, or by size; the first price of the table is that of a batch of
-- two, and each later one that of one piece more (this project's choice)
pub data BatchPrices : Type 0 where
  SamePrice : (price : ℕ) → BatchPrices
  BySize : (table : List ℕ) → BatchPrices

-- the price of a batch of that many pieces
abbrev pub batch_price : BatchPrices → ℕ → ℕ
batch_price (SamePrice price) size = price
batch_price (BySize table) size = slice_index table (size - 2)

-- what a caller sets: sizes, prices, and where the batches are written
pub record Limits : Type 0 where
  -- the greatest number of pieces of a batch
  pub greatest_batch : ℕ
  -- the greatest number of bytes of a piece
  pub greatest_transfer : ℕ
  -- the price of a piece by itself
  pub lone : ℕ
  -- the prices of batches, without their fences
  pub batch : BatchPrices
  -- the price of each fence in a batch
  pub fence : ℕ
  -- the address where the descriptors of the batches are written
  pub staging : ℕ

-- the settings of these values
abbrev pub limits : ℕ → ℕ → ℕ → BatchPrices → ℕ → ℕ → Limits
limits greatest_batch greatest_transfer lone batch fence staging =
    record {
      greatest_batch = greatest_batch;
      greatest_transfer = greatest_transfer;
      lone = lone;
      batch = batch;
      fence = fence;
      staging = staging;
    }

-- the greatest price, in the unit of all prices (this project's choice)
abbrev pub greatest_price : ℕ
greatest_price = 1000000000

-- no price of the table is above the greatest
abbrev pub ArePrices : List ℕ → Type 0
ArePrices table = (k : ℕ) → k < length table → slice_index table k ≤ greatest_price

-- the single price is in its limits, or a table has a price in its limits for each size from 2 to the greatest batch
abbrev pub AreBatchPrices : ℕ → BatchPrices → Type 0
AreBatchPrices greatest_batch (SamePrice price) = price ≤ greatest_price
AreBatchPrices greatest_batch (BySize table) = (length table + 1 ≡ greatest_batch) × ArePrices table

-- each value is within its limits: a batch has 2 to 1024 pieces, a piece 8 to 2^31 bytes, by eights, the prices are at
-- most 10^9, and the staging address is at most 2^63, by cache lines of 64 bytes (this project's choice; a device reports
-- its own limits of batches and transfers, specification 341204, GENCAP)
pub record AreInLimits (s : Limits) : Type 0 where
  pub least_batch : 2 ≤ s.greatest_batch
  pub most_batch : s.greatest_batch ≤ 1024
  pub least_transfer : 8 ≤ s.greatest_transfer
  pub most_transfer : s.greatest_transfer ≤ 2 ^ 31
  pub transfer_by_eights : s.greatest_transfer % 8 ≡ 0
  pub most_lone : s.lone ≤ greatest_price
  pub batch_prices : AreBatchPrices s.greatest_batch s.batch
  pub most_fence : s.fence ≤ greatest_price
  pub most_staging : s.staging ≤ 2 ^ 63
  pub staging_by_lines : s.staging % 64 ≡ 0

-- what submissions cost under the settings
abbrev pub tariff_of : Limits → Tariff
tariff_of s = record { lone = s.lone; fence = s.fence; batch = batch_price s.batch }

-- the version of settings with such prices: 1 with one price for all batches, 2 with a price for each size
abbrev pub version_with : BatchPrices → ℕ
version_with (SamePrice price) = 1
version_with (BySize table) = 2

-- the version of the settings, which a certificate names
abbrev pub version_of : Limits → ℕ
version_of s = version_with s.batch

-- any two sizes of batches cost the same, as in version 1
abbrev pub HasSamePrice : Limits → Type 0
HasSamePrice s = (size other : ℕ) → batch_price s.batch size ≡ batch_price s.batch other

-- what submissions cost if batches have the prices of this table
abbrev pub sized_tariff : ℕ → ℕ → List ℕ → Tariff
sized_tariff lone fence table = record { lone = lone; fence = fence; batch = batch_price (BySize table) }
