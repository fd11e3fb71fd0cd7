-- Which of the settings is outside its limits.
use Rattle.std.specs.Prelude.{◌≡◌, ℕ, ◌^◌, ◌%◌, ◌≤◌, ⊤}
use Rattle.dsa_settings.specs.Settings.{AreBatchPrices, Limits, greatest_price}
use Rattle.dsa_settings.specs.declared.setting.Setting.{Setting}
use Rattle.dsa_settings.specs.declared.setting.Setting.TheVariants.{GreatestBatch, GreatestTransfer, Lone, Fence, Staging, Batch}

-- the setting may have this number; of the prices of batches each may be it
abbrev pub Allows : Setting → ℕ → Type 0
Allows GreatestBatch number = (2 ≤ number) × (number ≤ 1024)
Allows GreatestTransfer number = (8 ≤ number) × (number ≤ 2 ^ 31) × (number % 8 ≡ 0)
Allows Lone number = number ≤ greatest_price
Allows Fence number = number ≤ greatest_price
Allows Staging number = (number ≤ 2 ^ 63) × (number % 64 ≡ 0)
Allows Batch number = number ≤ greatest_price

-- the setting is within its limits: `AreInLimits` says it of all of them
abbrev pub IsWithin : Setting → Limits → Type 0
IsWithin GreatestBatch s = Allows GreatestBatch s.greatest_batch
IsWithin GreatestTransfer s = Allows GreatestTransfer s.greatest_transfer
IsWithin Lone s = Allows Lone s.lone
IsWithin Fence s = Allows Fence s.fence
IsWithin Staging s = Allows Staging s.staging
IsWithin Batch s = AreBatchPrices s.greatest_batch s.batch

-- the settings before this one, in the order in which they are looked at, are within their limits (this project's choice)
abbrev pub AreWithinBefore : Setting → Limits → Type 0
AreWithinBefore GreatestBatch s = ⊤
AreWithinBefore GreatestTransfer s = IsWithin GreatestBatch s
AreWithinBefore Lone s = IsWithin GreatestBatch s × IsWithin GreatestTransfer s
AreWithinBefore Fence s = IsWithin GreatestBatch s × IsWithin GreatestTransfer s × IsWithin Lone s
AreWithinBefore Staging s =
    IsWithin GreatestBatch s × IsWithin GreatestTransfer s × IsWithin Lone s × IsWithin Fence s
AreWithinBefore Batch s =
    IsWithin GreatestBatch s × IsWithin GreatestTransfer s × IsWithin Lone s × IsWithin Fence s × IsWithin Staging s

-- the setting is the first outside its limits
abbrev pub IsFirstOutside : Setting → Limits → Type 0
IsFirstOutside setting s = AreWithinBefore setting s × ¬ IsWithin setting s
