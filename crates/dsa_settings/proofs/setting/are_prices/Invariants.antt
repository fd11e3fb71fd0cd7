use Rattle.std.proofs.Common.{ℕ, ◌<◌, ◌≤◌, slice_index}
use Rattle.dsa_settings.specs.Settings.{greatest_price}
use Rattle.dsa_settings.proofs.setting.are_prices.Given as goal

abbrev pub invariant-loop-k : goal.invariant-loop-k
invariant-loop-k l = (j : ℕ) → j < l.k → slice_index l.table j ≤ greatest_price
