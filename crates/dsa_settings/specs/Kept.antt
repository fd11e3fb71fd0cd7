-- How settings are kept: one price, or a table that has an entry. For private clauses.
use Rattle.std.specs.Prelude.{ℕ, List, [], ◌∷◌}
use Rattle.dsa_settings.specs.Settings.{BatchPrices}
use Rattle.dsa_settings.specs.Settings.BatchPrices.{SamePrice, BySize}

-- an empty table means the same price for all
abbrev pub kept_prices : ℕ → List ℕ → BatchPrices
kept_prices same [] = SamePrice same
kept_prices same (first ∷ others) = BySize (first ∷ others)
