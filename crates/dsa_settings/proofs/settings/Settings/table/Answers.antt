use Rattle.std.proofs.Common.{◌≡◌, ℕ, true, List, [], ◌∷◌, length, sym, ap, ◌∙◌, arith}
use Rattle.std.specs.Prelude.{◌==◌}
use Rattle.std.proofs.lemmas.Bool.{ne_eqb, true≢false}
use Rattle.dsa_settings.specs.Settings.{BatchPrices, Limits}
use Rattle.dsa_settings.specs.Settings.BatchPrices.{SamePrice}
use Rattle.dsa_settings.specs.Kept.{kept_prices}
use Rattle.dsa_settings.proofs.settings.Settings.table.Goals as goal

-- an empty table is kept for one price
kept_price : (same : ℕ) (table : List ℕ) (prices : BatchPrices) → prices ≡ kept_prices same table → true ≡ (length table == 0) → prices ≡ SamePrice same
kept_price same [] prices is empty = is
kept_price same (first ∷ others) prices is empty = absurd (true≢false (empty ∙ ne_eqb (length (first ∷ others)) 0 (λ e. absurd (omega (arith, e)))))

pub returns-then-is_empty-clause-prices : goal.returns-then-is_empty-clause-prices
returns-then-is_empty-clause-prices c =
    (c.self.inside.same, kept_price c.self.inside.same c.self.inside.table.items c.args.self.now.batch (sym (ap (λ (s : Limits). s.batch) c.self.view_is)) (sym c.if-is_empty.true ∙ c.is_empty.ensures))
