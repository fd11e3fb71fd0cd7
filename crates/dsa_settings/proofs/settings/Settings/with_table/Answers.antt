use Rattle.std.proofs.Common.{◌≡◌, ℕ, ◌<◌, List, [], ◌∷◌, length, refl, sym, ap, ◌∙◌, subst, arith}
use Rattle.dsa_settings.specs.Settings.{AreBatchPrices, AreInLimits, BatchPrices, Limits, limits}
use Rattle.dsa_settings.specs.Settings.BatchPrices.{BySize, SamePrice}
use Rattle.dsa_settings.specs.Kept.{kept_prices}
use Rattle.dsa_settings.proofs.Outside.{outside_refuses}
use Rattle.dsa_settings.proofs.settings.Settings.with_table.Goals as goal

-- a table that has an entry is kept as it is
kept_table : (table : List ℕ) → 0 < length table → kept_prices 0 table ≡ BySize table
kept_table [] some = absurd (omega (arith, some))
kept_table (first ∷ others) some = refl

pub returns-in-Some : goal.returns-in-Some
returns-in-Some c =
    let s : Limits = limits c.args.greatest_batch c.args.greatest_transfer c.args.lone (BySize c.args.batch.now) c.args.fence c.args.staging in
    let first = c.in-Some.ensures (BySize c.args.batch.now) in
    (first, outside_refuses c.in-Some.setting s first)

pub invariant_of-result : goal.invariant_of-result
invariant_of-result c =
    let numbers : AreInLimits (limits c.args.greatest_batch c.args.greatest_transfer c.args.lone (SamePrice 0) c.args.fence c.args.staging) =
    c.in_default.ensures in
    let prices : AreBatchPrices c.args.greatest_batch (BySize c.args.batch.now) =
    c.are_batch_prices.ensures.0 c.if-not-are_batch_prices.false in
    let same : kept_prices 0 c.kept.result.items ≡ BySize c.args.batch.now =
    ap (kept_prices 0) c.kept.ensures ∙ kept_table c.args.batch.now (omega (arith, numbers.least_batch, prices.0)) in
    subst (λ (b : BatchPrices). AreInLimits (limits c.args.greatest_batch c.args.greatest_transfer c.args.lone b c.args.fence c.args.staging)) (sym same)
    (record {
      least_batch = numbers.least_batch;
      most_batch = numbers.most_batch;
      least_transfer = numbers.least_transfer;
      most_transfer = numbers.most_transfer;
      transfer_by_eights = numbers.transfer_by_eights;
      most_lone = numbers.most_lone;
      batch_prices = prices;
      most_fence = numbers.most_fence;
      most_staging = numbers.most_staging;
      staging_by_lines = numbers.staging_by_lines;
    })
