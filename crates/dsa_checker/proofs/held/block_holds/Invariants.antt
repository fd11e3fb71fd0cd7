use Rattle.std.proofs.Common.{ℕ, ◌+◌, ◌-◌, ◌<◌, ◌≤◌, length}
use Rattle.dsa_settings.specs.Settings.{sized_tariff}
use Rattle.dsa_checker.specs.Steps.{HoldsWithin}
use Rattle.dsa_checker.specs.Blocks.{AreChains}
use Rattle.dsa_checker.proofs.held.block_holds.Given as goal

-- the chains of the starts so far have gone on
abbrev pub invariant-loop-start : goal.invariant-loop-start
invariant-loop-start l = record {
  held : (i : ℕ) → l.first - length l.sheet.table.now ≤ i → i < l.start → HoldsWithin (length l.sheet.table.now + 1) (sized_tariff l.sheet.lone l.sheet.fence l.sheet.table.now) (length l.sheet.pairs.now) l.sheet.pairs.now l.sheet.prices.now l.first l.past i;
  gone : AreChains l.sheet.pairs.now (l.first - length l.sheet.table.now) l.start l.past l.chains.fences l.chains.pieces;
  waiting : AreChains l.sheet.pairs.now l.start l.first l.first l.chains.fences l.chains.pieces;
}
