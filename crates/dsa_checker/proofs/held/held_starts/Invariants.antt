use Rattle.std.proofs.Common.{ℕ, ◌+◌, ◌-◌, ◌≤◌, length}
use Rattle.dsa_settings.specs.Settings.{sized_tariff}
use Rattle.dsa_checker.specs.Steps.{IsReach, StepHolds}
use Rattle.dsa_checker.specs.Blocks.{AreChains}
use Rattle.dsa_checker.proofs.held.held_starts.Given as goal

-- the steps to the ends so far hold
abbrev pub invariant-loop-first : goal.invariant-loop-first
invariant-loop-first l = record {
  within : l.first ≤ length l.sheet.pairs.now;
  held : (i j : ℕ) → j ≤ l.first → IsReach (length l.sheet.table.now + 1) (length l.sheet.pairs.now) i j → StepHolds (sized_tariff l.sheet.lone l.sheet.fence l.sheet.table.now) l.sheet.pairs.now l.sheet.prices.now i j;
  chains : AreChains l.sheet.pairs.now (l.first - length l.sheet.table.now) l.first l.first l.chains.fences l.chains.pieces;
}

abbrev pub decreases-loop-first : goal.decreases-loop-first
decreases-loop-first l = length l.sheet.pairs.now - l.first
