use Rattle.std.proofs.Common.{ℕ, ◌+◌, ◌-◌, ◌<◌, ◌≤◌, length}
use Rattle.dsa_plan.specs.Chain.{IsLastBelow}
use Rattle.dsa_checker.specs.Steps.{IsReach, StepHolds}
use Rattle.dsa_settings.specs.Settings.{sized_tariff}
use Rattle.dsa_checker.proofs.sized.first_bad_end.Given as goal

-- the steps to the ends so far hold
abbrev pub invariant-loop-end : goal.invariant-loop-end
invariant-loop-end l = record {
  held : (k : ℕ) → k < l.end → IsReach (length l.sheet.table.now + 1) (length l.sheet.pairs.now) l.start k → StepHolds (sized_tariff l.sheet.lone l.sheet.fence l.sheet.table.now) l.sheet.pairs.now l.sheet.prices.now l.start k;
  chain : IsLastBelow l.sheet.pairs.now l.start l.end l.fences l.piece;
  late : l.start + 2 ≤ l.end;
  within : l.end ≤ l.reach + 1;
}

abbrev pub decreases-loop-end : goal.decreases-loop-end
decreases-loop-end l = l.reach + 1 - l.end
