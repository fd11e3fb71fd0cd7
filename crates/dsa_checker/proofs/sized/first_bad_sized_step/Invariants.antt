use Rattle.std.proofs.Common.{ℕ, ◌+◌, ◌<◌, length}
use Rattle.dsa_checker.specs.Steps.{StepsHoldFrom}
use Rattle.dsa_settings.specs.Settings.{sized_tariff}
use Rattle.dsa_checker.proofs.sized.first_bad_sized_step.Given as goal

-- the steps from the starts so far hold
abbrev pub invariant-loop-start : goal.invariant-loop-start
invariant-loop-start l = (k : ℕ) → k < l.start → StepsHoldFrom (length l.sheet.table.now + 1) (sized_tariff l.sheet.lone l.sheet.fence l.sheet.table.now) (length l.sheet.pairs.now) l.sheet.pairs.now l.sheet.prices.now k
