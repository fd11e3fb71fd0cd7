use Rattle.std.proofs.Common.{◌≡◌, true, false, sym, ◌∙◌}
use Rattle.dsa_ranges.proofs.hazards.shared.Goals as goal

pub returns-else-meets : goal.returns-else-meets
returns-else-meets c a here there = let no : false ≡ true = sym c.if-meets.false ∙ c.meets.ensures.1 (a, here, there) in absurd cc
