use Rattle.std.proofs.Common.{ℕ, ◌<◌}
use Rattle.dsa_settings.specs.LegalFaults.{HasNoUnfenced}
use Rattle.dsa_settings.proofs.legal.first_unfenced_within.Given as goal

-- no pair has a second piece so far
abbrev pub invariant-loop-at : goal.invariant-loop-at
invariant-loop-at g l = (j : ℕ) → j < l.at → HasNoUnfenced (g.P.Touching.conflict l.pieces) l.start l.group j
