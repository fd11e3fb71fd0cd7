use Rattle.std.proofs.Common.{ℕ, ◌<◌}
use Rattle.dsa_settings.specs.Barriers.{IsBarrierPair}
use Rattle.dsa_settings.specs.LegalFaults.{HasNoUnfenced}
use Rattle.dsa_settings.proofs.keeping.first_unkept_within.Given as goal

-- no pair has a second piece so far
abbrev pub invariant-loop-at : goal.invariant-loop-at
invariant-loop-at l = record {
  from : l.start < l.at;
  none : (j : ℕ) → j < l.at → HasNoUnfenced (IsBarrierPair l.barriers) l.start l.group j;
}
