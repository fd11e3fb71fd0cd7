use Rattle.std.proofs.Common.{◌≡◌}
use Rattle.dsa_emission.specs.Emission.{place_of}
use Rattle.dsa_emission.proofs.emission.end_of.Given as goal

-- the place of the next group
abbrev pub invariant-loop-group : goal.invariant-loop-group
invariant-loop-group l = l.place ≡ place_of l.groups l.group-index
