use Rattle.std.proofs.Common.{◌≡◌, take}
use Rattle.dsa_emission.specs.Emission.{batched_count}
use Rattle.dsa_prepared.proofs.groups.batched_total.Given as goal

-- the pieces in batches of the groups so far
abbrev pub invariant-loop-group : goal.invariant-loop-group
invariant-loop-group l = l.total ≡ batched_count (take l.group-index l.groups)
