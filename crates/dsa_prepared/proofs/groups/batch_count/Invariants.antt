use Rattle.std.proofs.Common.{◌≡◌, take}
use Rattle.dsa_emission.specs.Emission.{batch_count}
use Rattle.dsa_prepared.proofs.groups.batch_count.Given as goal

-- the batches of the groups so far
abbrev pub invariant-loop-group : goal.invariant-loop-group
invariant-loop-group l = l.count ≡ batch_count (take l.group-index l.groups)
