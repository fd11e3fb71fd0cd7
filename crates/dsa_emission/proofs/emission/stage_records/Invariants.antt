use Rattle.std.proofs.Common.{◌≡◌, ◌*◌, ◌++◌, replicate}
use Rattle.dsa_emission.proofs.emission.stage_records.Given as goal

-- the room so far
abbrev pub invariant-loop-batch : goal.invariant-loop-batch
invariant-loop-batch l = l.staging.items ≡ l.initial.staging.items ++ replicate (32 * l.batch) 0
