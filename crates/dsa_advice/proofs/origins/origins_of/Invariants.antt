use Rattle.std.proofs.Common.{◌≡◌, ◌++◌, drop}
use Rattle.dsa_advice.specs.Origins.{origins_from}
use Rattle.dsa_advice.proofs.origins.origins_of.Given as goal

-- the origins so far, and those of what is left, are all
abbrev pub invariant-loop-operation : goal.invariant-loop-operation
invariant-loop-operation l =
    l.origins.items ++ origins_from l.settings.greatest_transfer l.operation (drop l.operation l.operations)
    ≡ origins_from l.settings.greatest_transfer 0 l.operations
