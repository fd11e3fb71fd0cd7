use Rattle.std.proofs.Common.{◌≡◌, drop, length, replicate}
use Rattle.dsa_prepared.specs.Templates.{units_from}
use Rattle.dsa_prepared.proofs.template.units_of.Given as goal

abbrev pub invariant-loop-operation : goal.invariant-loop-operation
invariant-loop-operation l =
    units_from l.regions l.units.items (drop l.operation-index l.operations) ≡ units_from l.regions (replicate (length l.regions) 1) l.operations
