use Rattle.std.proofs.Common.{◌≡◌, take}
use Rattle.dsa_prepared.specs.Templates.{ties_of}
use Rattle.dsa_prepared.proofs.template.ties_of.Given as goal

abbrev pub invariant-loop-operation : goal.invariant-loop-operation
invariant-loop-operation l = l.ties.items ≡ ties_of l.regions (take l.operation-index l.operations)
