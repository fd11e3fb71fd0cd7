use Rattle.std.proofs.Common.{◌≡◌, List, map, subst}
use Rattle.dsa_descriptor.specs.declared.descriptor.Descriptor.{Descriptor}
use Rattle.dsa_calls.specs.Planned.{submission_of}
use Rattle.dsa_lists.specs.AnyLists.{IsOfDescriptors}
use Rattle.dsa_operations.specs.declared.operation.Operation.TheVariants as operation
use Rattle.dsa_lists.proofs.AnyLists.{fenced_any, fenced_cost, none_planned}
use Rattle.dsa_lists.proofs.pieces.plan_any_pieces.Goals as goal
use Rattle.dsa_lists.proofs.pieces.plan_any_pieces.Goals.{After-plan_ready}

none : (c : After-plan_ready) → ¬ IsOfDescriptors c.args.list.now
none c = none_planned c.args.list.now c.args.settings.now c.in-Err.fault (c.is_of_bytes.ensures.0 c.if-not-is_of_bytes.false) c.in-Err.ensures.answer

pub returns-in_ok-operations-in-Ok-clause-found : goal.returns-in_ok-operations-in-Ok-clause-found
returns-in_ok-operations-in-Ok-clause-found c =
    let pieces = c.in_ok-operations-in-Ok.operations.items in
    let is = subst (λ (ds : List Descriptor). pieces ≡ map operation.Descriptor ds) c.deref.ensures.value c.in_ok-operations-in-Ok.ensures in
    fenced_any c.args.list.now c.args.settings.now (submission_of c.in-Ok.planned) c.in-Ok.planned.barriers.items pieces c.in-Ok.ensures.answer c.in-Ok.ensures.barriers is

pub returns-else-not-is_of_bytes-clause-found : goal.returns-else-not-is_of_bytes-clause-found
returns-else-not-is_of_bytes-clause-found c = c.plan_ready.ensures.found (none c)

pub returns-else-not-is_of_bytes-clause-fault : goal.returns-else-not-is_of_bytes-clause-fault
returns-else-not-is_of_bytes-clause-fault c = c.plan_ready.ensures.fault (none c)

pub returns-in_ok-operations-in-Ok-clause-cost : goal.returns-in_ok-operations-in-Ok-clause-cost
returns-in_ok-operations-in-Ok-clause-cost c = fenced_cost c.args.list.now c.args.settings.now (submission_of c.in-Ok.planned) c.in-Ok.ensures.answer

pub returns-else-not-is_of_bytes-clause-cost : goal.returns-else-not-is_of_bytes-clause-cost
returns-else-not-is_of_bytes-clause-cost c = c.plan_ready.ensures.cost (none c)
