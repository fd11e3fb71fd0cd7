use Rattle.std.proofs.Common.{◌≡◌, ◌⊎◌, List, map, Err}
use Rattle.dsa_calls.specs.declared.fault.PlanFault.TheVariants.{Memory}
use Rattle.dsa_operations.specs.declared.operation.Operation.{Operation}
use Rattle.dsa_operations.specs.declared.operation.Operation.TheVariants as operation
use Rattle.dsa_prepared.specs.declared.fault.PrepareFault.TheVariants.{Plan as InPlan}
use Rattle.dsa_prepared.specs.declared.preparing.Costed.{Costed}
use Rattle.dsa_prepared.specs.Preparing.{IsAnyCostedOf, IsFirstAnyPrepareFault}
use Rattle.dsa_prepared.proofs.AnyPreparation.{costed_any, first_any_or, no_cause_of_any, none_prepared, refused_any_by}
use Rattle.dsa_prepared.proofs.preparing_any.prepare_any_list.Goals as goal
use Rattle.dsa_prepared.proofs.preparing_any.prepare_any_list.Goals.{Else-is_of_other_bytes}

pub returns-in-Ok-clause-prepared : goal.returns-in-Ok-clause-prepared
returns-in-Ok-clause-prepared c =
    let found = c.in-Ok.ensures.prepared in
    (map operation.Descriptor found.0, costed_any c.args.list.now c.args.settings.now c.args.regions.now found.0 c.in-Ok.costed.prepared c.in-Ok.costed.cost found.1)

pub returns-in-Ok-clause-refused : goal.returns-in-Ok-clause-refused
returns-in-Ok-clause-refused c = λ fault first.
    let found = c.in-Ok.ensures.prepared in
    absurd (no_cause_of_any c.args.list.now c.args.settings.now c.args.regions.now (map operation.Descriptor found.0) c.in-Ok.costed.prepared c.in-Ok.costed.cost
    (costed_any c.args.list.now c.args.settings.now c.args.regions.now found.0 c.in-Ok.costed.prepared c.in-Ok.costed.cost found.1) fault first)

pub returns-then-is_of_other_bytes-clause-prepared : goal.returns-then-is_of_other_bytes-clause-prepared
returns-then-is_of_other_bytes-clause-prepared c =
    let none = none_prepared c.args.list.now c.args.settings.now c.args.regions.now c.in-Err.fault (c.is_of_other_bytes.ensures.0 c.if-is_of_other_bytes.true) c.in-Err.ensures.fault in
    c.prepare_operation_list.ensures.prepared none

pub returns-then-is_of_other_bytes-clause-fault : goal.returns-then-is_of_other_bytes-clause-fault
returns-then-is_of_other_bytes-clause-fault c =
    let none = none_prepared c.args.list.now c.args.settings.now c.args.regions.now c.in-Err.fault (c.is_of_other_bytes.ensures.0 c.if-is_of_other_bytes.true) c.in-Err.ensures.fault in
    c.prepare_operation_list.ensures.fault none

pub returns-then-is_of_other_bytes-clause-refused : goal.returns-then-is_of_other_bytes-clause-refused
returns-then-is_of_other_bytes-clause-refused c =
    let list = c.args.list.now in
    let s = c.args.settings.now in
    let rs = c.args.regions.now in
    let none = none_prepared list s rs c.in-Err.fault (c.is_of_other_bytes.ensures.0 c.if-is_of_other_bytes.true) c.in-Err.ensures.fault in
    refused_any_by list s rs (λ x. (os : List Operation) × IsAnyCostedOf list s rs os x.prepared x.cost) (λ x h. no_cause_of_any list s rs h.0 x.prepared x.cost h.1)
    c.prepare_operation_list.result (c.prepare_operation_list.ensures.prepared none) (c.prepare_operation_list.ensures.fault none)

told : (c : Else-is_of_other_bytes) → (c.in-Err.fault ≡ InPlan Memory) ⊎ IsFirstAnyPrepareFault c.args.list.now c.args.settings.now c.args.regions.now c.in-Err.fault
told c =
    first_any_or c.args.list.now c.args.settings.now c.args.regions.now c.in-Err.fault
    (λ cause is. let other = c.is_of_other_bytes.ensures.1 (cause, is) in cc) c.in-Err.ensures.fault

pub returns-else-is_of_other_bytes-clause-fault : goal.returns-else-is_of_other_bytes-clause-fault
returns-else-is_of_other_bytes-clause-fault c = told c

pub returns-else-is_of_other_bytes-clause-refused : goal.returns-else-is_of_other_bytes-clause-refused
returns-else-is_of_other_bytes-clause-refused c =
    refused_any_by c.args.list.now c.args.settings.now c.args.regions.now {X = Costed} (λ x. ⊥) (λ x none f first. none) (Err c.in-Err.fault) tt (told c)
