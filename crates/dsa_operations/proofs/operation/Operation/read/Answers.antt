use Rattle.std.proofs.Common.{Ok, Err, refl, sym, ◌∙◌}
use Rattle.dsa_descriptor.proofs.Entries.{only_this, this_fault}
use Rattle.dsa_operations.specs.declared.operation.Operation.{Operation}
use Rattle.dsa_operations.specs.declared.operation.Operation.TheVariants as operation
use Rattle.dsa_operations.specs.Faults.{IsFirstOperationFault, OperationKeeps}
use Rattle.dsa_operations.specs.Operations.{spelling_of}
use Rattle.dsa_operations.proofs.Answered.{are_operations, fault_of_checksum, fault_of_descriptor}
use Rattle.dsa_operations.proofs.operation.Operation.read.Goals as goal

pub returns-in-Ok-clause-only : goal.returns-in-Ok-clause-only
returns-in-Ok-clause-only c = only_this Operation spelling_of OperationKeeps are_operations c.args.bytes.now (Ok (operation.Descriptor c.in-Ok.descriptor)) (c.in-Ok.ensures.found, tt)

pub returns-in-Ok-clause-fault : goal.returns-in-Ok-clause-fault
returns-in-Ok-clause-fault c = this_fault Operation spelling_of OperationKeeps are_operations c.args.bytes.now (Ok (operation.Descriptor c.in-Ok.descriptor)) (c.in-Ok.ensures.found, tt)

pub returns-in-Err-clause-only : goal.returns-in-Err-clause-only
returns-in-Err-clause-only c =
    let first : IsFirstOperationFault c.args.bytes.now c.in-Err.fault =
    fault_of_descriptor c.args.bytes.now c.in-Err.fault (sym c.checksum_at.ensures ∙ c.in_default.is) ((c.in-Err.ensures.fault c.in-Err.fault).0 refl) in
    only_this Operation spelling_of OperationKeeps are_operations c.args.bytes.now (Err c.in-Err.fault) (tt, first)

pub returns-in-Err-clause-fault : goal.returns-in-Err-clause-fault
returns-in-Err-clause-fault c =
    let first : IsFirstOperationFault c.args.bytes.now c.in-Err.fault =
    fault_of_descriptor c.args.bytes.now c.in-Err.fault (sym c.checksum_at.ensures ∙ c.in_default.is) ((c.in-Err.ensures.fault c.in-Err.fault).0 refl) in
    this_fault Operation spelling_of OperationKeeps are_operations c.args.bytes.now (Err c.in-Err.fault) (tt, first)

pub returns-in-Some-first_fault-clause-only : goal.returns-in-Some-first_fault-clause-only
returns-in-Some-first_fault-clause-only c =
    let fault = c.in-Some-first_fault.fault in
    let first : IsFirstOperationFault c.args.bytes.now fault = fault_of_checksum c.args.bytes.now c.in-Some.op fault (sym c.checksum_at.ensures ∙ c.in-Some.is) c.in-Some-first_fault.ensures in
    only_this Operation spelling_of OperationKeeps are_operations c.args.bytes.now (Err fault) (tt, first)

pub returns-in-Some-first_fault-clause-fault : goal.returns-in-Some-first_fault-clause-fault
returns-in-Some-first_fault-clause-fault c =
    let fault = c.in-Some-first_fault.fault in
    let first : IsFirstOperationFault c.args.bytes.now fault = fault_of_checksum c.args.bytes.now c.in-Some.op fault (sym c.checksum_at.ensures ∙ c.in-Some.is) c.in-Some-first_fault.ensures in
    this_fault Operation spelling_of OperationKeeps are_operations c.args.bytes.now (Err fault) (tt, first)

pub returns-clause-only : goal.returns-clause-only
returns-clause-only c = only_this Operation spelling_of OperationKeeps are_operations c.args.bytes.now (Ok (operation.Checksum c.spelled.result)) (c.spelled.ensures, tt)

pub returns-clause-fault : goal.returns-clause-fault
returns-clause-fault c = this_fault Operation spelling_of OperationKeeps are_operations c.args.bytes.now (Ok (operation.Checksum c.spelled.result)) (c.spelled.ensures, tt)
