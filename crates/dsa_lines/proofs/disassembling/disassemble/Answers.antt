use Rattle.dsa_descriptor.specs.Fences.{seen_list}
use Rattle.dsa_descriptor.proofs.Entries.{sound_by}
use Rattle.dsa_operations.specs.declared.operation.Operation.{Operation}
use Rattle.dsa_operations.specs.Faults.{OperationKeeps}
use Rattle.dsa_operations.specs.Operations.{spelling_of}
use Rattle.dsa_operations.proofs.Answered.{are_operations}
use Rattle.dsa_lines.proofs.disassembling.disassemble.Goals as goal

pub returns-clause-fault : goal.returns-clause-fault
returns-clause-fault c =
    let list = c.in_ok-list.list in
    sound_by Operation spelling_of OperationKeeps are_operations (seen_list c.args.keep_fences c.args.bytes.now) list.entries.items c.in_ok-list.ensures.found list.one_owner
