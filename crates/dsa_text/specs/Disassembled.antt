-- What disassembling a list answers (this project's choice).
use Rattle.std.specs.Prelude.{◌≡◌, ℕ, Bool, List, map, string_bytes}
use Rattle.std.specs.List.{flat_map}
use Rattle.dsa_descriptor.specs.declared.fault.ListFault.{ListFault}
use Rattle.dsa_descriptor.specs.Fences.{seen_barriers, seen_list}
use Rattle.dsa_descriptor.specs.Lists.{AreOfOneOwner, IsFirstFaultBy}
use Rattle.dsa_operations.specs.declared.operation.Operation.{Operation}
use Rattle.dsa_operations.specs.Faults.{OperationKeeps}
use Rattle.dsa_operations.specs.OperationFields.{operation_fields}
use Rattle.dsa_operations.specs.Operations.{spelling_of}
use Rattle.dsa_lines.specs.Barriers.{list_text}
use Rattle.dsa_calls.specs.Fault.{list_cause}
use Rattle.dsa_advice.specs.declared.answer.Answer.{Answer}
use Rattle.dsa_advice.specs.Refusals.{IsRefusal}

-- The canonical text of the list, or its first fault. If fences are kept, each is a barrier but for one before the first
-- operation; else a fence is a fault.
pub data DisassemblesList (keep_fences : Bool) (list : List ℕ) (a : Answer) : Type 0 where
  is_listed : (operations : List Operation) → seen_list keep_fences list ≡ flat_map spelling_of operations → AreOfOneOwner spelling_of operations → a.status ≡ 0
      → string_bytes a.text ≡ list_text (map operation_fields operations) (seen_barriers keep_fences list) → DisassemblesList keep_fences list a
  is_refused : (fault : ListFault) → IsFirstFaultBy OperationKeeps (seen_list keep_fences list) fault → IsRefusal (list_cause fault) a → DisassemblesList keep_fences list a
