use Rattle.std.proofs.Common.{◌≡◌, map, take}
use Rattle.std.specs.Prelude.{string_bytes}
use Rattle.dsa_operations.specs.OperationFields.{operation_fields}
use Rattle.dsa_lines.specs.Barriers.{list_text}
use Rattle.dsa_lines.proofs.disassembling.text_with_barriers.Given as goal

-- the text of the operations so far
abbrev pub invariant-loop-index : goal.invariant-loop-index
invariant-loop-index l = string_bytes l.text ≡ list_text (take l.index (map operation_fields l.operations)) l.marks
