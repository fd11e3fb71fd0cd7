use Rattle.std.proofs.Common.{◌≡◌, ◌++◌, ℕ, List, map, sym, ap, ◌∙◌, arith}
use Rattle.std.specs.Prelude.{Some, slice_get}
use Rattle.dsa_operations.specs.OperationFields.{operation_fields}
use Rattle.dsa_lines.specs.Barriers.{barrier_line}
use Rattle.dsa_lines.specs.Texts.{text_line}
use Rattle.dsa_lines.proofs.Marks.{field_at, none_written, text_more}
use Rattle.dsa_lines.proofs.disassembling.text_with_barriers.Goals as goal

pub loop-index-init : goal.loop-index-init
loop-index-init c = c.new-text.ensures.bytes ∙ sym (none_written c.args.marks.now)

pub loop-index-preserved : goal.loop-index-preserved
loop-index-preserved c =
    let here : slice_get (map operation_fields c.args.operations.now) c.loop-index.index ≡ Some (operation_fields c.index-operations-index.result) =
    field_at c.args.operations.now c.loop-index.index c.index-operations-index.result (omega (arith, c.loop-index-test.true)) c.index-operations-index.is in
    c.in_ok-push_marked.ensures
    ∙ ap (λ (t : List ℕ). t ++ (barrier_line c.mark_at.result ++ text_line (operation_fields c.index-operations-index.result))) c.loop-index.invariant
    ∙ rw c.mark_at.ensures (sym (text_more (map operation_fields c.args.operations.now) c.args.marks.now c.loop-index.index (operation_fields c.index-operations-index.result) here))
