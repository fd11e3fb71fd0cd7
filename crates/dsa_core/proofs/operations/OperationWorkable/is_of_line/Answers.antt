use Rattle.dsa_core.proofs.OperationsFit.{of_descriptor_line}
use Rattle.dsa_core.proofs.operations.OperationWorkable.is_of_line.Goals as goal

pub returns-then-is_of_line : goal.returns-then-is_of_line
returns-then-is_of_line c =
    let told = c.is_of_line.ensures.0 c.if-is_of_line.true in
    let m = c.in-Descriptor-Descriptor in
    of_descriptor_line c.args.inputs.now c.args.self.now m.d m.own m.value c.args.line c.args.partial.now m.is-1 m.is-0 told.0 told.1 told.2
