use Rattle.std.proofs.Common.{◌≡◌, true, false, ◌∙◌, sym}
use Rattle.dsa_operations.proofs.Order.{first_at, all_kept}
use Rattle.dsa_operations.proofs.reading.first_fault.Goals as goal

pub returns-then-not-keeps : goal.returns-then-not-keeps
returns-then-not-keeps c =
    first_at c.args.bytes.now c.args.op.now c.loop-fault.fault-index c.loop-fault.invariant c.loop-fault-test.true
    (λ h. let no : false ≡ true = sym c.if-not-keeps.true ∙ c.keeps.ensures.1 h in absurd cc)

pub returns : goal.returns
returns c = all_kept c.args.bytes.now c.args.op.now c.loop-fault.fault-index c.loop-fault.invariant c.loop-fault-test.false
