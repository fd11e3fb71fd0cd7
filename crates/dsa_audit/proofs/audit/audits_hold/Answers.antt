use Rattle.std.specs.Prelude.{IsTrue}
use Rattle.dsa_audit.proofs.Held.{held}
use Rattle.dsa_audit.proofs.audit.audits_hold.Goals as goal

pub returns : goal.returns
returns c truth lists actions operands members fallible visible ks g h k places uses between corrected reduced =
    held actions operands members fallible visible ks (λ i j. IsTrue (truth i j)) (λ i j. IsTrue (lists i j)) g h k places uses between corrected reduced
