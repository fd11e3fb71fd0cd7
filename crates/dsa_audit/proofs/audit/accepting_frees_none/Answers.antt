use Rattle.std.specs.Prelude.{IsTrue}
use Rattle.dsa_audit.proofs.Accepting.{frees_none}
use Rattle.dsa_audit.proofs.audit.accepting_frees_none.Goals as goal

pub returns : goal.returns
returns c lists actions operands members fallible visible g a b is_a is_b k given f =
    frees_none (λ i j. IsTrue (lists i j)) actions operands members fallible visible g a b is_a is_b k given f
