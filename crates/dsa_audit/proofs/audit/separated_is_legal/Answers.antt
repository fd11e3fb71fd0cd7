use Rattle.std.specs.Prelude.{IsTrue}
use Rattle.dsa_audit.proofs.Held.{separates}
use Rattle.dsa_audit.proofs.audit.separated_is_legal.Goals as goal

pub returns : goal.returns
returns c truth start g apart = separates (λ i j. IsTrue (truth i j)) start g apart
