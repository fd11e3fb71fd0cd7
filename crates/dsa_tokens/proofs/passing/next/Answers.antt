use Rattle.std.proofs.Common.{refl}
use Rattle.dsa_tokens.proofs.Grammar.{refuses_empty}
use Rattle.dsa_tokens.proofs.passing.next.Goals as goal

pub returns-in-None-clause-err : goal.returns-in-None-clause-err
returns-in-None-clause-err c = (refl, λ depth. rw c.in-None.ensures.value.0 (refuses_empty depth))
