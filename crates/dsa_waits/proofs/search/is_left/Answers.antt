use Rattle.std.proofs.Common.{arith}
use Rattle.dsa_waits.proofs.search.is_left.Goals as goal

pub returns-then-earlier-last-clause-left : goal.returns-then-earlier-last-clause-left
returns-then-earlier-last-clause-left c = (
  (λ f. absurd cc),
  (λ left. absurd (omega (arith, c.if-earlier-last.true, c.requires.last.1 c.args.earlier (c.requires.before, left.0)))),
)
