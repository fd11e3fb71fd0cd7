use Rattle.std.proofs.Common.{◌≡◌, false, true}
use Rattle.dsa_jobs.proofs.Steps.{all_ended, last_served, last_part}
use Rattle.dsa_jobs.proofs.serving.serve_last.Goals as goal

pub returns-then-is_empty-clause-all : goal.returns-then-is_empty-clause-all
returns-then-is_empty-clause-all g c =
    λ is seen start so_far. all_ended seen c.args.line.now start _ (λ text holds. (c.is_empty.ensures text holds).0 c.if-is_empty.true) so_far

pub returns-then-answer-clause-all : goal.returns-then-answer-clause-all
returns-then-answer-clause-all g c =
    λ is seen start so_far.
    last_served seen c.args.line.now start _ _ (λ text holds none. let empty = (c.is_empty.ensures text holds).1 none in let some = c.if-is_empty.false in cc) c.if-answer.ensures.whole so_far

pub returns-else-answer-clause-write_fault : goal.returns-else-answer-clause-write_fault
returns-else-answer-clause-write_fault g c =
    λ is seen start so_far.
    last_part seen c.args.line.now start _ _ (λ text holds none. let empty = (c.is_empty.ensures text holds).1 none in let some = c.if-is_empty.false in cc) c.if-answer.ensures.prefix so_far
