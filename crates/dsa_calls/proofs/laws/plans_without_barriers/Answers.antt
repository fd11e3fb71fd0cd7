use Rattle.dsa_calls.proofs.Unfenced.{no_marks_plan_alike, no_barriers_plan_alike, no_fences_plan_alike}
use Rattle.dsa_calls.proofs.laws.plans_without_barriers.Goals as goal

pub returns-clause-operations : goal.returns-clause-operations
returns-clause-operations c = no_marks_plan_alike

pub returns-clause-first : goal.returns-clause-first
returns-clause-first c = no_barriers_plan_alike

pub returns-clause-none : goal.returns-clause-none
returns-clause-none c = no_fences_plan_alike
