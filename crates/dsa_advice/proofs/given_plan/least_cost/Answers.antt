use Rattle.std.proofs.Common.{Bool, List, Ok, subst, refl, map}
use Rattle.dsa_descriptor.specs.Descriptors.{fields}
use Rattle.dsa_calls.specs.Fenced.{PlansWith}
use Rattle.dsa_calls.specs.Planned.{submission_of}
use Rattle.dsa_calls.proofs.Unfenced.{no_marks_plan_alike}
use Rattle.dsa_advice.proofs.given_plan.least_cost.Goals as goal

pub returns-in-Ok : goal.returns-in-Ok
returns-in-Ok c =
    let s = c.args.settings.now in
    let list = c.args.list.now in
    let p = submission_of c.in-Ok.planned in
    let plain = subst (λ (marks : List Bool). PlansWith marks s (map fields list.descriptors.items) (Ok p)) c.requires c.in-Ok.ensures.answer in
    (p, (no_marks_plan_alike s (map fields list.descriptors.items) (Ok p)).0 plain, refl)
