use Rattle.std.proofs.Common.{[], ◌∷◌, ◌++◌, take, sym, ap, ◌∙◌}
use Rattle.dsa_report.specs.Plan.{most_groups}
use Rattle.dsa_report.proofs.KeptPlans.{few_groups, kept_rest, kept_whole}
use Rattle.dsa_report.proofs.plan.Groups.into_plan.Goals as goal

pub returns-then-not-has_rest : goal.returns-then-not-has_rest
returns-then-not-has_rest c = λ plan are.
    let few = few_groups most_groups plan c.args.self.has_rest are.has_rest c.if-not-has_rest.true in
    c.new.ensures ∙ are.first ∙ sym (kept_whole most_groups plan few)

pub returns : goal.returns
returns c = λ plan are.
    let many = are.has_rest.0 c.if-not-has_rest.false in
    c.new-3.ensures ∙ c.in_ok-push.ensures.items ∙ ap (λ l. l ++ c.new-2.result ∷ []) are.first
    ∙ ap (λ g. take most_groups plan ++ g ∷ []) (c.new-2.ensures ∙ are.rest)
    ∙ sym (kept_rest most_groups plan many)
