use Rattle.std.proofs.Common.{◌≡◌, true, false, subst, sym, ◌∙◌}
use Rattle.dsa_audit.specs.Members.{AreHazardsBetween}
use Rattle.dsa_waits.proofs.keys.key_of_wait.Goals as goal

pub returns-then-not-conflict_in_order : goal.returns-then-not-conflict_in_order
returns-then-not-conflict_in_order c key is =
    let yes = c.conflict_in_order.ensures.1 (is.0, is.1) in
    let end : true ≡ false = sym yes ∙ c.if-not-conflict_in_order.true in
    cc

pub returns : goal.returns
returns c =
    let ms = c.args.course.now.members.items in
    let both = c.conflict_in_order.ensures.0 c.if-not-conflict_in_order.false in
    let are : AreHazardsBetween ms c.args.earlier c.args.later c.hazards_between-hazards.result =
    subst (λ l. AreHazardsBetween l c.args.earlier c.args.later c.hazards_between-hazards.result) c.deref.ensures.value c.hazards_between-hazards.ensures in
    (both.0, both.1, (c.hazards_between-hazards.result, are, c.in_ok-key.ensures))
