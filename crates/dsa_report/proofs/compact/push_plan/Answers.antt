use Rattle.std.proofs.Common.{List, ◌++◌, Bool, ap, sym, ◌∙◌}
use Rattle.serde_json.specs.Written.{compact_text}
use Rattle.dsa_report.specs.Plan.{group_value}
use Rattle.dsa_report.proofs.Arrays.{next_added, array_added}
use Rattle.dsa_report.proofs.compact.push_plan.Goals as goal

pub loop-group-preserved : goal.loop-group-preserved
loop-group-preserved c =
    next_added group_value c.in-Some.rest.now c.loop-group.group-index c.group-item.result c.loop-group.line.items c.push-in-loop-group.new.self.items c.push_group-in-loop-group.new.line.items _
    c.loop-group-test.true c.in_ok-push-2.ensures.items (c.in_ok-push_group-2.ensures ∙ ap (λ (g : List Bool). c.push-in-loop-group.new.self.items ++ compact_text (group_value g)) c.group-item.is) c.loop-group.invariant

pub returns : goal.returns
returns c =
    array_added group_value c.in-Some.first.now c.in-Some.rest.now c.args.plan.now c.args.line.now.items c.push.new.self.items c.push_group.new.line.items c.loop-group.line.items
    c.push-2.new.self.items c.loop-group.group-index (sym c.groups.ensures ∙ c.in-Some.ensures.cases.0) c.in_ok-push.ensures.items c.in_ok-push_group.ensures c.loop-group-test.false c.loop-group.invariant c.in_ok-push-3.ensures.items
