use Rattle.std.proofs.Common.{false, sym, ◌∙◌}
use Rattle.serde_json.specs.Data.{boolean}
use Rattle.dsa_report.proofs.Arrays.{next_added, array_added}
use Rattle.dsa_report.proofs.compact.push_group.Goals as goal

pub loop-fence-preserved : goal.loop-fence-preserved
loop-fence-preserved c =
    next_added boolean c.in-Some.rest.now c.loop-fence.fence-index false c.loop-fence.line.items c.push-in-loop-fence.new.self.items c.push_fence-in-loop-fence.new.line.items _
    c.loop-fence-test.true c.in_ok-push-2.ensures.items c.in_ok-push_fence-2.ensures c.loop-fence.invariant

pub returns : goal.returns
returns c =
    array_added boolean c.in-Some.first.now c.in-Some.rest.now c.args.group.now c.args.line.now.items c.push.new.self.items c.push_fence.new.line.items c.loop-fence.line.items
    c.push-2.new.self.items c.loop-fence.fence-index (sym c.fences.ensures ∙ c.in-Some.ensures.cases.0) c.in_ok-push.ensures.items c.in_ok-push_fence.ensures c.loop-fence-test.false c.loop-fence.invariant c.in_ok-push-3.ensures.items
