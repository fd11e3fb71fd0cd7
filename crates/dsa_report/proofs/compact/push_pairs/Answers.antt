use Rattle.std.proofs.Common.{None}
use Rattle.dsa_cert.specs.Document.{pair_value}
use Rattle.dsa_report.proofs.Arrays.{next_added, array_added}
use Rattle.dsa_report.proofs.compact.push_pairs.Goals as goal

pub loop-pair-preserved : goal.loop-pair-preserved
loop-pair-preserved c =
    next_added pair_value c.in-Some.rest.now c.loop-pair.pair-index None c.loop-pair.line.items c.push-in-loop-pair.new.self.items c.push_pair-in-loop-pair.new.line.items _
    c.loop-pair-test.true c.in_ok-push-2.ensures.items c.in_ok-push_pair-2.ensures c.loop-pair.invariant

pub returns : goal.returns
returns c =
    array_added pair_value c.in-Some.first.now c.in-Some.rest.now c.args.pairs.now c.args.line.now.items c.push.new.self.items c.push_pair.new.line.items c.loop-pair.line.items
    c.push-2.new.self.items c.loop-pair.pair-index c.in-Some.ensures.cases.0 c.in_ok-push.ensures.items c.in_ok-push_pair.ensures c.loop-pair-test.false c.loop-pair.invariant c.in_ok-push-3.ensures.items
