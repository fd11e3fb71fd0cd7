use Rattle.std.proofs.Common.{◌+◌, ◌<◌, ◌≤◌, length, arith}
use Rattle.dsa_recording.proofs.Chain.{read_pushed}
use Rattle.dsa_recording.proofs.stream.submissions_of.Goals as goal

pub loop-at-smaller : goal.loop-at-smaller
loop-at-smaller c =
    let past : c.loop-at.at < c.in-Some.submission.first + c.in-Some.submission.size = c.in-Some.ensures.1 in
    let within : c.in-Some.submission.first + c.in-Some.submission.size ≤ length c.args.all.now = c.in-Some.ensures.2 in
    omega (arith, past, within)

pub loop-at-preserved : goal.loop-at-preserved
loop-at-preserved c = record {
  read =
      read_pushed c.args.all.now c.loop-at.at c.loop-at.list.items c.push.new.self.items c.in-Some.submission c.loop-at.invariant.read c.loop-at-test.true
      c.in-Some.ensures.0 c.in-Some.ensures.2 c.in_ok-push.ensures.items;
  within = c.in-Some.ensures.2;
}
