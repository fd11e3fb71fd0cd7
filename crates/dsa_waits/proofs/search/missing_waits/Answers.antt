use Rattle.std.proofs.Common.{◌≡◌, length, arith}
use Rattle.dsa_waits.proofs.Courses.{all_done}
use Rattle.dsa_waits.proofs.UsedWaits.{used_all}
use Rattle.dsa_waits.proofs.search.missing_waits.Goals as goal

pub returns-clause-count : goal.returns-clause-count
returns-clause-count c =
    let end : length c.args.course.now.events.items ≡ c.loop-k.k =
    omega (arith, c.loop-k-test.false, c.loop-k.auto.k-end, c.len-k-end.ensures, c.args.course.now.events.ok) in
    all_done c.args.keyed.accepted.now c.args.keyed.all.now c.args.keyed.submissions.now c.args.course.now c.loop-k.k c.loop-k.flying c.requires end c.loop-k.invariant

pub returns-clause-used : goal.returns-clause-used
returns-clause-used c =
    let end : length c.args.course.now.events.items ≡ c.loop-k.k =
    omega (arith, c.loop-k-test.false, c.loop-k.auto.k-end, c.len-k-end.ensures, c.args.course.now.events.ok) in
    used_all c.args.keyed.accepted.now c.args.keyed.all.now c.args.keyed.submissions.now c.args.course.now c.loop-k.flying.used (length c.loop-k.flying.waits.items) c.requires
    (all_done c.args.keyed.accepted.now c.args.keyed.all.now c.args.keyed.submissions.now c.args.course.now c.loop-k.k c.loop-k.flying c.requires end c.loop-k.invariant)
    c.loop-k.invariant.used
