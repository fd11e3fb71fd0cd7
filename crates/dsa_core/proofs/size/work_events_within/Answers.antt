use Rattle.std.proofs.Common.{◌+◌, arith}
use Rattle.dsa_core.proofs.EventCounts.{more_events, events_so_far}
use Rattle.dsa_core.proofs.size.work_events_within.Goals as goal

pub returns-then-more-gt-MOST_EVENTS : goal.returns-then-more-gt-MOST_EVENTS
returns-then-more-gt-MOST_EVENTS g c =
    let more = more_events g.P.Workable.work c.args.pieces.now c.loop-d.d-index c.d-item.result c.loop-d-test.true c.d-item.is in
    let all = events_so_far g.P.Workable.work c.args.pieces.now (c.loop-d.d-index + 1) in
    omega (arith, more, all, c.line_count-more.ensures, c.if-more-gt-MOST_EVENTS.true)

pub returns-then-total-gt-MOST_EVENTS : goal.returns-then-total-gt-MOST_EVENTS
returns-then-total-gt-MOST_EVENTS g c =
    let more = more_events g.P.Workable.work c.args.pieces.now c.loop-d.d-index c.d-item.result c.loop-d-test.true c.d-item.is in
    let all = events_so_far g.P.Workable.work c.args.pieces.now (c.loop-d.d-index + 1) in
    omega (arith, more, all, c.line_count-more.ensures, c.if-total-gt-MOST_EVENTS.true, c.loop-d.invariant.0)

pub loop-d-preserved : goal.loop-d-preserved
loop-d-preserved g c =
    let more = more_events g.P.Workable.work c.args.pieces.now c.loop-d.d-index c.d-item.result c.loop-d-test.true c.d-item.is in
    (omega (arith, more, c.line_count-more.ensures, c.loop-d.invariant.0), omega arith)
