use Rattle.std.proofs.Common.{map}
use Rattle.dsa_core.specs.Outcomes.{room_with}
use Rattle.dsa_core.proofs.Replaying.{refused_at, outcome_at, unfinished_at, made_is_short, same_long, same_fault}
use Rattle.dsa_core.proofs.trace.replay_work.Goals as goal

pub returns-then-not-step-clause-answer : goal.returns-then-not-step-clause-answer
returns-then-not-step-clause-answer g c =
    refused_at g.P.Workable.work c.args.image.now c.args.plan.now (map g.P.Workable.work.shown c.args.pieces.now) c.args.engines c.args.trace.now c.loop-i.i c.loop-i.room c.loop-i.invariant _ c.loop-i-test.true c.if-not-step.ensures.answer.0

pub returns-in-Ok-clause-answer : goal.returns-in-Ok-clause-answer
returns-in-Ok-clause-answer g c =
    outcome_at g.P.Workable.work c.args.image.now c.args.plan.now (map g.P.Workable.work.shown c.args.pieces.now) c.args.engines c.args.trace.now c.loop-i.i c.loop-i.room c.loop-i.invariant c.in-Ok.outcome c.loop-i-test.false c.in-Ok.ensures

pub returns-in-Err-clause-answer : goal.returns-in-Err-clause-answer
returns-in-Err-clause-answer g c =
    unfinished_at g.P.Workable.work c.args.image.now c.args.plan.now (map g.P.Workable.work.shown c.args.pieces.now) c.args.engines c.args.trace.now c.loop-i.i c.loop-i.room c.loop-i.invariant c.loop-i-test.false c.in-Err.ensures.0

pub returns-then-not-step-clause-too_long : goal.returns-then-not-step-clause-too_long
returns-then-not-step-clause-too_long g c = made_is_short c.in_ok-room.room c.in_ok-room.ensures.too_long _ (λ is. cc)

pub returns-in-Ok-clause-too_long : goal.returns-in-Ok-clause-too_long
returns-in-Ok-clause-too_long g c = made_is_short c.in_ok-room.room c.in_ok-room.ensures.too_long _ (λ is. cc)

pub returns-in-Err-clause-too_long : goal.returns-in-Err-clause-too_long
returns-in-Err-clause-too_long g c = made_is_short c.in_ok-room.room c.in_ok-room.ensures.too_long _ (λ is. cc)

pub returns-in_err-room-clause-too_long : goal.returns-in_err-room-clause-too_long
returns-in_err-room-clause-too_long g c = same_long g.P.Workable.work c.in_err-room.field-0.0 c.from_residual.result c.from_residual.ensures.1 c.in_err-room.ensures.too_long

pub returns-in_err-room-clause-answer : goal.returns-in_err-room-clause-answer
returns-in_err-room-clause-answer g c =
    same_fault g.P.Workable.work c.in_err-room.field-0.0 (room_with c.args.image.now c.args.plan.now (map g.P.Workable.work.shown c.args.pieces.now) c.args.engines) c.args.trace.now c.from_residual.result c.from_residual.ensures.1 c.in_err-room.ensures.too_long c.in_err-room.ensures.faults
