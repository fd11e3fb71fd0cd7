use Rattle.std.proofs.Common.{inl, inr, refl}
use Rattle.dsa_core.proofs.RoomSteps.{halted_is, halted_so, refused_is, can_is, step_kept, step_shown}
use Rattle.dsa_core.proofs.room.RoomOf.step.Goals as goal

pub returns-then-self-clause-answer : goal.returns-then-self-clause-answer
returns-then-self-clause-answer g c = (inl (halted_so g.P.Workable.work c.self.invariant.fits c.self.inside _ c.self.view_is c.self.invariant c.if-self.true), refl)

pub returns-then-not-can-clause-answer : goal.returns-then-not-can-clause-answer
returns-then-not-can-clause-answer g c = (inr (refused_is g.P.Workable.work c.self.invariant.fits c.self.inside _ c.self.view_is c.self.invariant c.args.event c.can.result c.can.ensures.1 c.if-not-can.true), refl)

pub invariant_of-self : goal.invariant_of-self
invariant_of-self g c =
    step_kept g.P.Workable.work c.self.invariant.fits c.self.inside _ c.self.view_is c.self.invariant c.args.event c.go.new.self c.go.ensures c.push.result c.push.new.self c.push.ensures.items c.push.ensures.succeeds c.push.ensures.capacity

pub returns-clause-answer : goal.returns-clause-answer
returns-clause-answer g c = (
  halted_is g.P.Workable.work c.self.invariant.fits c.self.inside _ c.self.view_is c.self.invariant c.if-self.false,
  can_is g.P.Workable.work c.self.invariant.fits c.self.inside _ c.self.view_is c.self.invariant c.args.event (c.can.ensures.0 c.if-not-can.false),
  step_shown g.P.Workable.work c.self.invariant.fits c.self.inside _ c.self.view_is c.self.invariant c.args.event c.go.new.self c.go.ensures c.push.result c.push.new.self c.push.ensures.items c.push.ensures.succeeds c.push.ensures.capacity,
)

pub go-requires : goal.go-requires
go-requires g c = c.can.ensures.0 c.if-not-can.false
