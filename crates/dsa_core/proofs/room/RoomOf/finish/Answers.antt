use Rattle.std.proofs.Common.{refl}
use Rattle.dsa_core.specs.declared.event.Kind.TheVariants.{Finish}
use Rattle.dsa_core.specs.Run.{event}
use Rattle.dsa_core.specs.Standings.{GivesRecord}
use Rattle.dsa_core.specs.Accounts.{room_setup}
use Rattle.dsa_core.proofs.RoomSteps.{now_is, halted_is, idle_is, can_is, step_kept, step_shown, known_engine}
use Rattle.dsa_core.proofs.room.RoomOf.finish.Goals as goal

pub returns-in_default-clause-answer : goal.returns-in_default-clause-answer
returns-in_default-clause-answer g c = (
  (
    halted_is g.P.Workable.work c.self.invariant.fits c.self.inside _ c.self.view_is c.self.invariant c.if-self.false,
    idle_is g.P.Workable.work c.self.invariant.fits c.self.inside _ c.self.view_is c.self.invariant c.args.engine c.in_default.ensures,
  ),
  refl,
)

pub invariant_of-self : goal.invariant_of-self
invariant_of-self g c =
    step_kept g.P.Workable.work c.self.invariant.fits c.self.inside _ c.self.view_is c.self.invariant (event c.args.engine Finish c.in-Some.piece) c.finish-record.new.self c.finish-record.ensures.leads c.push.result c.push.new.self c.push.ensures.items c.push.ensures.succeeds c.push.ensures.capacity

pub returns-clause-answer : goal.returns-clause-answer
returns-clause-answer g c = (
  halted_is g.P.Workable.work c.self.invariant.fits c.self.inside _ c.self.view_is c.self.invariant c.if-self.false,
  (
    c.in-Some.piece,
    can_is g.P.Workable.work c.self.invariant.fits c.self.inside _ c.self.view_is c.self.invariant (event c.args.engine Finish c.in-Some.piece) (_, c.finish-record.ensures.leads.step),
    step_shown g.P.Workable.work c.self.invariant.fits c.self.inside _ c.self.view_is c.self.invariant (event c.args.engine Finish c.in-Some.piece) c.finish-record.new.self c.finish-record.ensures.leads c.push.result c.push.new.self c.push.ensures.items c.push.ensures.succeeds c.push.ensures.capacity,
    now_is g.P.Workable.work c.self.invariant.fits c.self.inside _ c.self.view_is c.self.invariant (λ y s. GivesRecord g.P.Workable.work (room_setup y) c.args.engine c.in-Some.piece c.finish-record.result s) c.finish-record.ensures.written,
  ),
)

pub held_by-requires : goal.held_by-requires
held_by-requires g c = known_engine g.P.Workable.work c.self.invariant.fits c.self.inside _ c.self.view_is c.self.invariant c.args.engine c.requires

pub has_lines_left-requires : goal.has_lines_left-requires
has_lines_left-requires g c = c.in-Some.ensures

pub finish-record-requires : goal.finish-record-requires
finish-record-requires g c = c.if-has_lines_left.ensures.0
