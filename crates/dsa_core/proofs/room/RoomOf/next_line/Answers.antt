use Rattle.std.proofs.Common.{inr, arith, inl}
use Rattle.dsa_core.specs.Run.{event}
use Rattle.dsa_core.specs.declared.event.Kind.TheVariants.{Line}
use Rattle.dsa_core.proofs.RoomSteps.{no_line_is, idle_no_line, unknown_no_line, halted_so, halted_is, can_is}
use Rattle.dsa_core.proofs.room.RoomOf.next_line.Goals as goal

pub returns-then-engine-engines : goal.returns-then-engine-engines
returns-then-engine-engines g c = inr (unknown_no_line g.P.Workable.work c.self.invariant.fits c.self.inside _ c.self.view_is c.self.invariant c.args.engine (omega (arith, c.engines.ensures, c.if-engine-engines.true)))

pub returns-in_default : goal.returns-in_default
returns-in_default g c = inr (idle_no_line g.P.Workable.work c.self.invariant.fits c.self.inside _ c.self.view_is c.self.invariant c.args.engine c.in_default.ensures)

pub returns-then-not-has_lines_left : goal.returns-then-not-has_lines_left
returns-then-not-has_lines_left g c = inr (no_line_is g.P.Workable.work c.self.invariant.fits c.self.inside _ c.self.view_is c.self.invariant c.args.engine c.in-Some.piece c.in-Some.ensures c.if-not-has_lines_left.ensures.1)

pub returns-then-self : goal.returns-then-self
returns-then-self g c = inl (halted_so g.P.Workable.work c.self.invariant.fits c.self.inside _ c.self.view_is c.self.invariant c.if-self.true)

pub held_by-requires : goal.held_by-requires
held_by-requires g c = omega (arith, c.engines.ensures, c.if-engine-engines.false)

pub has_lines_left-requires : goal.has_lines_left-requires
has_lines_left-requires g c = c.in-Some.ensures

pub returns : goal.returns
returns g c = (halted_is g.P.Workable.work c.self.invariant.fits c.self.inside _ c.self.view_is c.self.invariant c.if-self.false, can_is g.P.Workable.work c.self.invariant.fits c.self.inside _ c.self.view_is c.self.invariant (event c.args.engine Line c.in-Some.piece) c.if-not-has_lines_left.ensures.0)
