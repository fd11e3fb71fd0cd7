use Rattle.std.proofs.Common.{inl, inr, refl, subst}
use Rattle.dsa_core.specs.Run.{event}
use Rattle.dsa_core.specs.Standings.{Leads}
use Rattle.dsa_core.specs.declared.event.Kind.TheVariants.{Take}
use Rattle.dsa_core.proofs.RoomSteps.{halted_is, halted_so, idle_is, over_is, unfinished_is, all_taken, known_engine, not_over, same_board, can_is, step_kept, step_shown, same_sound, open_can}
use Rattle.dsa_core.proofs.room.RoomOf.take.Goals as goal

pub returns-then-self-clause-answer : goal.returns-then-self-clause-answer
returns-then-self-clause-answer g c = (
  (
    idle_is g.P.Workable.work c.self.invariant.fits c.self.inside _ c.self.view_is c.self.invariant c.args.engine c.in_default.ensures,
    inl (halted_so g.P.Workable.work c.self.invariant.fits c.self.inside _ c.self.view_is c.self.invariant c.if-self.true),
  ),
  refl,
)

pub returns-then-is_over-clause-answer : goal.returns-then-is_over-clause-answer
returns-then-is_over-clause-answer g c = (
  (
    idle_is g.P.Workable.work c.self.invariant.fits c.self.inside _ c.self.view_is c.self.invariant c.args.engine c.in_default.ensures,
    inr (over_is g.P.Workable.work c.self.invariant.fits c.self.inside _ c.self.view_is c.self.invariant (c.is_over.ensures.0 c.if-is_over.true)),
  ),
  refl,
)

pub returns-in_default-next_open-clause-answer : goal.returns-in_default-next_open-clause-answer
returns-in_default-next_open-clause-answer g c = (
  (
    idle_is g.P.Workable.work c.self.invariant.fits c.self.inside _ c.self.view_is c.self.invariant c.args.engine c.in_default.ensures,
    halted_is g.P.Workable.work c.self.invariant.fits c.self.inside _ c.self.view_is c.self.invariant c.if-self.false,
    unfinished_is g.P.Workable.work c.self.invariant.fits c.self.inside _ c.self.view_is c.self.invariant c.is_over.result c.is_over.ensures.1 c.if-is_over.false,
    all_taken g.P.Workable.work c.self.invariant.fits c.self.inside _ c.self.view_is c.self.invariant c.args.engine (known_engine g.P.Workable.work c.self.invariant.fits c.self.inside _ c.self.view_is c.self.invariant c.args.engine c.requires) c.in_default.ensures (not_over g.P.Workable.work c.self.invariant.fits c.self.inside _ c.self.view_is c.self.invariant c.is_over.result c.is_over.ensures.1 c.if-is_over.false) c.in_default-next_open.ensures.open,
  ),
  same_board g.P.Workable.work c.self.invariant.fits c.self.inside _ c.self.view_is c.self.invariant c.next_open.new.self c.next_open.ensures.same,
)

pub invariant_of-self-2 : goal.invariant_of-self-2
invariant_of-self-2 g c =
    step_kept g.P.Workable.work c.self.invariant.fits c.self.inside _ c.self.view_is c.self.invariant (event c.args.engine Take c.in-Some-next_open.piece) c.take.new.self
    (subst (λ b. Leads g.P.Workable.work b (event c.args.engine Take c.in-Some-next_open.piece) c.take.new.self) c.next_open.ensures.same c.take.ensures)
    c.push.result c.push.new.self c.push.ensures.items c.push.ensures.succeeds c.push.ensures.capacity

pub returns-clause-answer : goal.returns-clause-answer
returns-clause-answer g c =
    let leads : Leads g.P.Workable.work c.self.inside.board (event c.args.engine Take c.in-Some-next_open.piece) c.take.new.self =
    subst (λ b. Leads g.P.Workable.work b (event c.args.engine Take c.in-Some-next_open.piece) c.take.new.self) c.next_open.ensures.same c.take.ensures in (
      halted_is g.P.Workable.work c.self.invariant.fits c.self.inside _ c.self.view_is c.self.invariant c.if-self.false,
      can_is g.P.Workable.work c.self.invariant.fits c.self.inside _ c.self.view_is c.self.invariant (event c.args.engine Take c.in-Some-next_open.piece) (_, leads.step),
      step_shown g.P.Workable.work c.self.invariant.fits c.self.inside _ c.self.view_is c.self.invariant (event c.args.engine Take c.in-Some-next_open.piece) c.take.new.self leads c.push.result c.push.new.self c.push.ensures.items c.push.ensures.succeeds c.push.ensures.capacity,
    )

pub held_by-requires : goal.held_by-requires
held_by-requires g c = known_engine g.P.Workable.work c.self.invariant.fits c.self.inside _ c.self.view_is c.self.invariant c.args.engine c.requires

pub invariant_of-self : goal.invariant_of-self
invariant_of-self g c = same_sound g.P.Workable.work c.self.invariant.fits c.self.inside _ c.self.view_is c.self.invariant c.next_open.new.self c.next_open.ensures.same

pub take-requires : goal.take-requires
take-requires g c = open_can g.P.Workable.work c.self.invariant.fits c.self.inside _ c.self.view_is c.self.invariant c.args.engine c.in-Some-next_open.piece c.requires c.in_default.ensures c.in-Some-next_open.ensures.open c.next_open.new.self c.next_open.ensures.same
