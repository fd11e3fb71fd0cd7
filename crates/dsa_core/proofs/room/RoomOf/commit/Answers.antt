use Rattle.std.proofs.Common.{◌⊎◌, inl, inr, IsTrue, IsSome, rules, refl, sym, ap, ◌∙◌, subst}
use Rattle.dsa_core.specs.declared.event.Kind.TheVariants.{Line}
use Rattle.dsa_core.specs.Run.{event}
use Rattle.dsa_core.specs.Standings.{Leads}
use Rattle.dsa_core.specs.Accounts.{with_event}
use Rattle.dsa_core.specs.Exchange.{HasNoLine}
use Rattle.dsa_core.proofs.Storing.{for_can, same_event}
use Rattle.dsa_core.proofs.RoomSteps.{can_is, is_can, for_is, step_kept, step_shown, none_outdated, outdated_is}
use Rattle.dsa_core.proofs.room.RoomOf.commit.Goals as goal

pub returns-in_default-next_line-clause-answer : goal.returns-in_default-next_line-clause-answer
returns-in_default-next_line-clause-answer g c =
    let none : IsTrue c.args.self.now.halted ⊎ HasNoLine g.P.Workable.work c.args.self.now c.engine-engine.result = c.in_default-next_line.ensures in (
      elim none [
        | inl halted ↦ inr (inl halted)
        | inr no_line ↦ inr (inr (none_outdated g.P.Workable.work c.self.invariant.fits c.args.self.now c.args.parcel.now c.engine-engine.result c.engine-engine.ensures no_line))
      ],
      refl,
    )

pub expects-requires : goal.expects-requires
expects-requires g c = is_can g.P.Workable.work c.self.invariant.fits c.self.inside _ c.self.view_is c.self.invariant (event c.engine-engine.result Line c.in-Some-next_line.piece) c.in-Some-next_line.ensures.1

pub returns-then-not-expects-clause-answer : goal.returns-then-not-expects-clause-answer
returns-then-not-expects-clause-answer g c = (
  inr (inr (outdated_is g.P.Workable.work c.self.invariant.fits c.self.inside _ c.self.view_is c.self.invariant c.args.parcel.now (c.if-not-expects.ensures (sym c.engine-engine.ensures)))),
  refl,
)

pub store-requires-clause-fits : goal.store-requires-clause-fits
store-requires-clause-fits g c = c.if-not-expects.ensures (sym c.engine-engine.ensures)

pub invariant_of-self : goal.invariant_of-self
invariant_of-self g c =
    let same = same_event c.args.parcel.now.engine c.engine-engine.result c.args.parcel.now.piece c.piece.result (sym c.engine-engine.ensures) (sym c.piece.ensures) in
    let leads : Leads g.P.Workable.work c.self.inside.board (event c.engine-engine.result Line c.piece.result) c.store.new.self =
    subst (λ v. Leads g.P.Workable.work c.self.inside.board v c.store.new.self) same c.store.ensures in
    step_kept g.P.Workable.work c.self.invariant.fits c.self.inside _ c.self.view_is c.self.invariant (event c.engine-engine.result Line c.piece.result) c.store.new.self leads c.push.result c.push.new.self c.push.ensures.items c.push.ensures.succeeds c.push.ensures.capacity

pub returns-clause-answer : goal.returns-clause-answer
returns-clause-answer g c =
    let fits = c.if-not-expects.ensures (sym c.engine-engine.ensures) in
    let same = same_event c.args.parcel.now.engine c.engine-engine.result c.args.parcel.now.piece c.piece.result (sym c.engine-engine.ensures) (sym c.piece.ensures) in
    let leads : Leads g.P.Workable.work c.self.inside.board (event c.engine-engine.result Line c.piece.result) c.store.new.self =
    subst (λ v. Leads g.P.Workable.work c.self.inside.board v c.store.new.self) same c.store.ensures in (
      c.in-Some-next_line.ensures.0,
      subst IsSome (sym c.in-Some.ensures.0) (search rules),
      for_is g.P.Workable.work c.self.invariant.fits c.self.inside _ c.self.view_is c.self.invariant c.args.parcel.now fits,
      can_is g.P.Workable.work c.self.invariant.fits c.self.inside _ c.self.view_is c.self.invariant (event c.args.parcel.now.engine Line c.args.parcel.now.piece) (for_can g.P.Workable.work c.self.invariant.fits c.self.inside.board c.args.parcel.now fits),
      step_shown g.P.Workable.work c.self.invariant.fits c.self.inside _ c.self.view_is c.self.invariant (event c.engine-engine.result Line c.piece.result) c.store.new.self leads c.push.result c.push.new.self c.push.ensures.items c.push.ensures.succeeds c.push.ensures.capacity
          ∙ ap (with_event c.args.self.now) (sym same),
    )
