use Rattle.std.proofs.Common.{rules, Some, None, sym, ap, ◌∙◌, subst}
use Rattle.std.proofs.lemmas.Bool.{cond-true, cond-false}
use Rattle.dsa_core.specs.Parcel.{Parcel}
use Rattle.dsa_core.proofs.parcel.ParcelOf.outputs.Goals as goal

pub returns-then-not-self : goal.returns-then-not-self
returns-then-not-self g c = ap (λ (w : Parcel _ _). w.outputs) (sym c.self.view_is) ∙ cond-false c.self.inside.worked (Some c.self.inside.outputs) None c.if-not-self.true

pub returns : goal.returns
returns g c = (
  ap (λ (w : Parcel _ _). w.outputs) (sym c.self.view_is) ∙ cond-true c.self.inside.worked (Some c.self.inside.outputs) None c.if-not-self.false,
  subst (λ (w : Parcel _ _). g.P.Workable.work.gives w.inputs c.self.inside.outputs) c.self.view_is (c.self.invariant (search rules)),
)
