use Rattle.dsa_core.proofs.RoomSteps.{over_is, is_over}
use Rattle.dsa_core.proofs.room.RoomOf.is_over.Goals as goal

pub returns : goal.returns
returns g c = (
  λ t. over_is g.P.Workable.work c.self.invariant.fits c.self.inside _ c.self.view_is c.self.invariant (c.is_over.ensures.0 t),
  λ k. c.is_over.ensures.1 (is_over g.P.Workable.work c.self.invariant.fits c.self.inside _ c.self.view_is c.self.invariant k),
)
