use Rattle.dsa_core.proofs.RoomSteps.{is_kept}
use Rattle.dsa_core.proofs.room.RoomOf.engines.Goals as goal

pub returns-clause-kept : goal.returns-clause-kept
returns-clause-kept g c = is_kept g.P.Workable.work c.self.invariant.fits c.self.inside _ c.self.view_is c.self.invariant
