use Rattle.std.proofs.Common.{refl}
use Rattle.dsa_core.proofs.RoomSteps.{unfinished_is}
use Rattle.dsa_core.proofs.Ended.{outcome_is}
use Rattle.dsa_core.proofs.room.RoomOf.into_outcome.Goals as goal

pub returns-then-not-is_over : goal.returns-then-not-is_over
returns-then-not-is_over g c = (unfinished_is g.P.Workable.work c.self.invariant.fits c.self.inside _ c.self.view_is c.self.invariant c.is_over.result c.is_over.ensures.1 c.if-not-is_over.true, refl)

pub returns : goal.returns
returns g c =
    outcome_is g.P.Workable.work c.self.invariant.fits c.self.inside _ c.self.view_is c.self.invariant c.into_image.result c.finished-finished.result c.batch_records-batch_records.result (c.is_over.ensures.0 c.if-not-is_over.false) c.into_image.ensures c.finished-finished.ensures.count c.finished-finished.ensures.all c.batch_records-batch_records.ensures
