use Rattle.dsa_core.specs.declared.event.Kind.TheVariants.{Line}
use Rattle.dsa_core.specs.Run.{event}
use Rattle.dsa_core.proofs.RoomSteps.{is_can}
use Rattle.dsa_core.proofs.room.RoomOf.fetch.Goals as goal

pub fetch-requires : goal.fetch-requires
fetch-requires g c = is_can g.P.Workable.work c.self.invariant.fits c.self.inside _ c.self.view_is c.self.invariant (event c.args.engine Line c.in-Some.piece) c.in-Some.ensures.1
