use Rattle.dsa_ranges.specs.Pieces.{kind_of}
use Rattle.dsa_settings.specs.Barriers.{WithBarriers}
use Rattle.dsa_plan.specs.Certificate.{contents}
use Rattle.dsa_calls.proofs.PiecesChecked.{emission_refused}
use Rattle.dsa_calls.proofs.checking.check_pieces.Goals as goal

pub returns-in-Err : goal.returns-in-Err
returns-in-Err g c =
    emission_refused (kind_of g.P.Entry.spelling g.P.Entry.keeps g.P.Piece.size g.P.Touching.reads g.P.Touching.writes) (WithBarriers (g.P.Touching.conflict c.args.pieces.now) c.args.barriers.now)
    c.args.settings.now c.args.pieces.now c.args.portal.now c.args.staging.now (contents c.args.certificate.now)
    c.in-Err.fault c.from.result c.from.ensures c.in-Err.ensures.fault
