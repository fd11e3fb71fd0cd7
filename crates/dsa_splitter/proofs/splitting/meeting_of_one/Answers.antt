use Rattle.std.proofs.Common.{◌≡◌, true, false, sym, ◌∙◌}
use Rattle.dsa_descriptor.specs.Descriptors.{fields}
use Rattle.dsa_splitter.specs.Pieces.{pieces}
use Rattle.dsa_splitter.proofs.OnePiece.{one_piece, one_meets, one_clear}
use Rattle.dsa_splitter.proofs.splitting.meeting_of_one.Goals as goal

pub returns-then-meets_area : goal.returns-then-meets_area
returns-then-meets_area c =
    one_meets c.args.area (fields c.args.d.now) (pieces (fields c.args.d.now) c.args.greatest)
    (one_piece (fields c.args.d.now) c.args.greatest c.args.d.now.listed.size_positive c.requires)
    (c.meets_area.ensures.0 c.if-meets_area.true)

pub returns-else-meets_area : goal.returns-else-meets_area
returns-else-meets_area c =
    one_clear c.args.area (fields c.args.d.now) (pieces (fields c.args.d.now) c.args.greatest)
    (one_piece (fields c.args.d.now) c.args.greatest c.args.d.now.listed.size_positive c.requires)
    (λ meets. let no : false ≡ true = sym c.if-meets_area.false ∙ c.meets_area.ensures.1 meets in absurd cc)
