use Rattle.dsa_descriptor.specs.Descriptors.{fields}
use Rattle.dsa_splitter.proofs.OnePiece.{short_may_split}
use Rattle.dsa_splitter.proofs.rules.op_fault.Goals as goal

pub returns-then-is_one_piece : goal.returns-then-is_one_piece
returns-then-is_one_piece c = short_may_split (fields c.args.d.now) c.args.greatest c.args.d.now.listed (c.is_one_piece.ensures.0 c.if-is_one_piece.true)
