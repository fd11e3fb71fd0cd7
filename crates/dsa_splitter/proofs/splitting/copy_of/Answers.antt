use Rattle.std.proofs.Common.{List, map, ap, ◌∙◌}
use Rattle.dsa_descriptor.specs.declared.descriptor.Descriptor.{Descriptor}
use Rattle.dsa_descriptor.specs.Descriptors.{fields}
use Rattle.dsa_splitter.proofs.OnePiece.{whole_pieces}
use Rattle.dsa_splitter.proofs.splitting.copy_of.Goals as goal

pub returns : goal.returns
returns c = ap (λ (ds : List Descriptor). map fields ds) c.in_ok-found.ensures.items ∙ whole_pieces c.args.list.now c.args.greatest c.requires
