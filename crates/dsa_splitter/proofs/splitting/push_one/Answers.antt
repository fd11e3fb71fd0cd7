use Rattle.std.proofs.Common.{◌++◌, [], ◌∷◌, map, sym, ap, ◌∙◌}
use Rattle.std.proofs.lemmas.List.{map-append}
use Rattle.dsa_descriptor.specs.Descriptors.{fields}
use Rattle.dsa_splitter.proofs.OnePiece.{one_piece}
use Rattle.dsa_splitter.proofs.splitting.push_one.Goals as goal

pub returns : goal.returns
returns c =
    ap (λ xs. map fields xs) c.in_ok-push.ensures.items
    ∙ map-append fields c.args.found.now.items (c.args.d.now ∷ [])
    ∙ ap (λ ps. map fields c.args.found.now.items ++ ps) (sym (one_piece (fields c.args.d.now) c.args.greatest c.args.d.now.listed.size_positive c.requires))
