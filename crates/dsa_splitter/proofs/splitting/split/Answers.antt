use Rattle.std.proofs.Common.{◌≡◌, List, map, ap, sym, subst, ◌∙◌, arith}
use Rattle.dsa_descriptor.specs.declared.descriptor.Descriptor.{Descriptor}
use Rattle.dsa_descriptor.specs.Descriptors.{fields}
use Rattle.dsa_splitter.specs.Pieces.{all_pieces}
use Rattle.dsa_descriptor.specs.Fields.{Fields}
use Rattle.dsa_descriptor.specs.Lists.{HaveOneOwner}
use Rattle.dsa_splitter.proofs.Marks.{marks_found}
use Rattle.dsa_splitter.proofs.PieceLimits.{all_one_owner}
use Rattle.dsa_splitter.proofs.splitting.split.Goals as goal

pub invariant_of-result : goal.invariant_of-result
invariant_of-result c =
    let g = c.args.settings.now.greatest_transfer in
    let list = c.args.list.now in
    let found : map fields c.in_ok-descriptors.descriptors.items ≡ all_pieces (map fields list.descriptors.items) g =
    c.in_ok-descriptors.ensures.found.1 ∙ ap (λ (ds : List Descriptor). all_pieces (map fields ds) g) c.deref.ensures.value in
    record {
      one_owner = subst (λ (fs : List Fields). HaveOneOwner fs) (sym found) (all_one_owner (map fields list.descriptors.items) g list.one_owner);
      marked = marks_found list.descriptors.items g list.barriers.items c.in_ok-barriers.barriers.items c.in_ok-descriptors.descriptors.items (omega (arith, c.in_ok-barriers.ensures.least)) list.marked c.in_ok-barriers.ensures.barriers found;
    }
