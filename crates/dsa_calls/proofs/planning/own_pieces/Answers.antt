use Rattle.std.proofs.Common.{ℕ, List, map, refl, sym, subst}
use Rattle.dsa_descriptor.specs.declared.descriptor.Descriptor.{Descriptor}
use Rattle.dsa_descriptor.specs.Descriptors.{fields}
use Rattle.dsa_splitter.specs.Pieces.{piece_barriers}
use Rattle.dsa_splitter.specs.Rules.{AreWhole, IsSplit}
use Rattle.dsa_splitter.proofs.OnePiece.{whole_pieces}
use Rattle.dsa_descriptor.specs.Fences.{barriers_of}
use Rattle.dsa_calls.specs.Lists.{IsListOf}
use Rattle.dsa_calls.proofs.Unfenced.{listed_unfenced}
use Rattle.dsa_calls.proofs.planning.own_pieces.Goals as goal

pub returns-then-are_own_pieces : goal.returns-then-are_own_pieces
returns-then-are_own_pieces c = λ s greatest staging.
    let ds : List Descriptor = c.in-Ok.operations.items in
    let found = c.in-Ok.ensures.found in
    let listed : IsListOf c.args.list.now ds = record { spelled = found.0; owner = found.1 } in
    let whole : AreWhole ds c.args.greatest = subst (λ (xs : List Descriptor). AreWhole xs c.args.greatest) c.deref.ensures.value (c.are_own_pieces.ensures.whole c.if-are_own_pieces.true) in
    let split : IsSplit c.args.greatest c.args.staging (map fields ds) =
    subst (λ (xs : List Descriptor). IsSplit c.args.greatest c.args.staging (map fields xs)) c.deref.ensures.value (c.are_own_pieces.ensures.split c.if-are_own_pieces.true) in
    let whole' : AreWhole ds s.greatest_transfer = subst (λ (g : ℕ). AreWhole ds g) (sym greatest) whole in (
      piece_barriers s.greatest_transfer (map fields ds) (barriers_of c.args.list.now),
      record {
        operations = ds;
        listed = listed_unfenced c.args.list.now ds listed;
        split = subst (λ (g : ℕ). IsSplit g s.staging (map fields ds)) (sym greatest) (subst (λ (at : ℕ). IsSplit c.args.greatest at (map fields ds)) (sym staging) split);
        pieces_are = whole_pieces ds s.greatest_transfer whole';
        barriers_are = refl;
      },
    )
