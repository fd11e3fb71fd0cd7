use Rattle.std.proofs.Common.{◌≡◌, true, false, sym, subst, ◌∙◌, arith}
use Rattle.dsa_descriptor.specs.Lists.{AgreeOnOwner}
use Rattle.dsa_emission.proofs.reading.read_piece.Goals as goal

pub returns-then-from-demands-clause-fault : goal.returns-then-from-demands-clause-fault
returns-then-from-demands-clause-fault g c = (c.in_ok-piece.piece, sym c.unfenced-plain.ensures ∙ c.in_ok-piece.ensures.found, omega (arith, c.from.ensures, c.if-from-demands.true))

pub returns-then-not-is_owned-clause-fault : goal.returns-then-not-is_owned-clause-fault
returns-then-not-is_owned-clause-fault g c = (
  c.in_ok-piece.piece,
  sym c.unfenced-plain.ensures ∙ c.in_ok-piece.ensures.found,
  omega (arith, c.from.ensures, c.if-from-demands.false),
  λ owned. let no : false ≡ true = sym c.if-not-is_owned.true ∙ c.is_owned.ensures.1 (subst (AgreeOnOwner c.args.demands.now.owner) (sym c.in_ok-piece.ensures.found) owned) in absurd cc,
)

pub returns-then-touches-clause-fault : goal.returns-then-touches-clause-fault
returns-then-touches-clause-fault g c = (
  c.in_ok-piece.piece,
  sym c.unfenced-plain.ensures ∙ c.in_ok-piece.ensures.found,
  omega (arith, c.from.ensures, c.if-from-demands.false),
  subst (AgreeOnOwner c.args.demands.now.owner) c.in_ok-piece.ensures.found (c.is_owned.ensures.0 c.if-not-is_owned.false),
  c.touches.ensures.0 c.if-touches.true,
)
