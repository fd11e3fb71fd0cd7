use Rattle.std.proofs.Common.{ℕ, sym, subst, arith}
use Rattle.std.specs.Prelude.{All}
use Rattle.std.specs.List.{AllByRecursion}
use Rattle.dsa_prepared.specs.Regions.{IsOneOrSplittable, OperationLies}
use Rattle.dsa_prepared.proofs.preparing.keep.Goals as goal

pub first_outside-requires-clause-splittable : goal.first_outside-requires-clause-splittable
first_outside-requires-clause-splittable c =
    subst (λ (g : ℕ). All (IsOneOrSplittable g) c.args.operations.now) (sym c.greatest_transfer.ensures.value) c.requires.splittable

pub template_of-requires-clause-operations_lie : goal.template_of-requires-clause-operations_lie
template_of-requires-clause-operations_lie c =
    let whole = subst (λ (g : ℕ). AllByRecursion (OperationLies c.args.regions.now g) c.args.operations.now) c.greatest_transfer.ensures.value c.in_default-first_outside.ensures in
    (c.requires.lie (omega (arith, c.greatest_transfer.ensures.limits.least_transfer)) c.args.regions.now whole).0

pub template_of-requires-clause-pieces_lie : goal.template_of-requires-clause-pieces_lie
template_of-requires-clause-pieces_lie c =
    let whole = subst (λ (g : ℕ). AllByRecursion (OperationLies c.args.regions.now g) c.args.operations.now) c.greatest_transfer.ensures.value c.in_default-first_outside.ensures in
    (c.requires.lie (omega (arith, c.greatest_transfer.ensures.limits.least_transfer)) c.args.regions.now whole).1
