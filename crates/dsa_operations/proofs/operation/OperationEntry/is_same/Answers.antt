use Rattle.std.proofs.Common.{sym, ap, ◌∙◌}
use Rattle.std.proofs.lemmas.Bool.Decides.{Decides-eqb}
use Rattle.std.proofs.lemmas.Slice.Eq.{slice_eq-Decides}
use Rattle.dsa_operations.specs.Operations.{spelling_of}
use Rattle.dsa_operations.proofs.Same.{one_spelling}
use Rattle.dsa_operations.proofs.operation.OperationEntry.is_same.Goals as goal

pub returns : goal.returns
returns c =
    let decides = slice_eq-Decides Decides-eqb c.write.result c.write-2.result c.eq.result c.eq.ensures in (
      λ yes. one_spelling c.args.self.now c.args.other.now (sym c.write.ensures ∙ decides.0 yes ∙ c.write-2.ensures),
      λ same. decides.1 (c.write.ensures ∙ ap spelling_of same ∙ sym c.write-2.ensures),
    )
