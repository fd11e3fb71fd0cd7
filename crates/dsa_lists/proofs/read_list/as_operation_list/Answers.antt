use Rattle.std.proofs.Common.{List, sym, subst}
use Rattle.dsa_descriptor.specs.Lists.{AgreeOnOwner, AreOfOneOwner}
use Rattle.dsa_descriptor.proofs.Listed.{spelt_owner}
use Rattle.dsa_operations.specs.declared.operation.Operation.{Operation}
use Rattle.dsa_operations.specs.declared.operation.Operation.TheVariants as operation
use Rattle.dsa_operations.specs.Operations.{spelling_of}
use Rattle.dsa_lists.proofs.SubmittedAlike.{all_pairs_map}
use Rattle.dsa_lists.proofs.read_list.as_operation_list.Goals as goal

pub invariant_of-result-clause-one_owner : goal.invariant_of-result-clause-one_owner
invariant_of-result-clause-one_owner c =
    let ds = c.args.descriptors.now in
    subst (λ (os : List Operation). AreOfOneOwner spelling_of os) (sym c.in_ok-operations_of.ensures)
    (all_pairs_map (λ o p. AgreeOnOwner (spelling_of o) (spelling_of p)) operation.Descriptor ds (spelt_owner ds c.requires))
