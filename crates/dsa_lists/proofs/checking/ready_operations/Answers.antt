use Rattle.std.proofs.Common.{inr, Err, List, subst}
use Rattle.dsa_descriptor.specs.Fences.{barriers_of}
use Rattle.dsa_operations.specs.declared.operation.Operation.{Operation}
use Rattle.dsa_lists.specs.Submissions.{PlansEntries}
use Rattle.dsa_lists.proofs.checking.ready_operations.Goals as goal

pub returns-in-Some-clause-fault : goal.returns-in-Some-clause-fault
returns-in-Some-clause-fault c =
    let found = c.in_ok-operations.operations in
    let refused = subst (λ (es : List Operation). PlansEntries c.args.settings.now es (barriers_of c.args.list.now) (Err c.in-Some.fault)) c.deref.ensures.value
    (c.in-Some.ensures (barriers_of c.args.list.now)) in
    inr (inr (found.entries.items, c.in_ok-operations.ensures.found, found.one_owner, refused))
