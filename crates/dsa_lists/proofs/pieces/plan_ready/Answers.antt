use Rattle.std.proofs.Common.{Bool, List, sym, subst}
use Rattle.dsa_descriptor.specs.Lists.{AreOfOneOwner}
use Rattle.dsa_operations.specs.declared.operation.Operation.{Operation}
use Rattle.dsa_operations.specs.Operations.{spelling_of}
use Rattle.dsa_lists.specs.Submissions.{IsOperationSubmission, operation_submission_of}
use Rattle.dsa_lists.proofs.AnyLists.{ready_any, ready_cost}
use Rattle.dsa_lists.proofs.pieces.plan_ready.Goals as goal

pub plan_as_they_are-requires-clause-owner : goal.plan_as_they_are-requires-clause-owner
plan_as_they_are-requires-clause-owner c = subst (λ (es : List Operation). AreOfOneOwner spelling_of es) (sym c.deref.ensures.value) c.in_ok-read.read.one_owner

pub returns-clause-found : goal.returns-clause-found
returns-clause-found c none =
    let s = c.args.settings.now in
    let read = c.in_ok-read.read in
    let p = operation_submission_of c.in_ok-planned.planned in
    let here = subst (λ (es : List Operation). IsOperationSubmission s es c.deref-2.result.now p) c.deref.ensures.value c.in_ok-planned.ensures in
    let marked = subst (λ (marks : List Bool). IsOperationSubmission s read.entries.items marks p) c.deref-2.ensures.value here in
    ready_any c.args.list.now s none read.entries.items read.barriers.items p c.in_ok-read.ensures.ready c.in_ok-read.ensures.barriers marked

pub returns-clause-cost : goal.returns-clause-cost
returns-clause-cost c none =
    let s = c.args.settings.now in
    let read = c.in_ok-read.read in
    let p = operation_submission_of c.in_ok-planned.planned in
    let here = subst (λ (es : List Operation). IsOperationSubmission s es c.deref-2.result.now p) c.deref.ensures.value c.in_ok-planned.ensures in
    let marked = subst (λ (marks : List Bool). IsOperationSubmission s read.entries.items marks p) c.deref-2.ensures.value here in
    ready_cost c.args.list.now s none read.entries.items read.barriers.items p c.in_ok-read.ensures.ready c.in_ok-read.ensures.barriers marked
