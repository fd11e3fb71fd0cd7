use Rattle.std.proofs.Common.{inr, Ok, Err, Bool, List, ap, subst, sym}
use Rattle.dsa_operations.specs.declared.operation.Operation.{Operation}
use Rattle.dsa_descriptor.specs.Lists.{AreOfOneOwner}
use Rattle.dsa_operations.specs.Operations.{spelling_of}
use Rattle.dsa_lists.specs.Submissions.{operation_submission_of, CanBeSubmitted, IsOperationSubmission, PlansEntries}
use Rattle.dsa_lists.proofs.Submitted.{is_good, is_least, not_refused, one_refusal, only_answer}
use Rattle.dsa_lists.proofs.submitting.plan_entries.Goals as goal
use Rattle.dsa_lists.proofs.submitting.plan_entries.Goals.{In-Some, In_ok-planned}

refused : (c : In-Some) → PlansEntries c.args.settings.now c.args.operations.now.entries.items c.args.operations.now.barriers.items (Err c.in-Some.fault)
refused c =
    let barriers : List Bool = c.args.operations.now.barriers.items in
    subst (λ (es : List Operation). PlansEntries c.args.settings.now es barriers (Err c.in-Some.fault)) c.deref.ensures.value (c.in-Some.ensures barriers)

pub returns-in-Some-clause-answer : goal.returns-in-Some-clause-answer
returns-in-Some-clause-answer c = inr (refused c)

pub returns-in-Some-clause-only : goal.returns-in-Some-clause-only
returns-in-Some-clause-only c =
    only_answer c.args.settings.now c.args.operations.now.entries.items c.args.operations.now.barriers.items (Err c.in-Some.fault) (inr (refused c))

pub returns-in-Some-clause-refused : goal.returns-in-Some-clause-refused
returns-in-Some-clause-refused c fault told =
    ap Err (one_refusal c.args.settings.now c.args.operations.now.entries.items c.args.operations.now.barriers.items c.in-Some.fault fault (refused c) told)

pub plan_as_they_are-requires-clause-owner : goal.plan_as_they_are-requires-clause-owner
plan_as_they_are-requires-clause-owner c =
    subst (λ (es : List Operation). AreOfOneOwner spelling_of es) (sym c.deref-2.ensures.value) c.args.operations.now.one_owner

planned : (c : In_ok-planned) → IsOperationSubmission c.args.settings.now c.args.operations.now.entries.items c.args.operations.now.barriers.items (operation_submission_of c.in_ok-planned.planned)
planned c =
    let p = operation_submission_of c.in_ok-planned.planned in
    let here = subst (λ (es : List Operation). IsOperationSubmission c.args.settings.now es c.deref-3.result.now p) c.deref-2.ensures.value c.in_ok-planned.ensures in
    subst (λ (marks : List Bool). IsOperationSubmission c.args.settings.now c.args.operations.now.entries.items marks p) c.deref-3.ensures.value here

pub returns-clause-only : goal.returns-clause-only
returns-clause-only c =
    only_answer c.args.settings.now c.args.operations.now.entries.items c.args.operations.now.barriers.items (Ok c.in_ok-planned.planned) (planned c)

pub returns-clause-least : goal.returns-clause-least
returns-clause-least c =
    is_least c.args.settings.now c.args.operations.now.entries.items c.args.operations.now.barriers.items (operation_submission_of c.in_ok-planned.planned) (planned c)

pub returns-clause-certificate_good : goal.returns-clause-certificate_good
returns-clause-certificate_good c =
    is_good c.args.settings.now c.args.operations.now.entries.items c.args.operations.now.barriers.items (operation_submission_of c.in_ok-planned.planned) (planned c)

pub returns-clause-refused : goal.returns-clause-refused
returns-clause-refused c fault told =
    absurd (not_refused c.args.settings.now c.args.operations.now.entries.items c.args.operations.now.barriers.items fault (planned c).can told)

pub returns-in_err-planned-clause-refused : goal.returns-in_err-planned-clause-refused
returns-in_err-planned-clause-refused c fault told =
    let can = subst (λ (es : List Operation). CanBeSubmitted c.args.settings.now es) c.deref.ensures.value c.in_default.ensures in
    absurd (not_refused c.args.settings.now c.args.operations.now.entries.items c.args.operations.now.barriers.items fault can told)
