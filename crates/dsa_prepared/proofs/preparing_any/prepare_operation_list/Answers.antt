use Rattle.std.proofs.Common.{◌≡◌, ◌⊎◌, List, sym, subst}
use Rattle.dsa_calls.specs.declared.fault.PlanFault.TheVariants.{Memory}
use Rattle.dsa_lists.specs.Submissions.{AreReady, operation_submission_of}
use Rattle.dsa_operations.specs.declared.operation.Operation.{Operation}
use Rattle.dsa_prepared.specs.declared.fault.PrepareFault.TheVariants.{Plan as InPlan}
use Rattle.dsa_prepared.specs.Preparing.{IsKept, IsPlaceFault}
use Rattle.dsa_prepared.specs.Sound.{CanBeKept}
use Rattle.dsa_prepared.proofs.AnyPreparation.{operations_costed, operations_placed}
use Rattle.dsa_prepared.proofs.Preparation.{operations_kept}
use Rattle.dsa_prepared.proofs.preparing_any.prepare_operation_list.Goals as goal

pub keep-requires : goal.keep-requires
keep-requires c =
    let s = c.args.settings.now in
    let p = operation_submission_of c.in-Ok-plan_entries.planned in
    let kept = operations_kept c.in-Ok.operations.barriers.items s c.in-Ok.operations.entries.items p c.in-Ok-plan_entries.ensures.answer in
    subst (λ (ps : List Operation). CanBeKept s c.deref.result.now ps p.plan) (sym c.deref-2.ensures.value)
    (subst (λ (os : List Operation). CanBeKept s os c.in-Ok.operations.entries.items p.plan) (sym c.deref.ensures.value) kept)

pub returns-in-Ok-keep-clause-prepared : goal.returns-in-Ok-keep-clause-prepared
returns-in-Ok-keep-clause-prepared c = λ none.
    let s = c.args.settings.now in
    let rs = c.args.regions.now in
    let os = c.in-Ok.operations.entries.items in
    let p = operation_submission_of c.in-Ok-plan_entries.planned in
    let t = c.in-Ok-keep.prepared in
    let first = subst (λ (xs : List Operation). IsKept s rs xs c.deref-2.result.now p.plan t) c.deref.ensures.value c.in-Ok-keep.ensures.kept in
    let kept = subst (λ (xs : List Operation). IsKept s rs os xs p.plan t) c.deref-2.ensures.value first in
    let ready : AreReady c.args.list.now s os = record { spelt = c.in-Ok.ensures.found; owner = c.in-Ok.operations.one_owner; can = c.in-Ok-plan_entries.ensures.answer.can } in
    (os, operations_costed c.args.list.now s rs none os c.in-Ok.operations.barriers.items p t ready c.in-Ok.ensures.barriers c.in-Ok-plan_entries.ensures.answer kept)

pub returns-clause-fault : goal.returns-clause-fault
returns-clause-fault c = λ none.
    let s = c.args.settings.now in
    let rs = c.args.regions.now in
    let os = c.in-Ok.operations.entries.items in
    let f = c.in-Err-keep.fault in
    let p = operation_submission_of c.in-Ok-plan_entries.planned in
    let told = subst (λ (xs : List Operation). (f ≡ InPlan Memory) ⊎ IsPlaceFault s rs xs f) c.deref.ensures.value c.in-Err-keep.ensures.fault in
    let ready : AreReady c.args.list.now s os = record { spelt = c.in-Ok.ensures.found; owner = c.in-Ok.operations.one_owner; can = c.in-Ok-plan_entries.ensures.answer.can } in
    operations_placed c.args.list.now s rs none os c.in-Ok.operations.barriers.items p f ready c.in-Ok.ensures.barriers c.in-Ok-plan_entries.ensures.answer told
