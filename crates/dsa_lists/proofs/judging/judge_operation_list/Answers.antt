use Rattle.std.proofs.Common.{List, sym, subst, ◌∙◌}
use Rattle.std.specs.List.{flat_map}
use Rattle.std.proofs.Common.{◌≡◌}
use Rattle.dsa_descriptor.specs.Fences.{unfenced_list}
use Rattle.dsa_descriptor.specs.Lists.{AreOfOneOwner}
use Rattle.dsa_operations.specs.declared.operation.Operation.{Operation}
use Rattle.dsa_operations.specs.Operations.{spelling_of}
use Rattle.dsa_lists.proofs.Ready.{only_operation_judge, operations_judged}
use Rattle.dsa_lists.proofs.judging.judge_operation_list.Goals as goal

pub returns-clause-answer : goal.returns-clause-answer
returns-clause-answer c =
    let list = c.args.list.now in
    let is = sym c.deref.ensures.value in
    let spelt = subst (λ (es : List Operation). unfenced_list list ≡ flat_map spelling_of es) is c.in_ok-operations.ensures.found in
    let owner = subst (λ (es : List Operation). AreOfOneOwner spelling_of es) is c.in_ok-operations.operations.one_owner in
    operations_judged list c.args.plan.now c.args.settings.now c.deref.result.now c.deref-2.result.now c.judge_pieces.result spelt owner (c.deref-2.ensures.value ∙ c.in_ok-operations.ensures.barriers) c.judge_pieces.ensures

pub returns-clause-only : goal.returns-clause-only
returns-clause-only c = only_operation_judge c.args.list.now c.args.plan.now c.args.settings.now c.judge_pieces.result (returns-clause-answer c)
