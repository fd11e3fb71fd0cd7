use Rattle.std.proofs.Common.{inl, inr, ap, Err}
use Rattle.std.proofs.lemmas.Result.{IfOk-weaker}
use Rattle.dsa_calls.specs.declared.fault.PlanFault.{PlanFault}
use Rattle.dsa_descriptor.specs.Fences.{unfenced_list}
use Rattle.dsa_calls.specs.Fenced.{PlansFenced}
use Rattle.dsa_calls.specs.Lists.{IsListOf}
use Rattle.dsa_calls.proofs.FencedPlans.{refused_list}
use Rattle.dsa_prepared.specs.declared.fault.PrepareFault.TheVariants.{Plan as InPlan}
use Rattle.dsa_prepared.specs.Preparing.{IsCostedOf, SpellDescriptors}
use Rattle.dsa_prepared.proofs.Preparation.{Planned, no_cause_of, one_cause, refused_by, says}
use Rattle.dsa_prepared.proofs.preparing.prepare.Goals as goal
use Rattle.dsa_prepared.proofs.preparing.prepare.Goals.{After-drop-operations-in-Ok}

listed : (c : After-drop-operations-in-Ok) → IsListOf (unfenced_list c.args.list.now) c.in-Ok.operations.descriptors.items
listed c = record { spelled = c.in-Ok.ensures.found.0; owner = c.in-Ok.ensures.found.1 }

pub returns-in-Ok-clause-prepared : goal.returns-in-Ok-clause-prepared
returns-in-Ok-clause-prepared c =
    IfOk-weaker c.prepare_operations.result _ _ (λ x h. (c.in-Ok.operations.descriptors.items, h))
    (c.prepare_operations.ensures.prepared c.args.list.now (listed c) c.in-Ok.ensures.barriers)

pub returns-in-Ok-clause-fault : goal.returns-in-Ok-clause-fault
returns-in-Ok-clause-fault c = c.prepare_operations.ensures.fault c.args.list.now (listed c) c.in-Ok.ensures.barriers

pub returns-in-Ok-clause-refused : goal.returns-in-Ok-clause-refused
returns-in-Ok-clause-refused c =
    let list = c.args.list.now in
    let s = c.args.settings.now in
    let rs = c.args.regions.now in
    let ds = c.in-Ok.operations.descriptors.items in
    refused_by (λ f. PlansFenced list s (Err f)) (Planned list s) (SpellDescriptors list) (says list s) s rs (λ x. IsCostedOf list s rs ds x.prepared x.cost) (λ x h. no_cause_of list s rs ds x.prepared x.cost h)
    c.prepare_operations.result (c.prepare_operations.ensures.prepared list (listed c) c.in-Ok.ensures.barriers) (c.prepare_operations.ensures.fault list (listed c) c.in-Ok.ensures.barriers)

pub returns-in-Err-clause-fault : goal.returns-in-Err-clause-fault
returns-in-Err-clause-fault c =
    elim (refused_list c.args.list.now c.args.settings.now c.in-Err.fault c.from.result c.from.ensures c.in-Err.ensures.fault) [
      | inl memory ↦ inl (ap InPlan memory)
      | inr refused ↦ inr refused
    ]

pub returns-in-Err-clause-refused : goal.returns-in-Err-clause-refused
returns-in-Err-clause-refused c = λ fault first.
    elim (refused_list c.args.list.now c.args.settings.now c.in-Err.fault c.from.result c.from.ensures c.in-Err.ensures.fault) [
      | inl memory ↦ inr (ap (λ (f : PlanFault). Err (InPlan f)) memory)
      | inr refused ↦ inl (ap Err (one_cause (λ f. PlansFenced c.args.list.now c.args.settings.now (Err f)) (Planned c.args.list.now c.args.settings.now) (SpellDescriptors c.args.list.now) (says c.args.list.now c.args.settings.now) c.args.settings.now c.args.regions.now (InPlan c.from.result) fault refused first))
    ]
