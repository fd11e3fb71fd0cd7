use Rattle.std.proofs.Common.{◌≡◌, ◌⊎◌, inl, inr, Bool, List, map, refl, sym, ap, subst}
use Rattle.dsa_calls.specs.declared.fault.PlanFault.TheVariants.{Memory}
use Rattle.dsa_calls.specs.Fenced.{IsSubmissionWith, PlansFenced}
use Rattle.dsa_calls.specs.Planned.{submission_of}
use Rattle.dsa_descriptor.specs.declared.descriptor.Descriptor.{Descriptor}
use Rattle.dsa_descriptor.specs.Descriptors.{fields}
use Rattle.dsa_operations.specs.declared.operation.Operation.TheVariants as operation
use Rattle.dsa_prepared.specs.declared.fault.PrepareFault.TheVariants.{Plan as InPlan}
use Rattle.dsa_prepared.specs.Preparing.{IsKept, IsPlaceFault, SpellDescriptors}
use Rattle.dsa_prepared.specs.Sound.{CanBeKept}
use Rattle.dsa_prepared.proofs.Preparation.{Planned, costed_of, descriptors_kept, place_first, says}
use Rattle.dsa_prepared.proofs.preparing.prepare_operations.Goals as goal
use Rattle.std.specs.Prelude.{Err}

pub keep_descriptors-requires : goal.keep_descriptors-requires
keep_descriptors-requires c =
    let p = submission_of c.in-Ok.planned in
    let s = c.args.settings.now in
    subst (λ (ds : List Descriptor). CanBeKept s (map operation.Descriptor ds) (map operation.Descriptor p.pieces) p.plan) (sym c.deref.ensures.value)
    (descriptors_kept c.args.operations.now.barriers.items s c.args.operations.now.descriptors.items p c.in-Ok.ensures.answer)

pub returns-in-Ok-keep_descriptors-clause-prepared : goal.returns-in-Ok-keep_descriptors-clause-prepared
returns-in-Ok-keep_descriptors-clause-prepared c = λ list listed is.
    let p = submission_of c.in-Ok.planned in
    let s = c.args.settings.now in
    let rs = c.args.regions.now in
    let operations = c.args.operations.now in
    let t = c.in-Ok-keep_descriptors.prepared in
    let kept = subst (λ (ds : List Descriptor). IsKept s rs (map operation.Descriptor ds) (map operation.Descriptor p.pieces) p.plan t) c.deref.ensures.value c.in-Ok-keep_descriptors.ensures.kept in
    costed_of list s rs operations.descriptors.items operations.barriers.items p t listed is c.in-Ok.ensures.answer kept

pub returns-clause-fault : goal.returns-clause-fault
returns-clause-fault c = λ list listed is.
    let p = submission_of c.in-Ok.planned in
    let s = c.args.settings.now in
    let rs = c.args.regions.now in
    let ds = c.args.operations.now.descriptors.items in
    let f = c.in-Err-keep_descriptors.fault in
    let planned = subst (λ (marks : List Bool). IsSubmissionWith marks s (map fields ds) p) is c.in-Ok.ensures.answer in
    let told = subst (λ (es : List Descriptor). (f ≡ InPlan Memory) ⊎ IsPlaceFault s rs (map operation.Descriptor es) f) c.deref.ensures.value c.in-Err-keep_descriptors.ensures.fault in
    elim told [
      | inl memory ↦ inl memory
      | inr place ↦ inr (place_first (λ g. PlansFenced list s (Err g)) (Planned list s) (SpellDescriptors list) (says list s) s rs (map operation.Descriptor ds) f (p, inr (ds, listed, planned)) (ds, listed, refl) place)
    ]

pub returns-in-Err-clause-fault : goal.returns-in-Err-clause-fault
returns-in-Err-clause-fault c = λ list listed is.
    elim c.in-Err.ensures.answer [
      | inl memory ↦ inl (ap InPlan memory)
      | inr refused ↦ inr (inr (c.args.operations.now.descriptors.items, listed, refused))
    ]
