use Rattle.std.proofs.Common.{inr, List, length, refl, subst}
use Rattle.dsa_operations.specs.declared.operation.Operation.{Operation}
use Rattle.dsa_operations.specs.Operations.{operation_kind}
use Rattle.dsa_emission.specs.EmissionFaults.{IsEmissionAs}
use Rattle.dsa_settings.specs.Settings.{Limits}
use Rattle.dsa_c.specs.Tracking.{RefusesPlan, TakesPlan}
use Rattle.dsa_c.proofs.Emissions.{refuses_emission}
use Rattle.dsa_c.proofs.tracking.take_groups.Goals as goal

pub returns-in-Err : goal.returns-in-Err
returns-in-Err c = (
  c.refusal.ensures.some,
  refuses_emission c.args.settings.now c.args.table.now c.args.words.now c.args.portal.now c.args.staging.now _ c.in-Some.limits c.in-Err.fault c.from.result c.refusal.result c.in-Some.ensures.0 c.in-Some.ensures.1 c.in-Err.ensures.fault c.from.ensures c.refusal.ensures.value,
  refl,
  refl,
)

pub returns-in-Ok-submit_groups : goal.returns-in-Ok-submit_groups
returns-in-Ok-submit_groups c =
    let answer = c.in-Ok-submit_groups.ensures.answer in (
      c.in-Ok.read.0,
      c.in-Ok.read.1.items,
      c.in-Some.ensures.1,
      subst (λ (l : Limits). IsEmissionAs operation_kind l c.args.portal.now c.args.staging.now c.in-Ok.read.0 c.in-Ok.read.1.items) c.in-Some.ensures.0 c.in-Ok.ensures.found,
      subst (λ (ds : List Operation). TakesPlan c.args.words.now ds c.in-Ok.read.0 c.args.settings.now.staging c.args.also c.args.slots.now c.submit_groups.new.slots c.submit_groups.new.words)
          c.deref.ensures.value (answer.0, answer.1, answer.2, answer.3, c.in-Ok-submit_groups.ensures.rest),
    )

pub returns : goal.returns
returns c =
    let answer = c.in-Err-submit_groups.ensures.answer in (
      c.track_refusal.ensures.some,
      inr (inr (inr (
        c.in-Ok.read.0,
        c.in-Ok.read.1.items,
        c.in-Err-submit_groups.fault,
        c.in-Some.ensures.1,
        subst (λ (l : Limits). IsEmissionAs operation_kind l c.args.portal.now c.args.staging.now c.in-Ok.read.0 c.in-Ok.read.1.items) c.in-Some.ensures.0 c.in-Ok.ensures.found,
        subst (λ (ds : List Operation). RefusesPlan c.args.words.now ds c.in-Ok.read.0 c.args.settings.now.staging (length c.args.slots.now) c.in-Err-submit_groups.fault)
            c.deref.ensures.value answer.0,
        c.track_refusal.ensures.value,
      ))),
      answer.1,
      answer.2,
    )
