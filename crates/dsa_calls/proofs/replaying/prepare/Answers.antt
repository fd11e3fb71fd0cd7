use Rattle.std.proofs.Common.{List, length, map, inr, sym, subst, arith}
use Rattle.std.proofs.lemmas.List.{length-map}
use Rattle.std.proofs.lemmas.Result.{err_from_is_err_and}
use Rattle.dsa_descriptor.specs.declared.descriptor.Descriptor.{Descriptor}
use Rattle.dsa_descriptor.specs.Descriptors.{fields}
use Rattle.dsa_ranges.specs.Ranges.{ConflictAt}
use Rattle.dsa_settings.specs.Legal.{IsLegal}
use Rattle.dsa_core.specs.Accounts.{most_members}
use Rattle.dsa_calls.specs.declared.fault.PlanFault.{PlanFault}
use Rattle.dsa_calls.specs.Planned.{IsPlanOf}
use Rattle.dsa_calls.specs.Runs.{CanBegin, IsFirstBeginFault}
use Rattle.dsa_calls.proofs.Refusals.{found_submission}
use Rattle.dsa_calls.proofs.replaying.prepare.Goals as goal

pub returns-in_err-engines-clause-answer : goal.returns-in_err-engines-clause-answer
returns-in_err-engines-clause-answer c =
    let p = err_from_is_err_and c.from_residual-in_err-engines.result c.from_residual-in_err-engines.ensures.1 in
    let m = c.args.image.now in
    let pieces = c.in_ok-pieces.field-0.descriptors.items in
    let first = subst (λ (ds : List Descriptor). IsFirstBeginFault m c.args.engines (map fields ds) c.in_err-engines.field-0.0) c.deref.ensures.value c.in_err-engines.ensures in
    rw p.1 (inr (inr (pieces, c.in_ok-pieces.ensures.split, subst (λ (f : PlanFault). IsFirstBeginFault m c.args.engines (map fields pieces) f) (sym p.2) first)))

pub returns-clause-answer : goal.returns-clause-answer
returns-clause-answer c =
    let s = c.args.settings.now in
    let plan = c.in_ok-plan.plan in
    record {
      planned = found_submission c.args.list.now s c.in_ok-pieces.field-0.descriptors.items plan c.in_ok-pieces.ensures.split
          (subst (λ (ds : List Descriptor). IsPlanOf s ds plan) c.deref-2.ensures.value c.in_ok-plan.ensures.chosen);
      number_is = c.in_ok-engines.ensures.0;
      can = subst (λ (ds : List Descriptor). CanBegin c.args.image.now c.args.engines (map fields ds)) c.deref.ensures.value c.in_ok-engines.ensures.1;
    }

pub returns-clause-runnable : goal.returns-clause-runnable
returns-clause-runnable c =
    let pieces = c.in_ok-pieces.field-0.descriptors.items in
    let can = subst (λ (ds : List Descriptor). CanBegin c.args.image.now c.args.engines (map fields ds)) c.deref.ensures.value c.in_ok-engines.ensures.1 in
    let number = c.in_ok-engines.ensures.0 in
    let some = can.are_engines.some in
    let few = can.are_engines.few in
    let count = c.in_ok-pieces.ensures.can.few in
    record {
      few = omega (arith, count, length-map pieces fields);
      legal = subst (λ (ds : List Descriptor). IsLegal (ConflictAt (map fields ds)) most_members (length ds) c.in_ok-plan.plan) c.deref-2.ensures.value c.in_ok-plan.ensures.legal;
      in_image = can.holds;
      some_engine = omega (arith, number, some);
      few_engines = omega (arith, number, few);
    }
