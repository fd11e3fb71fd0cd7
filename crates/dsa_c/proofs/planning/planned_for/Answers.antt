use Rattle.std.proofs.Common.{subst}
use Rattle.dsa_settings.specs.Settings.{Limits}
use Rattle.dsa_lists.specs.AnyLists.{IsAnyPlan}
use Rattle.dsa_c.proofs.Refusing.{refuses_any_list}
use Rattle.dsa_c.proofs.planning.planned_for.Goals as goal

pub returns-in-Ok : goal.returns-in-Ok
returns-in-Ok c =
    let checked = c.in-Some.ensures in
    let p = c.in-Ok.planned in
    (checked.1, subst (λ (x : Limits). IsAnyPlan c.args.list.now x p.operations.items p.barriers.items p.plan) checked.0 c.in-Ok.ensures.found)

pub returns-in-Err : goal.returns-in-Err
returns-in-Err c =
    let checked = c.in-Some.ensures in (
      c.refusal.ensures.some,
      refuses_any_list c.args.settings.now c.args.table.now c.args.list.now c.in-Some.checked c.in-Err.fault c.refusal.result checked.0 checked.1 c.in-Err.ensures.fault c.refusal.ensures.value,
    )
