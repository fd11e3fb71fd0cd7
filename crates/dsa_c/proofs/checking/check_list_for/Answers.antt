use Rattle.std.proofs.Common.{Err, refl}
use Rattle.dsa_plan.specs.Certificate.{contents}
use Rattle.dsa_settings.specs.Settings.{Limits}
use Rattle.dsa_calls.specs.declared.checking.FencedFault.{FencedFault}
use Rattle.dsa_calls.specs.declared.checking.FencedFault.TheVariants.{Call}
use Rattle.dsa_calls.specs.declared.fault.PlanFault.TheVariants.{Memory}
use Rattle.dsa_lists.specs.AnyLists.{ChecksAnyList}
use Rattle.dsa_c.specs.Certificates.{contents_of}
use Rattle.dsa_c.specs.Checking.{list_refusal_of}
use Rattle.dsa_c.proofs.Refusing.{checked_list_cost, list_fault, refuses}
use Rattle.dsa_c.proofs.checking.check_list_for.Goals as goal

pub returns-in-Ok-check_any_list : goal.returns-in-Ok-check_any_list
returns-in-Ok-check_any_list c =
    checked_list_cost c.args.settings.now c.args.table.now c.args.list.now c.args.portal.now c.args.staging.now c.in-Some.checked (contents_of c.args.given.now.version c.args.given.now.prices.now c.args.given.now.pairs.now) (contents c.in-Ok.certificate)
    c.in-Ok-check_any_list.cost c.in-Some.ensures.0 c.in-Some.ensures.1 c.in-Ok.ensures c.in-Ok-check_any_list.ensures.answer c.in-Ok-check_any_list.ensures.least

pub returns : goal.returns
returns c =
    let given = c.args.given.now in
    let Refused : Limits → FencedFault → Type 0 = λ l fault. ChecksAnyList c.args.list.now c.args.portal.now c.args.staging.now l (contents_of given.version given.prices.now given.pairs.now) (Err fault) in
    let told = c.in-Err.ensures.answer in (
      c.list_refusal.ensures.some,
      refuses list_refusal_of Refused (Call Memory) c.args.settings.now c.args.table.now c.in-Some.checked c.in-Err.fault c.list_refusal.result refl
          c.in-Some.ensures.0 c.in-Some.ensures.1 (list_fault (Refused c.in-Some.checked) c.in-Err.fault (rw c.in-Ok.ensures at told)) c.list_refusal.ensures.value,
    )
