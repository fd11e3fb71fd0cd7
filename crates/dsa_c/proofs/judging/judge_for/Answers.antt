use Rattle.std.proofs.Common.{Err, refl}
use Rattle.dsa_calls.specs.declared.fault.PlanFault.TheVariants.{Memory}
use Rattle.dsa_lists.specs.AnyLists.{JudgesAnyList}
use Rattle.dsa_c.specs.Marks.{plan_of}
use Rattle.dsa_c.specs.Raw.{refusal_of}
use Rattle.dsa_c.proofs.Refusing.{refuses}
use Rattle.dsa_c.proofs.judging.judge_for.Goals as goal

pub returns-in-Ok-judge_any_list : goal.returns-in-Ok-judge_any_list
returns-in-Ok-judge_any_list c =
    let told = c.in-Ok-judge_any_list.ensures.answer in
    (c.in-Some.ensures.1, rw (c.in-Some.ensures.0, c.in-Ok.ensures) at told)

pub returns : goal.returns
returns c =
    let told = c.in-Err.ensures.answer in (
      c.refusal-in-Err.ensures.some,
      refuses refusal_of (λ l fault. JudgesAnyList c.args.list.now (plan_of c.args.marks.now) l (Err fault)) Memory c.args.settings.now c.args.table.now
          c.in-Some.checked c.in-Err.fault c.refusal-in-Err.result refl c.in-Some.ensures.0 c.in-Some.ensures.1 (rw c.in-Ok.ensures at told) c.refusal-in-Err.ensures.value,
    )
