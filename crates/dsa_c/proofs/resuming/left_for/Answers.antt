use Rattle.std.proofs.Common.{◌≡◌, ◌<◌, inl, Err, refl, length, arith}
use Rattle.std.proofs.lemmas.Grind.{common_steps}
use Rattle.dsa_calls.specs.declared.fault.PlanFault.TheVariants.{Memory}
use Rattle.dsa_resume.specs.declared.fault.ResumeFault.TheVariants.{Plan}
use Rattle.dsa_resume.specs.Rest.{remainder_of}
use Rattle.dsa_lists.specs.Resuming.{ResumesAnyList}
use Rattle.dsa_c.specs.Resuming.{IsLeftOf, order_of, resume_refusal_of}
use Rattle.dsa_c.proofs.Refusing.{refuses}
use Rattle.dsa_c.proofs.WhatIsLeft.{left_of_settings, refuses_room}
use Rattle.dsa_c.proofs.resuming.left_for.Goals as goal

pub returns-in-Err : goal.returns-in-Err
returns-in-Err c =
    let checked = c.in-Some.ensures in
    let l = c.args.stopped in
    let told = c.in-Err.ensures.answer in (
      c.resume_refusal.ensures.some,
      inl (refuses resume_refusal_of (λ x fault. ResumesAnyList x l.list.now l.records.now l.given_up.now (order_of l.failed_first) (Err fault)) (Plan Memory) c.args.settings.now c.args.table.now
          c.in-Some.checked c.in-Err.fault c.resume_refusal.result refl checked.0 checked.1 (rw c.order_of-order.ensures at told) c.resume_refusal.ensures.value),
    )

pub returns-then-len-room : goal.returns-then-len-room
returns-then-len-room c =
    let checked = c.in-Some.ensures in
    let l = c.args.stopped in
    let rest = remainder_of c.in-Ok.rest in
    let left : IsLeftOf c.args.settings.now c.args.table.now l.list.now l.records.now l.given_up.now l.failed_first rest =
    left_of_settings c.args.settings.now c.args.table.now l.list.now l.records.now l.given_up.now l.failed_first c.in-Some.checked c.order_of-order.result checked.0 checked.1 c.order_of-order.ensures
    rest c.in-Ok.ensures.answer c.in-Ok.ensures.again in
    let bytes = c.in-Ok-written_rest.left.bytes.items in
    let count : c.len-then-len-room.result ≡ length bytes = grind (arith, common_steps, c.len-then-len-room.ensures) in
    let short : c.args.room < length bytes = grind (arith, common_steps, c.if-len-room.true, c.len.ensures) in (
      rw c.refusal_at.ensures (omega arith),
      refuses_room _ _ _ _ _ _ c.args.room rest bytes c.refusal_at.result c.len-then-len-room.result left c.in-Ok-written_rest.ensures.0 short c.refusal_at.ensures count,
    )

pub returns : goal.returns
returns c =
    let checked = c.in-Some.ensures in
    let l = c.args.stopped in
    let rest = remainder_of c.in-Ok.rest in (
      grind (arith, common_steps, c.if-len-room.false, c.len.ensures),
      record {
        rest = rest;
        left = left_of_settings c.args.settings.now c.args.table.now l.list.now l.records.now l.given_up.now l.failed_first c.in-Some.checked c.order_of-order.result checked.0 checked.1
            c.order_of-order.ensures rest c.in-Ok.ensures.answer c.in-Ok.ensures.again;
        bytes_are = c.in-Ok-written_rest.ensures.0;
        resumed_is = c.in-Ok-written_rest.ensures.1;
      },
    )
