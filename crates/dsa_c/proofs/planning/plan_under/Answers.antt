use Rattle.std.proofs.Common.{rules, ◌⊎◌, ◌<◌, inl, inr, length, arith}
use Rattle.dsa_lists.specs.Submissions.{OperationSubmission, operation_submission_of}
use Rattle.dsa_c.proofs.Refusing.{planned_list, refuses_any_list, refuses_buffers}
use Rattle.dsa_c.proofs.planning.plan_under.Goals as goal
use Rattle.dsa_c.proofs.planning.plan_under.Goals.{else-portal_len-portal_room-via-then-portal_len-portal_room+else-staging_len-staging_room, else-portal_len-portal_room-via-else-portal_len-portal_room}

pub returns-else-portal_len-portal_room : goal.returns-else-portal_len-portal_room
returns-else-portal_len-portal_room c = λ s table is are.
    let list = c.args.list.now in
    let p : OperationSubmission = operation_submission_of c.in-Ok.planned in
    let planned = planned_list s table list c.args.settings.now p is are c.in-Ok.ensures.answer c.in-Ok.ensures.least c.in-Ok.ensures.checks in
    let short : (c.args.portal_room < length p.portal) ⊎ (c.args.staging_room < length p.staging) =
    elim c.else-portal_len-portal_room.branch [ else-portal_len-portal_room-via-then-portal_len-portal_room+else-staging_len-staging_room w ↦ inr (omega arith) | else-portal_len-portal_room-via-else-portal_len-portal_room w ↦ inl (omega arith) ] in
    (search rules, refuses_buffers s table list c.args.portal_room c.args.staging_room p c.no_room.result planned short (search rules))

pub returns-in-Err : goal.returns-in-Err
returns-in-Err c = λ s table is are. (
  c.refusal.ensures.some,
  inl (refuses_any_list s table c.args.list.now c.args.settings.now c.in-Err.fault c.refusal.result is are c.in-Err.ensures.answer c.refusal.ensures.value),
)

pub returns-then-staging_len-staging_room : goal.returns-then-staging_len-staging_room
returns-then-staging_len-staging_room c = λ s table is are.
    let p : OperationSubmission = operation_submission_of c.in-Ok.planned in (
      planned_list s table c.args.list.now c.args.settings.now p is are c.in-Ok.ensures.answer c.in-Ok.ensures.least c.in-Ok.ensures.checks,
      (search rules, search rules),
    )
