use Rattle.std.proofs.Common.{Ok, Err}
use Rattle.dsa_resume.specs.Rest.{remainder_of}
use Rattle.dsa_resume.proofs.Resumed.{answers_for}
use Rattle.dsa_operations.specs.Operations.{writes_of}
use Rattle.dsa_lists.specs.ReadLists.{planned_pieces_of}
use Rattle.dsa_text.specs.Resumed.{IsListedText, has_left, is_no_list, is_refused, is_unplanned, stopped}
use Rattle.dsa_text.proofs.resuming.resume_text.Goals as goal

pub returns-in-Err : goal.returns-in-Err
returns-in-Err c = is_no_list c.in-Err.fault c.in-Err.ensures.fault c.in_ok-text_fault-in-Err.ensures

pub returns-in-Err-plan_read_list : goal.returns-in-Err-plan_read_list
returns-in-Err-plan_read_list c =
    let list = c.in-Ok.read.list in
    let listed : IsListedText c.args.text.now c.args.keep_fences list.entries.items list.barriers.items =
    record { spelled = c.in-Ok.ensures.spelled; one_owner = list.one_owner; barriers_are = c.in-Ok.ensures.barriers } in
    is_unplanned list.entries.items list.barriers.items c.in-Err-plan_read_list.fault listed c.in-Err-plan_read_list.ensures.answer
    c.in_ok-refusal-in-Err-plan_read_list.ensures

pub returns-in_ok-rest_answer-in-Ok-resume_pieces : goal.returns-in_ok-rest_answer-in-Ok-resume_pieces
returns-in_ok-rest_answer-in-Ok-resume_pieces c =
    let list = c.in-Ok.read.list in
    let listed : IsListedText c.args.text.now c.args.keep_fences list.entries.items list.barriers.items =
    record { spelled = c.in-Ok.ensures.spelled; one_owner = list.one_owner; barriers_are = c.in-Ok.ensures.barriers } in
    let p = planned_pieces_of c.in-Ok-plan_read_list.planned in
    let resumed =
    answers_for writes_of c.args.order (stopped p c.args.records.now c.args.given_up.now) c.deref-2.result.now c.deref-3.result.now (Ok c.in-Ok-resume_pieces.rest)
    c.deref-2.ensures.value c.deref-3.ensures.value c.in-Ok-resume_pieces.ensures in
    has_left list.entries.items list.barriers.items p (remainder_of c.in-Ok-resume_pieces.rest) listed c.in-Ok-plan_read_list.ensures.answer resumed
    c.in_ok-rest_answer-in-Ok-resume_pieces.ensures

pub returns-in_ok-fault_answer-in-Err-resume_pieces : goal.returns-in_ok-fault_answer-in-Err-resume_pieces
returns-in_ok-fault_answer-in-Err-resume_pieces c =
    let list = c.in-Ok.read.list in
    let listed : IsListedText c.args.text.now c.args.keep_fences list.entries.items list.barriers.items =
    record { spelled = c.in-Ok.ensures.spelled; one_owner = list.one_owner; barriers_are = c.in-Ok.ensures.barriers } in
    let p = planned_pieces_of c.in-Ok-plan_read_list.planned in
    let resumed =
    answers_for writes_of c.args.order (stopped p c.args.records.now c.args.given_up.now) c.deref-2.result.now c.deref-3.result.now (Err c.in-Err-resume_pieces.fault)
    c.deref-2.ensures.value c.deref-3.ensures.value c.in-Err-resume_pieces.ensures in
    is_refused list.entries.items list.barriers.items p c.in-Err-resume_pieces.fault listed c.in-Ok-plan_read_list.ensures.answer resumed
    c.in_ok-fault_answer-in-Err-resume_pieces.ensures
