use Rattle.std.proofs.Common.{List, sym, subst, map}
use Rattle.std.specs.Prelude.{IfOk}
use Rattle.dsa_descriptor.specs.declared.descriptor.Descriptor.{Descriptor}
use Rattle.dsa_descriptor.specs.Descriptors.{fields}
use Rattle.dsa_core.specs.Given.{IsRunnable}
use Rattle.dsa_core.specs.DescriptorRooms.{IsOutcomeOf}
use Rattle.dsa_core.specs.Outcomes.{room_with}
use Rattle.dsa_calls.specs.Lists.{OrMemory}
use Rattle.dsa_calls.specs.Runs.{OrShut, RunsPieces, left_of}
use Rattle.dsa_calls.proofs.Refusals.{ready_taken, ready_can, of_submission}
use Rattle.dsa_calls.proofs.Histories.{engines_leave_whole, engines_have_run}
use Rattle.dsa_calls.proofs.running.run_gated.Goals as goal

pub run_pieces-requires-clause-asked : goal.run_pieces-requires-clause-asked
run_pieces-requires-clause-asked g c lifetimes outlives =
    let r = c.in_ok-ready.ready in
    subst (λ (ds : List Descriptor). IsRunnable c.args.image.now r.plan ds r.engines) (sym c.deref.ensures.value) c.in_ok-ready.ensures.runnable

pub run_pieces-requires-clause-can : goal.run_pieces-requires-clause-can
run_pieces-requires-clause-can g c lifetimes outlives =
    let r = c.in_ok-ready.ready in
    ready_can c.args.list.now c.args.settings.now c.args.image.now c.args.engines r.pieces.items c.deref.result.now r.plan r.engines c.in_ok-ready.ensures.answer c.deref.ensures.value

pub returns-clause-answer : goal.returns-clause-answer
returns-clause-answer g c =
    let r = c.in_ok-ready.ready in
    ready_taken (λ n plan fs o. OrShut g.G.Gate.may_refuse (RunsPieces c.args.image.now n plan fs) o) c.args.list.now c.args.settings.now c.args.image.now c.args.engines r.pieces.items c.deref.result.now
    r.plan r.engines c.run_pieces.result c.in_ok-ready.ensures.answer c.deref.ensures.value c.run_pieces.ensures.answer

pub returns-clause-as_in_order : goal.returns-clause-as_in_order
returns-clause-as_in_order g c =
    let r = c.in_ok-ready.ready in
    let ready = c.in_ok-ready.ensures.answer in
    engines_leave_whole g.G.Gate.may_refuse c.args.list.now c.args.settings.now c.args.image.now c.args.engines ready.planned.0 c.run_pieces.result c.in_ok-ready.ensures.limits ready.planned.1
    (of_submission (λ n plan ds. OrMemory left_of (OrShut g.G.Gate.may_refuse (RunsPieces c.args.image.now n plan (map fields ds))) c.run_pieces.result) c.args.list.now c.args.settings.now
    c.args.image.now c.args.engines r.pieces.items c.deref.result.now r.plan r.engines ready c.deref.ensures.value c.run_pieces.ensures.answer)

pub returns-clause-history : goal.returns-clause-history
returns-clause-history g c =
    let r = c.in_ok-ready.ready in
    let ready = c.in_ok-ready.ensures.answer in
    engines_have_run c.args.list.now c.args.settings.now c.args.image.now c.args.engines ready.planned.0 c.run_pieces.result ready.planned.1
    (of_submission (λ n plan ds. IfOk c.run_pieces.result (λ o. IsOutcomeOf (room_with c.args.image.now plan (map fields ds) n o.history.items) o)) c.args.list.now c.args.settings.now
    c.args.image.now c.args.engines r.pieces.items c.deref.result.now r.plan r.engines ready c.deref.ensures.value c.run_pieces.ensures.history)
