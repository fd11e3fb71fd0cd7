use Rattle.std.proofs.Common.{◌≡◌, ◌⊎◌, List, Err, sym, subst, map}
use Rattle.std.proofs.lemmas.Result.{err_from_is_err_and}
use Rattle.dsa_descriptor.specs.declared.descriptor.Descriptor.{Descriptor}
use Rattle.dsa_descriptor.specs.Descriptors.{fields}
use Rattle.dsa_core.specs.Given.{IsRunnable}
use Rattle.dsa_calls.specs.declared.fault.PlanFault.{PlanFault}
use Rattle.dsa_calls.specs.declared.fault.PlanFault.TheVariants.{Memory}
use Rattle.dsa_calls.specs.Lists.{OrMemory}
use Rattle.dsa_calls.specs.Runs.{RefusesRun, ReplaysPieces, Replays, left_of}
use Rattle.dsa_calls.proofs.Over.{only_outcome}
use Rattle.dsa_calls.proofs.Refusals.{run_refused, ready_taken, ready_can, of_submission}
use Rattle.dsa_calls.proofs.Histories.{one_replayed, replay_leaves_whole}
use Rattle.dsa_calls.proofs.replaying.replay_bytes.Goals as goal

pub returns-in_err-ready-clause-only : goal.returns-in_err-ready-clause-only
returns-in_err-ready-clause-only c =
    let p = err_from_is_err_and c.from_residual.result c.from_residual.ensures.1 in
    let refused = subst (λ (f : PlanFault). (f ≡ Memory) ⊎ RefusesRun c.args.list.now c.args.settings.now c.args.image.now c.args.engines f) (sym p.2) c.in_err-ready.ensures.answer in
    rw p.1 (only_outcome left_of (Replays c.args.list.now c.args.settings.now c.args.image.now c.args.engines c.args.trace.now)
    (one_replayed c.args.list.now c.args.settings.now c.args.image.now c.args.engines c.args.trace.now) (Err p.0)
    (run_refused left_of (λ p o. ReplaysPieces c.args.image.now c.args.engines c.args.trace.now p.plan (map fields p.pieces) o) c.args.list.now c.args.settings.now c.args.image.now c.args.engines p.0 refused))

pub replay_pieces-requires-clause-asked : goal.replay_pieces-requires-clause-asked
replay_pieces-requires-clause-asked c =
    let r = c.in_ok-ready.ready in
    subst (λ (ds : List Descriptor). IsRunnable c.args.image.now r.plan ds r.engines) (sym c.deref.ensures.value) c.in_ok-ready.ensures.runnable

pub replay_pieces-requires-clause-can : goal.replay_pieces-requires-clause-can
replay_pieces-requires-clause-can c =
    let r = c.in_ok-ready.ready in
    ready_can c.args.list.now c.args.settings.now c.args.image.now c.args.engines r.pieces.items c.deref.result.now r.plan r.engines c.in_ok-ready.ensures.answer c.deref.ensures.value

pub returns-clause-answer : goal.returns-clause-answer
returns-clause-answer c =
    let r = c.in_ok-ready.ready in
    ready_taken (λ n plan fs o. ReplaysPieces c.args.image.now n c.args.trace.now plan fs o) c.args.list.now c.args.settings.now c.args.image.now c.args.engines r.pieces.items c.deref.result.now
    r.plan r.engines c.replay_pieces.result c.in_ok-ready.ensures.answer c.deref.ensures.value c.replay_pieces.ensures.answer

pub returns-clause-only : goal.returns-clause-only
returns-clause-only c =
    only_outcome left_of (Replays c.args.list.now c.args.settings.now c.args.image.now c.args.engines c.args.trace.now)
    (one_replayed c.args.list.now c.args.settings.now c.args.image.now c.args.engines c.args.trace.now) c.replay_pieces.result (returns-clause-answer c)

pub returns-clause-as_in_order : goal.returns-clause-as_in_order
returns-clause-as_in_order c =
    let r = c.in_ok-ready.ready in
    let ready = c.in_ok-ready.ensures.answer in
    replay_leaves_whole c.args.list.now c.args.settings.now c.args.image.now c.args.engines c.args.trace.now ready.planned.0 c.replay_pieces.result c.in_ok-ready.ensures.limits ready.planned.1
    (of_submission (λ n plan ds. OrMemory left_of (ReplaysPieces c.args.image.now n c.args.trace.now plan (map fields ds)) c.replay_pieces.result) c.args.list.now c.args.settings.now
    c.args.image.now c.args.engines r.pieces.items c.deref.result.now r.plan r.engines ready c.deref.ensures.value c.replay_pieces.ensures.answer)
