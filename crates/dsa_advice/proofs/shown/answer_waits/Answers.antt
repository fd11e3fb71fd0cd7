use Rattle.std.proofs.Common.{ℕ, refl, subst}
use Rattle.dsa_explain.specs.declared.waits.WaitsFault.{WaitsFault}
use Rattle.dsa_explain.specs.declared.waits.WaitsFault.TheVariants.{Track}
use Rattle.dsa_explain.specs.Waits.{RefusesWaits}
use Rattle.dsa_advice.specs.Shown.{is_untracked}
use Rattle.dsa_advice.proofs.Answered.{both}
use Rattle.dsa_advice.proofs.shown.answer_waits.Goals as goal

pub returns-in-Err-Track : goal.returns-in-Err-Track
returns-in-Err-Track c =
    both c.untracked.result _ _ _
    (λ a one words. is_untracked c.in-Err-Track.fault refl c.requires
    (subst (λ (n : ℕ). RefusesWaits n c.args.subject.now.plan.now c.args.subject.now.pieces.now (Track c.in-Err-Track.fault)) c.staging.ensures.value
    (subst (λ (f : WaitsFault). RefusesWaits c.staging.result c.args.subject.now.plan.now c.args.subject.now.pieces.now f) c.in-Err-Track.field-0-is c.in-Err-Track.ensures)) one words)
    c.untracked.ensures.status c.untracked.ensures.text
