use Rattle.std.proofs.Common.{length, subst}
use Rattle.std.proofs.lemmas.Result.{IfOk-weaker}
use Rattle.dsa_recording.specs.Inputs.{AnswersInput}
use Rattle.dsa_text.specs.Audited.{AuditsInput}
use Rattle.dsa_text.specs.Files.{AuditsFiles}
use Rattle.dsa_text.proofs.Together.{as_audited, files_weaker}
use Rattle.dsa_text.proofs.files.audit_files.Goals as goal

pub returns-in-Ok : goal.returns-in-Ok
returns-in-Ok c none =
    let settle = rw c.in-Ok.is at c.in_ok-settings.ensures in
    IfOk-weaker c.audit_named.result _ _ (λ status h.
    subst (λ accepted. AuditsFiles c.args.matches.now accepted (AuditsInput c.args.matches.now c.args.given) (length c.args.names.now) status) settle.accepted
    (files_weaker c.args.matches.now c.in-Ok.options.accepted.now (AnswersInput c.in-Ok.options) (AuditsInput c.args.matches.now c.args.given) (length c.args.names.now) status
    (as_audited c.args.matches.now c.args.given c.in-Ok.options none settle) h)) c.audit_named.ensures
