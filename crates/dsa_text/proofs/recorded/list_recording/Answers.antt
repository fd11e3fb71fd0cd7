use Rattle.std.proofs.Common.{ℕ, List, [], Result, IfOk, false, refl}
use Rattle.std.proofs.lemmas.Result.{IfOk-weaker}
use Rattle.dsa_recording.specs.declared.answer.AuditAnswer.{AuditAnswer}
use Rattle.dsa_recording.specs.declared.answer.AuditOptions.{AuditOptions}
use Rattle.dsa_recording.specs.declared.answer.AuditFormat.TheVariants.{List as Listed}
use Rattle.dsa_recording.specs.declared.assumptions.Await.TheVariants.{Writes}
use Rattle.dsa_recording.specs.Foreign.{AnswersEntries}
use Rattle.dsa_text.specs.Recorded.{AreListOptions, ListsRecording}
use Rattle.dsa_text.proofs.recorded.list_recording.Goals as goal

with_options : {E : Type 0} (r : Result AuditAnswer E) (bytes : List ℕ) (o : AuditOptions) → IfOk r (AnswersEntries o bytes) → AreListOptions o
    → IfOk r (ListsRecording bytes)
with_options r bytes o answers are = IfOk-weaker r _ _ (λ listed x. (o, are, x)) answers

pub returns : goal.returns
returns c =
    with_options c.audit_entries.result c.args.bytes.now
    (record {
      format = Listed;
      every = false;
      denied = record { needless = false; guarding = false; signalling = false; unseen = false; nothing = false };
      accepted = record { ref_ptr = c.args.settings.ref_ptr; now = c.none-accepted.result };
      assumptions = record { awaited = Writes; resident = false };
      waits = record { ref_ptr = c.args.bytes.ref_ptr; now = [] };
    }) c.audit_entries.ensures
    (record { format = refl; accepted = c.none-accepted.ensures; awaited = refl; resident = refl })
