-- The answer of a recording, from that of its report.
use Rattle.std.proofs.Common.{ℕ, ◌≡◌, List, inl, subst, Result, Ok, Err}
use Rattle.std.specs.Prelude.{IfOk}
use Rattle.dsa_descriptor.specs.Lists.{entries}
use Rattle.dsa_recording.specs.declared.answer.AuditAnswer.{AuditAnswer}
use Rattle.dsa_recording.specs.declared.answer.AuditOptions.{AuditOptions}
use Rattle.dsa_recording.specs.Pairs.{terms}
use Rattle.dsa_recording.specs.Reports.{IsReport, Reported}
use Rattle.dsa_recording.specs.Answers.{AnswersReport, AnswersRecording}

pub reported : {E : Type 0} (r : Result AuditAnswer E) (options : AuditOptions) (bytes : List ℕ) (es : List (List ℕ)) (report : Reported)
    → es ≡ entries bytes → IsReport (terms options.accepted.now options.assumptions) bytes report → IfOk r (AnswersReport options es report) → IfOk r (AnswersRecording options bytes)
reported (Ok x) options bytes es report same is ok =
    inl (report, is, subst (λ es. AnswersReport options es report x) same ok)
reported (Err e) options bytes es report same is ok = tt
