use Rattle.dsa_recording.specs.Inputs.{AnswersInput}
use Rattle.dsa_text.specs.Files.{AreFileAnswers}
use Rattle.dsa_text.proofs.files.audit_each.Given as goal

-- those of the files so far
abbrev pub invariant-loop-name : goal.invariant-loop-name
invariant-loop-name l = AreFileAnswers (AnswersInput l.options) l.name-index l.statuses.items l.used
