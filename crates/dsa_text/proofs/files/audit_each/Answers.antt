use Rattle.std.proofs.Common.{ℕ, List, subst, sym}
use Rattle.dsa_recording.specs.Inputs.{AnswersInput}
use Rattle.dsa_text.specs.Files.{AreFileAnswers}
use Rattle.dsa_text.proofs.Together.{no_answers, one_more}
use Rattle.dsa_text.proofs.files.audit_each.Goals as goal

pub loop-name-init : goal.loop-name-init
loop-name-init c =
    subst (λ (xs : List ℕ). AreFileAnswers (AnswersInput c.args.options) 0 xs c.none-used.result) (sym c.in_ok-statuses.ensures.items)
    (no_answers (AnswersInput c.args.options) c.none-used.result c.none-used.ensures)

pub loop-name-preserved : goal.loop-name-preserved
loop-name-preserved c =
    one_more (AnswersInput c.args.options) c.loop-name.name-index c.loop-name.statuses.items c.push.new.self.items c.loop-name.used c.add_all.new.self c.in_ok-answer.answer
    c.loop-name.invariant c.in_ok-answer.ensures c.in_ok-push.ensures.items c.in_ok-add_all.ensures
