use Rattle.std.proofs.Common.{inr, sym, ap, arith, ◌∙◌}
use Rattle.serde_json.specs.Read.{read}
use Rattle.dsa_report.specs.Read.{IsText, has_cause}
use Rattle.dsa_report.proofs.Outcomes.{read_value}
use Rattle.dsa_report.proofs.Refusals.{none_refused}
use Rattle.dsa_report.proofs.jobs.read_job.Goals as goal

pub returns-in-Ok-Some : goal.returns-in-Ok-Some
returns-in-Ok-Some c =
    let (same, valid) = c.in-Ok.ensures.cases in
    let value = rw c.in-Ok-Some.field-0-is at c.in-Ok-Some.ensures.ok in
    let (d, is, slots) = value in
    let text : IsText c.args.text.now d = record { short = omega (arith, c.if-text-gt-LONGEST_TEXT.false); valid = valid; value = ap read (sym same) ∙ is } in
    read_value c.args.text.now d text c.job_of.result (c.job_of.ensures d slots)

pub returns-in-Ok-None : goal.returns-in-Ok-None
returns-in-Ok-None c =
    let (same, valid) = c.in-Ok.ensures.cases in
    let value = rw c.in-Ok-None.field-0-is at c.in-Ok-None.ensures.ok in
    let (d, is, other) = value in
    let text : IsText c.args.text.now d = record { short = omega (arith, c.if-text-gt-LONGEST_TEXT.false); valid = valid; value = ap read (sym same) ∙ is } in
    inr (has_cause d text (none_refused d other))
