use Rattle.std.proofs.Common.{arith, subst, sym}
use Rattle.dsa_recording.specs.Answers.{ArePlaced}
use Rattle.dsa_recording.specs.Reports.{reported_by}
use Rattle.dsa_recording.specs.Pairs.{terms}
use Rattle.dsa_recording.proofs.Found.{report_placed}
use Rattle.dsa_recording.proofs.ListingLines.{report_entries}
use Rattle.dsa_recording.proofs.Status.{reported}
use Rattle.dsa_recording.proofs.Summed.{has_sums}
use Rattle.dsa_recording.proofs.Within.{within}
use Rattle.dsa_recording.specs.Submissions.{AreAudited}
use Rattle.dsa_recording.proofs.answer.audit_bytes.Goals as goal

pub answer_report-requires-clause-sums : goal.answer_report-requires-clause-sums
answer_report-requires-clause-sums c = has_sums (terms c.args.options.accepted.now c.args.options.assumptions) c.args.bytes.now c.in-Ok.report c.in-Ok.ensures.answer (omega arith)

pub answer_report-requires-clause-entries : goal.answer_report-requires-clause-entries
answer_report-requires-clause-entries c = report_entries (terms c.args.options.accepted.now c.args.options.assumptions) c.args.bytes.now c.as_chunks.result.0.now c.in-Ok.report c.as_chunks.ensures.front c.in-Ok.ensures.answer

pub answer_report-requires-clause-within : goal.answer_report-requires-clause-within
answer_report-requires-clause-within c =
    within c.args.bytes.now c.as_chunks.result.0.now c.in-Ok.report.submissions.items c.as_chunks.ensures.front c.in-Ok.ensures.answer.submissions

pub answer_report-requires-clause-placed : goal.answer_report-requires-clause-placed
answer_report-requires-clause-placed c =
    subst (λ es. ArePlaced es (reported_by c.in-Ok.report)) (sym c.as_chunks.ensures.front)
    (report_placed (terms c.args.options.accepted.now c.args.options.assumptions) c.args.bytes.now (reported_by c.in-Ok.report) c.in-Ok.ensures.answer)

pub returns-in-Ok : goal.returns-in-Ok
returns-in-Ok c =
    reported c.answer_report.result c.args.options c.args.bytes.now c.as_chunks.result.0.now (reported_by c.in-Ok.report) c.as_chunks.ensures.front
    c.in-Ok.ensures.answer c.answer_report.ensures

pub answer_report-requires-clause-audited : goal.answer_report-requires-clause-audited
answer_report-requires-clause-audited c = (
  terms c.args.options.accepted.now c.args.options.assumptions,
  subst (λ es. AreAudited (terms c.args.options.accepted.now c.args.options.assumptions) es c.in-Ok.report.submissions.items c.in-Ok.report.audits.items) (sym c.as_chunks.ensures.front)
      c.in-Ok.ensures.answer.audits,
)
