use Rattle.std.proofs.Common.{arith, subst, sym}
use Rattle.dsa_recording.specs.Answers.{ArePlaced}
use Rattle.dsa_recording.specs.Reports.{reported_by}
use Rattle.dsa_recording.specs.Pairs.{terms}
use Rattle.dsa_recording.proofs.Found.{report_placed}
use Rattle.dsa_recording.proofs.Summed.{has_sums}
use Rattle.dsa_recording.proofs.Within.{within}
use Rattle.dsa_recording.specs.Submissions.{AreAudited}
use Rattle.dsa_recording.proofs.parts.Parts.add_report.Goals as goal

pub add-requires-clause-sums : goal.add-requires-clause-sums
add-requires-clause-sums c = has_sums (terms c.args.options.accepted.now c.args.options.assumptions) c.args.part.now c.in-Ok.report c.in-Ok.ensures.answer (omega arith)

pub add-requires-clause-within : goal.add-requires-clause-within
add-requires-clause-within c =
    within c.args.part.now c.as_chunks.result.0.now c.in-Ok.report.submissions.items c.as_chunks.ensures.front c.in-Ok.ensures.answer.submissions

pub status_of-requires : goal.status_of-requires
status_of-requires c =
    subst (λ es. ArePlaced es (reported_by c.in-Ok.report)) (sym c.as_chunks.ensures.front)
    (report_placed (terms c.args.options.accepted.now c.args.options.assumptions) c.args.part.now (reported_by c.in-Ok.report) c.in-Ok.ensures.answer)

pub add-requires-clause-audited : goal.add-requires-clause-audited
add-requires-clause-audited c = (
  terms c.args.options.accepted.now c.args.options.assumptions,
  subst (λ es. AreAudited (terms c.args.options.accepted.now c.args.options.assumptions) es c.in-Ok.report.submissions.items c.in-Ok.report.audits.items) (sym c.as_chunks.ensures.front)
      c.in-Ok.ensures.answer.audits,
)

pub use_report-requires-clause-audited : goal.use_report-requires-clause-audited
use_report-requires-clause-audited c = (
  terms c.args.options.accepted.now c.args.options.assumptions,
  subst (λ es. AreAudited (terms c.args.options.accepted.now c.args.options.assumptions) es c.in-Ok.report.submissions.items c.in-Ok.report.audits.items) (sym c.as_chunks.ensures.front)
      c.in-Ok.ensures.answer.audits,
)

pub use_report-requires-clause-within : goal.use_report-requires-clause-within
use_report-requires-clause-within c =
    within c.args.part.now c.as_chunks.result.0.now c.in-Ok.report.submissions.items c.as_chunks.ensures.front c.in-Ok.ensures.answer.submissions

pub use_report-requires-clause-placed : goal.use_report-requires-clause-placed
use_report-requires-clause-placed c =
    subst (λ es. ArePlaced es (reported_by c.in-Ok.report)) (sym c.as_chunks.ensures.front)
    (report_placed (terms c.args.options.accepted.now c.args.options.assumptions) c.args.part.now (reported_by c.in-Ok.report) c.in-Ok.ensures.answer)
