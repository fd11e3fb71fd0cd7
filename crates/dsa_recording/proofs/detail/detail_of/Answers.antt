use Rattle.std.proofs.Common.{arith, sym}
use Rattle.std.proofs.lemmas.Option.{slice_get_read}
use Rattle.dsa_recording.proofs.Placed.{placed}
use Rattle.dsa_recording.specs.Reports.{reported_by}
use Rattle.dsa_recording.proofs.detail.detail_of.Goals as goal

pub returns : goal.returns
returns c =
    placed c.args.all.now (reported_by c.args.report.now) c.args.finding c.index-2.result.now c.index.result.now c.as_slice-operands.result.now c.described.result
    (slice_get_read c.args.report.now.submissions.items c.len.result c.args.finding.submission c.index-2.result.now (omega (arith, c.len.ensures)) (omega (arith, c.if-number-len.false)) c.index-2.ensures)
    (slice_get_read c.args.report.now.audits.items c.len-else-number-len.result c.args.finding.submission c.index.result.now (omega (arith, c.len-else-number-len.ensures)) (omega (arith, c.if-number-len-2.false)) c.index.ensures)
    (sym c.as_slice-operands.ensures.value)
    c.described.ensures
