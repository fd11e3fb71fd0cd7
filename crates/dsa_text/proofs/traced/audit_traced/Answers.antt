use Rattle.std.proofs.Common.{inl, inr}
use Rattle.std.proofs.lemmas.Result.{IfOk-weaker}
use Rattle.dsa_text.proofs.traced.audit_traced.Goals as goal

pub returns-then-report-eq2 : goal.returns-then-report-eq2
returns-then-report-eq2 c = (c.in_ok-report.report, c.in_ok-report.ensures, inl (c.if-report-eq2.true, c.if-report-eq2.true))

pub returns : goal.returns
returns c =
    IfOk-weaker c.joined.result _ _
    (λ a h. (c.in_ok-report.report, c.in_ok-report.ensures, inr (c.format_in-format.result, c.in_ok-waits.waits.report, c.format_in-format.ensures, c.in_ok-waits.ensures, h)))
    c.joined.ensures
