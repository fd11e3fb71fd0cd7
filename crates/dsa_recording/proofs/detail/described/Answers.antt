use Rattle.std.proofs.Common.{sym, ap, subst}
use Rattle.std.specs.Prelude.{MatchOption}
use Rattle.dsa_recording.specs.declared.findings.Finding.{Finding}
use Rattle.dsa_recording.specs.Details.{finding_at, HasEntry, Describes}
use Rattle.dsa_recording.proofs.detail.described.Goals as goal

pub returns-in-Head : goal.returns-in-Head
returns-in-Head c =
    subst (λ (f : Finding). MatchOption c.head_detail.result (¬ HasEntry c.args.all.now c.args.submission c.args.operands.now f) (Describes c.args.all.now c.args.submission c.args.operands.now f))
    (ap (λ p. finding_at c.args.finding.submission p c.args.finding.kind) (sym c.in-Head.is)) (c.head_detail.ensures c.args.operands.now)
