use Rattle.std.proofs.Common.{arith}
use Rattle.dsa_recording.proofs.Priced.{all_summed}
use Rattle.dsa_recording.proofs.costs.cost_with.Goals as goal

pub returns : goal.returns
returns c =
    all_summed c.args.settings.now c.args.fences c.args.report.now.audits.items c.loop-audited.audited-index c.loop-audited.cost
    (omega (arith, c.loop-audited-test.false)) c.loop-audited.invariant
