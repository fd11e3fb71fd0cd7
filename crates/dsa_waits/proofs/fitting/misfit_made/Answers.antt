use Rattle.std.proofs.Common.{length, arith}
use Rattle.dsa_waits.proofs.Placed.{placed}
use Rattle.dsa_waits.proofs.fitting.misfit_made.Goals as goal
use Rattle.dsa_waits.specs.Recorded.{no_submission}

pub code_of-requires : goal.code_of-requires
code_of-requires c =
    let at = placed c.args.all.now 0 (length c.args.all.now) c.args.submissions.now c.args.made no_submission c.requires (omega arith) in
    omega (arith, at.0.head, at.0.some, at.0.ends)
