use Rattle.std.proofs.Common.{rules}
use Rattle.std.specs.Prelude.{codes}
use Rattle.std.proofs.lemmas.Str.Pattern.{starts_text}
use Rattle.dsa_recording.proofs.stale.is_looked_for.Goals as goal

pub returns : goal.returns
returns c =
    let begins = starts_text c.starts_with.result (codes "missing wait") c.args.line.now c.starts_with.ensures.cases in
    search rules
