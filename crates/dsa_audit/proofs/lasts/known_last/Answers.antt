use Rattle.std.proofs.Common.{None}
use Rattle.std.proofs.lemmas.Option.{slice_get-get_or}
use Rattle.dsa_audit.proofs.lasts.known_last.Goals as goal

pub returns-then-k-known : goal.returns-then-k-known
returns-then-k-known c =
    c.requires.lasts c.args.k _ (slice_get-get_or c.args.known.now c.args.k None c.if-k-known.true)
