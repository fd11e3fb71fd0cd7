use Rattle.std.proofs.Common.{◌<◌, length, refl, arith}
use Rattle.dsa_conflicts.proofs.Overlapping.{notes_clash}
use Rattle.dsa_conflicts.proofs.overlaps.note.Goals as goal

pub returns-then-second-first : goal.returns-then-second-first
returns-then-second-first c =
    let in' : c.max-second.result < length c.args.lasts.now = omega (arith, c.requires.here, c.requires.there, c.max-second.ensures) in
    notes_clash c.args.window c.args.here c.args.there c.args.lasts.now c.min-first.result c.max-second.result c.min-first.ensures c.max-second.ensures in' (omega (arith, c.if-there-eq0.false)) (c.if-not-either_writes.ensures.0 refl) c.if-first-second.true (omega (arith, c.if-second-first.true)) c.later.result c.later.ensures
