use Rattle.std.proofs.Common.{sym, subst}
use Rattle.dsa_recording.specs.Streams.{ReadsStream}
use Rattle.dsa_recording.proofs.Within.{within}
use Rattle.dsa_recording.proofs.foreign.find_foreign.Goals as goal

pub first_foreign-requires : goal.first_foreign-requires
first_foreign-requires c =
    within c.args.bytes.now c.as_chunks.result.0.now c.deref.result.now c.as_chunks.ensures.front
    (subst (ReadsStream c.args.bytes.now) (sym c.deref.ensures.value) c.in-Ok.ensures.answer)
