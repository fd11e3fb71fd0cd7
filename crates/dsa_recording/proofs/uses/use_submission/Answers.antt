use Rattle.std.proofs.Common.{refl, subst}
use Rattle.std.specs.List.{AllByRecursion}
use Rattle.dsa_recording.specs.Details.{IsRight}
use Rattle.dsa_recording.specs.Uses.{TakesAcceptedOut}
use Rattle.dsa_recording.proofs.Using.{adds_none, takes_none}
use Rattle.dsa_recording.proofs.uses.use_submission.Goals as goal

pub returns-then-are_right : goal.returns-then-are_right
returns-then-are_right c =
    let es = c.args.judged.entries.now in
    let a = c.args.judged.audited.now in
    let right : AllByRecursion IsRight a.audit.unaccepted.places.items =
    subst (λ l. AllByRecursion IsRight l) c.deref.ensures.value (c.if-are_right.ensures.0 refl) in
    adds_none (TakesAcceptedOut c.args.judged.accepted.now es a) c.args.used.now
    (λ key p. takes_none es a c.requires.corrected c.requires.known right key p.1)
