use Rattle.std.proofs.Common.{None, subst, arith}
use Rattle.std.proofs.lemmas.Option.{slice_get-get_or}
use Rattle.dsa_audit.specs.Repeats.{RepeatsLast}
use Rattle.dsa_audit.proofs.Repeated.{last_of_repeat, last_of_other}
use Rattle.dsa_audit.proofs.repeats.ordered_last.Goals as goal

pub returns-in-Some : goal.returns-in-Some
returns-in-Some c =
    let is = subst (RepeatsLast c.args.actions.now c.args.members.now c.args.k) c.in-Some.is c.requires.repeated in
    last_of_repeat c.args.actions.now c.args.members.now c.in-Some.earlier c.args.k c.args.k _ is.0 is.1
    (c.requires.ordered c.in-Some.earlier _ (slice_get-get_or c.args.ordered.now c.in-Some.earlier None (omega (arith, is.0.0.0, c.requires.count))))

pub returns-in-None : goal.returns-in-None
returns-in-None c =
    last_of_other c.args.actions.now c.args.members.now c.args.k c.args.known c.requires.known
    (subst (RepeatsLast c.args.actions.now c.args.members.now c.args.k) c.in-None.is c.requires.repeated)
