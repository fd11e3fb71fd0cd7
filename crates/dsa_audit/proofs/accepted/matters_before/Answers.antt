use Rattle.std.proofs.Common.{◌≡◌, None, false, true, arith, refl}
use Rattle.std.proofs.lemmas.Option.{slice_get-get_or}
use Rattle.dsa_audit.proofs.Repeated.{last_of_none, last_of_repeat, last_of_unlike}
use Rattle.dsa_audit.proofs.accepted.matters_before.Goals as goal

pub returns-in_default : goal.returns-in_default
returns-in_default c =
    last_of_none c.args.relation.actions.now c.args.relation.members.now c.args.before c.args.later c.in_default.ensures

pub returns-then-is_repeated : goal.returns-then-is_repeated
returns-then-is_repeated c =
    last_of_repeat c.args.relation.actions.now c.args.relation.members.now c.in-Some.earlier c.args.before c.args.later _ c.in-Some.ensures (c.if-is_repeated.ensures.0 refl)
    (c.requires.lasts c.in-Some.earlier _ (slice_get-get_or c.args.lasts.now c.in-Some.earlier None (omega (arith, c.in-Some.ensures.0.0, c.requires.ordered, c.requires.within, c.requires.count))))

pub returns : goal.returns
returns c =
    last_of_unlike c.args.relation.actions.now c.args.relation.members.now c.in-Some.earlier c.args.before c.args.later c.in-Some.ensures (λ r. let no : false ≡ true = c.if-is_repeated.ensures.1 r in absurd cc)
