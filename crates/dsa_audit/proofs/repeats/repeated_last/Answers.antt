use Rattle.std.proofs.Common.{◌≡◌, true, false, subst, sym, ◌∙◌}
use Rattle.dsa_audit.specs.Repeats.{IsLastKnown}
use Rattle.dsa_audit.proofs.Repeated.{unlike_last, none_last}
use Rattle.dsa_audit.proofs.repeats.repeated_last.Goals as goal

pub returns-in_default : goal.returns-in_default
returns-in_default c = none_last c.args.actions.now c.args.members.now c.args.k c.args.last c.requires.last c.in_default.not-Some

pub returns-else-is_repeated : goal.returns-else-is_repeated
returns-else-is_repeated c =
    unlike_last c.args.actions.now c.args.members.now c.args.k c.in-Some.earlier (subst (IsLastKnown c.args.members.now c.args.k) c.in-Some.is c.requires.last)
    (λ r. let no : false ≡ true = sym c.if-is_repeated.false ∙ c.is_repeated.ensures.1 r in absurd cc)
