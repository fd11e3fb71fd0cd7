use Rattle.std.proofs.Common.{ℕ, Option, sym, subst}
use Rattle.dsa_tracker.specs.Finding.{MayConflict}
use Rattle.dsa_tracker.specs.Sets.{Has}
use Rattle.dsa_tracker.specs.Table.{IsExactly}
use Rattle.dsa_tracker.proofs.finding.candidates.Goals as goal

pub returns-in-Some : goal.returns-in-Some
returns-in-Some c =
    subst (λ (o : Option ℕ). IsExactly c.intersection.result (λ k. Has c.args.others.among k × MayConflict c.args.others.wide o k)) (sym c.in-Some.is)
    (λ k. (
      λ h. let in_both = (c.intersection.ensures k).0 h in (in_both.1, (c.union.ensures k).0 in_both.0),
      λ h. (c.intersection.ensures k).1 ((c.union.ensures k).1 h.1, h.0),
    ))

pub returns-in-None : goal.returns-in-None
returns-in-None c =
    subst (λ (o : Option ℕ). IsExactly c.args.others.among (λ k. Has c.args.others.among k × MayConflict c.args.others.wide o k)) (sym c.in-None.is)
    (λ k. (λ h. (h, tt), λ h. h.0))
