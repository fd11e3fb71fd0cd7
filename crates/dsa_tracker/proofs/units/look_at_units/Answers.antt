use Rattle.std.proofs.Common.{inl, inr, subst, arith}
use Rattle.std.proofs.lemmas.Bool.{cases_eq}
use Rattle.dsa_tracker.specs.Rows.{IsSought}
use Rattle.dsa_tracker.proofs.RowBits.{in_all, in_first, in_second}
use Rattle.dsa_tracker.proofs.units.look_at_units.Goals as goal

pub returns-in_default : goal.returns-in_default
returns-in_default c = λ a s low from to sought. in_all s low

pub loop-unit-preserved : goal.loop-unit-preserved
loop-unit-preserved c =
    λ u s from below sought. elim (cases_eq u c.loop-unit.unit) [
      | inl here ↦ in_second c.loop-unit.found c.seek-found.result s (c.seek-found.ensures s (subst (λ n. IsSought c.args.grid c.args.rows.now c.args.is_written n s) here sought))
      | inr earlier ↦ in_first c.loop-unit.found c.seek-found.result s (c.loop-unit.invariant u s from (omega (arith, below, earlier)) sought)
    ]
