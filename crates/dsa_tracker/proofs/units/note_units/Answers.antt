use Rattle.std.proofs.Common.{inl, inr, sym, subst, arith}
use Rattle.std.proofs.lemmas.Bool.{cases_eq}
use Rattle.dsa_tracker.specs.Rows.{IsNoted, IsSought}
use Rattle.dsa_tracker.proofs.RowBits.{in_first, in_second, noted_still, sought_still}
use Rattle.dsa_tracker.proofs.units.note_units.Goals as goal

pub loop-unit-preserved : goal.loop-unit-preserved
loop-unit-preserved c =
    record {
      found = λ u s low from below sought. elim (cases_eq u c.loop-unit.unit) [
        | inl here ↦
            in_second c.loop-unit.found c.note-found.result s
            (c.note-found.ensures.found s (sought_still c.args.grid c.args.rows.now c.loop-unit.rows c.args.is_written c.loop-unit.unit s (λ k. c.loop-unit.invariant.kept k s low) (subst (λ n. IsSought c.args.grid c.args.rows.now c.args.is_written n s) here sought)))
        | inr earlier ↦ in_first c.loop-unit.found c.note-found.result s (c.loop-unit.invariant.found u s low from (omega (arith, below, earlier)) sought)
      ];
      noted = λ u from below. elim (cases_eq u c.loop-unit.unit) [
        | inl here ↦ subst (λ n. IsNoted c.args.grid c.note-found.new.rows c.args.is_written n c.args.slot) (sym here) c.note-found.ensures.noted
        | inr earlier ↦
            noted_still c.args.grid c.loop-unit.rows c.note-found.new.rows c.args.is_written u c.args.slot (λ k. c.note-found.ensures.kept k c.args.slot c.requires.few)
            (c.loop-unit.invariant.noted u from (omega (arith, below, earlier)))
      ];
      kept = λ k s low was. c.note-found.ensures.kept k s low (c.loop-unit.invariant.kept k s low was);
    }

pub returns-clause-found : goal.returns-clause-found
returns-clause-found c =
    λ a s low from to sought.
    let u = c.in_ok-from.ensures a from to in
    let lt = u.1 in
    c.loop-unit.invariant.found _ s low u.0 (omega (arith, lt, c.loop-unit-test.false)) sought

pub returns-clause-noted : goal.returns-clause-noted
returns-clause-noted c =
    λ some a from to.
    let u = c.in_ok-from.ensures a from to in
    let lt = u.1 in
    c.loop-unit.invariant.noted _ u.0 (omega (arith, lt, c.loop-unit-test.false))

pub returns-clause-kept : goal.returns-clause-kept
returns-clause-kept c = c.loop-unit.invariant.kept
