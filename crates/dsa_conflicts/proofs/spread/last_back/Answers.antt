use Rattle.std.proofs.Common.{◌≡◌, ◌-◌, map, inl, inr, subst, ℕ, arith}
use Rattle.std.specs.Prelude.{Some, slice_get}
use Rattle.std.proofs.lemmas.Bool.{cases_lt, cases_eq}
use Rattle.dsa_descriptor.specs.Descriptors.{fields}
use Rattle.dsa_ranges.proofs.Places.{fields_at}
use Rattle.dsa_conflicts.specs.Spread.{DataConflictAt}
use Rattle.dsa_conflicts.proofs.Moved.{data_conflict_of}
use Rattle.dsa_conflicts.proofs.spread.last_back.Goals as goal

pub loop-back-init : goal.loop-back-init
loop-back-init c = λ x before near. c.requires.later x (omega (arith, before, near)) before

pub returns-then-conflict : goal.returns-then-conflict
returns-then-conflict c =
    let fs = map fields c.args.pieces.now in
    let other = c.min-end.result - c.loop-back.back in
    let first = c.index-pieces-other.result in
    let second = c.index-pieces-piece.result in
    let at_first : slice_get fs other ≡ Some (fields first) = fields_at c.args.pieces.now other first (omega (arith, c.requires.inside, c.min-end.ensures)) c.index-pieces-other.is in
    let at_second : slice_get fs c.args.piece ≡ Some (fields second) = fields_at c.args.pieces.now c.args.piece second c.requires.inside c.index-pieces-piece.is in (
      record {
        before = omega (arith, c.loop-back.auto.back, c.loop-back-test.true, c.min-end.ensures);
        within = omega (arith, c.if-piece-other.false);
        conflict = (fields first, fields second, at_first, at_second, c.conflict.ensures.known c.if-conflict.true);
      },
      (λ x back.
          elim (cases_lt other x) [
            | inl late ↦ absurd (c.loop-back.invariant x back.before (omega (arith, late, c.loop-back-test.true, c.min-end.ensures)) back.conflict)
            | inr early ↦ early
          ]),
    )

pub loop-back-preserved : goal.loop-back-preserved
loop-back-preserved c = λ x before near conflict.
    let fs = map fields c.args.pieces.now in
    let other = c.min-end.result - c.loop-back.back in
    let first = c.index-pieces-other.result in
    let second = c.index-pieces-piece.result in
    let at_first : slice_get fs other ≡ Some (fields first) = fields_at c.args.pieces.now other first (omega (arith, c.requires.inside, c.min-end.ensures)) c.index-pieces-other.is in
    let at_second : slice_get fs c.args.piece ≡ Some (fields second) = fields_at c.args.pieces.now c.args.piece second c.requires.inside c.index-pieces-piece.is in
    elim (cases_eq x other) [
      | inl here ↦
          let same : DataConflictAt fs other c.args.piece = subst (λ (z : ℕ). DataConflictAt fs z c.args.piece) here conflict in
          c.conflict.ensures.none c.if-conflict.false (data_conflict_of fs other c.args.piece (fields first) (fields second) at_first at_second same)
      | inr apart ↦ c.loop-back.invariant x before (omega (arith, apart, near, c.min-end.ensures)) conflict
    ]

pub returns-then-piece-other : goal.returns-then-piece-other
returns-then-piece-other c = λ x back. c.loop-back.invariant x back.before (omega (arith, back.within, c.if-piece-other.true, c.min-end.ensures)) back.conflict

pub returns : goal.returns
returns c = λ x back. c.loop-back.invariant x back.before (omega (arith, back.before, c.loop-back-test.false, c.min-end.ensures)) back.conflict
