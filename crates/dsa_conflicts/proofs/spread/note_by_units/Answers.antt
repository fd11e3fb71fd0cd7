use Rattle.std.proofs.Common.{◌≡◌, ℕ, ◌+◌, ◌-◌, ◌≤◌, List, length, map, replicate, slice_index, inl, inr, sym, subst, ◌∙◌, arith}
use Rattle.std.specs.Prelude.{Option, Some, slice_get}
use Rattle.std.proofs.Math.ListN.{get_or-eq_default}
use Rattle.std.proofs.lemmas.Bool.{cases_lt, ltb-true}
use Rattle.std.proofs.lemmas.List.{length-map, length-replicate, get_or-replicate}
use Rattle.dsa_descriptor.specs.Descriptors.{fields}
use Rattle.dsa_descriptor.specs.Fields.{Fields}
use Rattle.dsa_ranges.proofs.Places.{fields_at}
use Rattle.dsa_conflicts.specs.Spread.{AreNoted}
use Rattle.dsa_conflicts.proofs.Bits.{noted_none, later_pieces, noted_more, noted_are_lasts}
use Rattle.dsa_conflicts.proofs.spread.note_by_units.Goals as goal

-- no unit has a stamp yet
unstamped : (k : ℕ) → slice_index (replicate 2048 0) k ≤ 0
unstamped k =
    let zero : ℕ = 0 in
    elim (cases_lt k 2048) [
      | inl inside ↦ omega (arith, get_or-replicate 2048 k zero zero inside)
      | inr past ↦ omega (arith, get_or-eq_default (replicate 2048 zero) zero {n = k} (omega (arith, past, length-replicate 2048 zero)))
    ]

pub loop-piece-init : goal.loop-piece-init
loop-piece-init c =
    noted_none (map fields c.args.pieces.now) (replicate 2048 0) c.args.lasts.now c.args.window c.unit_of-shift.result 18446744073709551615 0 18446744073709551615 0 unstamped
    (c.requires.count ∙ sym (length-map c.args.pieces.now fields)) c.requires.blank

pub last_back-requires-clause-later : goal.last_back-requires-clause-later
last_back-requires-clause-later c =
    let fs = map fields c.args.pieces.now in
    let d = c.index-pieces-piece.result in
    let n = c.loop-piece.piece in
    let at : slice_get fs n ≡ Some (fields d) = fields_at c.args.pieces.now n d (omega (arith, c.loop-piece-test.true)) c.index-pieces-piece.is in
    let p = c.in-Some.p in
    let q = c.in-Some.q in
    let more = c.from-more.result - 1 in
    let told = c.mark_all-latest.ensures in
    later_pieces fs n (fields d) at c.unit_of-shift.result p (p + more) q (q + more)
    (λ x h. elim (c.in-Some.ensures d.size x h) [
      | inl w ↦ inl (omega (arith, w.0), omega (arith, w.0, w.1, d.listed.size_positive, c.from-more.ensures))
      | inr w ↦ inr (omega (arith, w.0), omega (arith, w.0, w.1, d.listed.size_positive, c.from-more.ensures))
    ])
    (subst (λ (k : ℕ). k ≤ 1) c.saturating_sub.ensures c.if-saturating_sub-gt1.false)
    (subst (λ (k : ℕ). k ≤ 1) c.saturating_sub-else-saturating_sub-gt1.ensures c.if-saturating_sub-gt1-2.false)
    c.loop-piece.stamps c.from.result
    (omega (arith, told.a, c.from.ensures)) (omega (arith, told.b, c.from.ensures)) (omega (arith, told.c, c.from.ensures)) (omega (arith, told.d, c.from.ensures))
    c.loop-piece.invariant.held

pub loop-piece-preserved : goal.loop-piece-preserved
loop-piece-preserved c =
    let fs = map fields c.args.pieces.now in
    let d = c.index-pieces-piece.result in
    let n = c.loop-piece.piece in
    let at : slice_get fs n ≡ Some (fields d) = fields_at c.args.pieces.now n d (omega (arith, c.loop-piece-test.true)) c.index-pieces-piece.is in
    let p = c.in-Some.p in
    let q = c.in-Some.q in
    let more = c.from-more.result - 1 in
    noted_more fs n (fields d) at c.unit_of-shift.result p (p + more) q (q + more)
    (λ x h. elim (c.in-Some.ensures d.size x h) [
      | inl w ↦ inl (omega (arith, w.0), omega (arith, w.0, w.1, d.listed.size_positive, c.from-more.ensures))
      | inr w ↦ inr (omega (arith, w.0), omega (arith, w.0, w.1, d.listed.size_positive, c.from-more.ensures))
    ])
    (subst (λ (k : ℕ). k ≤ 1) c.saturating_sub.ensures c.if-saturating_sub-gt1.false)
    (subst (λ (k : ℕ). k ≤ 1) c.saturating_sub-else-saturating_sub-gt1.ensures c.if-saturating_sub-gt1-2.false)
    c.loop-piece.stamps c.mark_all-latest.new.stamps
    c.mark_all-latest.ensures.kept c.mark_all-latest.ensures.most
    c.mark_all-latest.ensures.set_a
    c.mark_all-latest.ensures.set_b
    c.mark_all-latest.ensures.set_c
    c.mark_all-latest.ensures.set_d
    c.loop-piece.low c.loop-piece.high c.loop-piece.from c.loop-piece.to c.min-low.result c.max-high.result c.min-from.result (d.record_at + 32)
    (omega (arith, c.min.ensures, c.min-low.ensures)) (omega (arith, c.min.ensures, c.min-low.ensures)) (omega (arith, c.min.ensures, c.min-low.ensures))
    (omega (arith, c.max.ensures, c.max-high.ensures)) (omega (arith, c.max.ensures, c.max-high.ensures)) (omega (arith, c.max.ensures, c.max-high.ensures))
    (omega (arith, c.min-from.ensures)) (omega (arith, c.min-from.ensures)) (omega (arith, c.if-d-to.false)) (omega arith)
    c.loop-piece.lasts c.args.window c.last_back.result c.last_back.ensures (omega (arith, c.loop-piece-test.true, length-map c.args.pieces.now fields))
    c.loop-piece.invariant

noted_to : (fs : List Fields) (stamps : List ℕ) (lasts : List (Option ℕ)) (window s low high from to n : ℕ) → n ≡ length fs → AreNoted fs stamps lasts window s low high from to n → AreNoted fs stamps lasts window s low high from to (length fs)
noted_to fs stamps lasts window s low high from to n e h = subst (λ (k : ℕ). AreNoted fs stamps lasts window s low high from to k) e h

pub returns-then-to-low : goal.returns-then-to-low
returns-then-to-low c = λ t.
    let fs = map fields c.args.pieces.now in
    let e : c.loop-piece.piece ≡ length fs = omega (arith, length-map c.args.pieces.now fields, c.loop-piece-test.false, c.loop-piece.auto.piece-end) in
    noted_are_lasts fs c.loop-piece.stamps c.loop-piece.lasts c.args.window c.unit_of-shift.result c.loop-piece.low c.loop-piece.high c.loop-piece.from c.loop-piece.to
    (noted_to fs c.loop-piece.stamps c.loop-piece.lasts c.args.window c.unit_of-shift.result c.loop-piece.low c.loop-piece.high c.loop-piece.from c.loop-piece.to c.loop-piece.piece e c.loop-piece.invariant)
    (inl (omega (arith, c.if-to-low.true)))

pub returns-else-to-low : goal.returns-else-to-low
returns-else-to-low c = λ t.
    let fs = map fields c.args.pieces.now in
    let e : c.loop-piece.piece ≡ length fs = omega (arith, length-map c.args.pieces.now fields, c.loop-piece-test.false, c.loop-piece.auto.piece-end) in
    noted_are_lasts fs c.loop-piece.stamps c.loop-piece.lasts c.args.window c.unit_of-shift.result c.loop-piece.low c.loop-piece.high c.loop-piece.from c.loop-piece.to
    (noted_to fs c.loop-piece.stamps c.loop-piece.lasts c.args.window c.unit_of-shift.result c.loop-piece.low c.loop-piece.high c.loop-piece.from c.loop-piece.to c.loop-piece.piece e c.loop-piece.invariant)
    (inr (ltb-true _ _ t))
