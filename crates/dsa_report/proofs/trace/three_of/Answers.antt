use Rattle.std.proofs.Common.{[], ◌∷◌, arith}
use Rattle.std.proofs.lemmas.Result.{err_from_is_err_and}
use Rattle.json.proofs.Grammar.{after_end_array-shorter}
use Rattle.serde_json.specs.Data.{no_items, item}
use Rattle.dsa_tokens.proofs.Items.{begun, taken_next, taken_all, stopped}
use Rattle.dsa_report.proofs.Events.{none_left, three_read, two_short}
use Rattle.dsa_report.proofs.trace.three_of.Goals as goal

pub returns-in_default : goal.returns-in_default
returns-in_default c =
    let start = c.args.reader.now in
    let over = rw c.in_default.is at c.in_ok-engine.ensures in
    (no_items, taken_all c.args.depth start start c.next_item.new.reader [] (begun c.args.depth start) over, λ event fits e. absurd (cc), omega (arith, after_end_array-shorter start c.next_item.new.reader over))

pub returns-in_default-2 : goal.returns-in_default-2
returns-in_default-2 c =
    let start = c.args.reader.now in
    let i0 = rw c.in-Some.is at c.in_ok-engine.ensures in
    let t0 = taken_next c.args.depth start start c.next_item.new.reader [] i0.0 (begun c.args.depth start) i0.1 i0.2 i0.4 in
    let over = rw c.in_default-2.is at c.in_ok-word.ensures in
    (item i0.0 no_items, taken_all c.args.depth start c.next_item.new.reader c.next_item-2.new.reader (i0.0 ∷ []) t0 over, λ event fits e. absurd (cc), omega (arith, i0.4, after_end_array-shorter c.next_item.new.reader c.next_item-2.new.reader over))

pub returns-in_err-word : goal.returns-in_err-word
returns-in_err-word c =
    let start = c.args.reader.now in
    let i0 = rw c.in-Some.is at c.in_ok-engine.ensures in
    let t0 = taken_next c.args.depth start start c.next_item.new.reader [] i0.0 (begun c.args.depth start) i0.1 i0.2 i0.4 in
    let e = err_from_is_err_and c.from_residual-in_err-word.result c.from_residual-in_err-word.ensures.1 in
    rw (e.1, e.2) (stopped c.args.depth start c.next_item.new.reader (i0.0 ∷ []) c.in_err-word.field-0.0 t0 c.in_err-word.ensures)

pub returns-in_default-3 : goal.returns-in_default-3
returns-in_default-3 c =
    let start = c.args.reader.now in
    let i0 = rw c.in-Some.is at c.in_ok-engine.ensures in
    let t0 = taken_next c.args.depth start start c.next_item.new.reader [] i0.0 (begun c.args.depth start) i0.1 i0.2 i0.4 in
    let i1 = rw c.in-Some-2.is at c.in_ok-word.ensures in
    let t1 = taken_next c.args.depth start c.next_item.new.reader c.next_item-2.new.reader (i0.0 ∷ []) i1.0 t0 i1.1 i1.2 i1.4 in
    let over = rw c.in_default-3.is at c.in_ok-piece.ensures in
    (item i0.0 (item i1.0 no_items), taken_all c.args.depth start c.next_item-2.new.reader c.next_item-3.new.reader (i0.0 ∷ i1.0 ∷ []) t1 over, λ event fits e. two_short i0.0 i1.0 event e, omega (arith, i0.4, i1.4, after_end_array-shorter c.next_item-2.new.reader c.next_item-3.new.reader over))

pub returns-in_err-piece : goal.returns-in_err-piece
returns-in_err-piece c =
    let start = c.args.reader.now in
    let i0 = rw c.in-Some.is at c.in_ok-engine.ensures in
    let t0 = taken_next c.args.depth start start c.next_item.new.reader [] i0.0 (begun c.args.depth start) i0.1 i0.2 i0.4 in
    let i1 = rw c.in-Some-2.is at c.in_ok-word.ensures in
    let t1 = taken_next c.args.depth start c.next_item.new.reader c.next_item-2.new.reader (i0.0 ∷ []) i1.0 t0 i1.1 i1.2 i1.4 in
    let e = err_from_is_err_and c.from_residual-in_err-piece.result c.from_residual-in_err-piece.ensures.1 in
    rw (e.1, e.2) (stopped c.args.depth start c.next_item-2.new.reader (i0.0 ∷ i1.0 ∷ []) c.in_err-piece.field-0.0 t1 c.in_err-piece.ensures)

pub returns-in_err-end_items : goal.returns-in_err-end_items
returns-in_err-end_items c =
    let start = c.args.reader.now in
    let i0 = rw c.in-Some.is at c.in_ok-engine.ensures in
    let t0 = taken_next c.args.depth start start c.next_item.new.reader [] i0.0 (begun c.args.depth start) i0.1 i0.2 i0.4 in
    let i1 = rw c.in-Some-2.is at c.in_ok-word.ensures in
    let t1 = taken_next c.args.depth start c.next_item.new.reader c.next_item-2.new.reader (i0.0 ∷ []) i1.0 t0 i1.1 i1.2 i1.4 in
    let i2 = rw c.in-Some-3.is at c.in_ok-piece.ensures in
    let t2 = taken_next c.args.depth start c.next_item-2.new.reader c.next_item-3.new.reader (i0.0 ∷ i1.0 ∷ []) i2.0 t1 i2.1 i2.2 i2.4 in
    let e = err_from_is_err_and c.from_residual-in_err-end_items.result c.from_residual-in_err-end_items.ensures.1 in
    rw (e.1, e.2) (stopped c.args.depth start c.next_item-3.new.reader (i0.0 ∷ i1.0 ∷ i2.0 ∷ []) c.in_err-end_items.field-0.0 t2 c.in_err-end_items.ensures)

pub returns-then-not-branch : goal.returns-then-not-branch
returns-then-not-branch c =
    let start = c.args.reader.now in
    let i0 = rw c.in-Some.is at c.in_ok-engine.ensures in
    let t0 = taken_next c.args.depth start start c.next_item.new.reader [] i0.0 (begun c.args.depth start) i0.1 i0.2 i0.4 in
    let i1 = rw c.in-Some-2.is at c.in_ok-word.ensures in
    let t1 = taken_next c.args.depth start c.next_item.new.reader c.next_item-2.new.reader (i0.0 ∷ []) i1.0 t0 i1.1 i1.2 i1.4 in
    let i2 = rw c.in-Some-3.is at c.in_ok-piece.ensures in
    let t2 = taken_next c.args.depth start c.next_item-2.new.reader c.next_item-3.new.reader (i0.0 ∷ i1.0 ∷ []) i2.0 t1 i2.1 i2.2 i2.4 in
    let left = rw c.if-not-branch.true at c.in_ok-end_items.ensures in
    (item i0.0 (item i1.0 (item i2.0 (left.0))), t2.goes_on left.0 c.end_items.new.reader left.1, λ event fits e. left.2 (none_left i0.0 i1.0 i2.0 left.0 event e), omega (arith, i0.4, i1.4, i2.4, left.3))

pub returns : goal.returns
returns c =
    let start = c.args.reader.now in
    let i0 = rw c.in-Some.is at c.in_ok-engine.ensures in
    let t0 = taken_next c.args.depth start start c.next_item.new.reader [] i0.0 (begun c.args.depth start) i0.1 i0.2 i0.4 in
    let i1 = rw c.in-Some-2.is at c.in_ok-word.ensures in
    let t1 = taken_next c.args.depth start c.next_item.new.reader c.next_item-2.new.reader (i0.0 ∷ []) i1.0 t0 i1.1 i1.2 i1.4 in
    let i2 = rw c.in-Some-3.is at c.in_ok-piece.ensures in
    let t2 = taken_next c.args.depth start c.next_item-2.new.reader c.next_item-3.new.reader (i0.0 ∷ i1.0 ∷ []) i2.0 t1 i2.1 i2.2 i2.4 in
    let over = rw c.if-not-branch.false at c.in_ok-end_items.ensures in (
      item i0.0 (item i1.0 (item i2.0 no_items)),
      taken_all c.args.depth start c.next_item-3.new.reader c.end_items.new.reader (i0.0 ∷ i1.0 ∷ i2.0 ∷ []) t2 over,
      three_read i0.0 i1.0 i2.0 c.in-Some.engine c.in-Some-2.word c.in-Some-3.piece c.event_with.result i0.3 i1.3 i2.3 c.event_with.ensures,
      omega (arith, i0.4, i1.4, i2.4, after_end_array-shorter c.next_item-3.new.reader c.end_items.new.reader over),
    )
