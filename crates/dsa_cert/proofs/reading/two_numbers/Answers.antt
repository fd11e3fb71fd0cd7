use Rattle.std.proofs.Common.{[], ◌∷◌, arith}
use Rattle.std.proofs.lemmas.Result.{err_from_is_err_and}
use Rattle.json.proofs.Grammar.{after_end_array-shorter}
use Rattle.serde_json.specs.Data.{no_items, item}
use Rattle.dsa_tokens.proofs.Items.{begun, taken_next, taken_all, stopped}
use Rattle.dsa_cert.proofs.Documents.{two_read}
use Rattle.dsa_cert.proofs.reading.two_numbers.Goals as goal

pub returns-in_default : goal.returns-in_default
returns-in_default c =
    let start = c.args.reader.now in
    let over = rw c.in_default.is at c.in_ok-first.ensures in (
      no_items,
      taken_all c.args.depth start start c.next_item.new.reader [] (begun c.args.depth start) over,
      λ pair fits e. absurd (cc),
      omega (arith, after_end_array-shorter start c.next_item.new.reader over),
    )

pub returns-in_err-second : goal.returns-in_err-second
returns-in_err-second c =
    let start = c.args.reader.now in
    let one = rw c.in-Some.is at c.in_ok-first.ensures in
    let trail = taken_next c.args.depth start start c.next_item.new.reader [] one.0 (begun c.args.depth start) one.1 one.2 one.4 in
    let e = err_from_is_err_and c.from_residual-in_err-second.result c.from_residual-in_err-second.ensures.1 in
    rw (e.1, e.2) (stopped c.args.depth start c.next_item.new.reader (one.0 ∷ []) c.in_err-second.field-0.0 trail c.in_err-second.ensures)

pub returns-in_default-2 : goal.returns-in_default-2
returns-in_default-2 c =
    let start = c.args.reader.now in
    let mid = c.next_item.new.reader in
    let one = rw c.in-Some.is at c.in_ok-first.ensures in
    let trail = taken_next c.args.depth start start mid [] one.0 (begun c.args.depth start) one.1 one.2 one.4 in
    let over = rw c.in_default-2.is at c.in_ok-second.ensures in (
      item one.0 no_items,
      taken_all c.args.depth start mid c.next_item-2.new.reader (one.0 ∷ []) trail over,
      λ pair fits e. absurd (cc),
      omega (arith, one.4, after_end_array-shorter mid c.next_item-2.new.reader over),
    )

pub returns-in_err-end_items : goal.returns-in_err-end_items
returns-in_err-end_items c =
    let start = c.args.reader.now in
    let mid = c.next_item.new.reader in
    let now = c.next_item-2.new.reader in
    let one = rw c.in-Some.is at c.in_ok-first.ensures in
    let two = rw c.in-Some-2.is at c.in_ok-second.ensures in
    let trail = taken_next c.args.depth start start mid [] one.0 (begun c.args.depth start) one.1 one.2 one.4 in
    let both = taken_next c.args.depth start mid now (one.0 ∷ []) two.0 trail two.1 two.2 two.4 in
    let e = err_from_is_err_and c.from_residual-in_err-end_items.result c.from_residual-in_err-end_items.ensures.1 in
    rw (e.1, e.2) (stopped c.args.depth start now (one.0 ∷ two.0 ∷ []) c.in_err-end_items.field-0.0 both c.in_err-end_items.ensures)

pub returns-then-not-branch : goal.returns-then-not-branch
returns-then-not-branch c =
    let start = c.args.reader.now in
    let mid = c.next_item.new.reader in
    let now = c.next_item-2.new.reader in
    let one = rw c.in-Some.is at c.in_ok-first.ensures in
    let two = rw c.in-Some-2.is at c.in_ok-second.ensures in
    let trail = taken_next c.args.depth start start mid [] one.0 (begun c.args.depth start) one.1 one.2 one.4 in
    let both = taken_next c.args.depth start mid now (one.0 ∷ []) two.0 trail two.1 two.2 two.4 in
    let left = rw c.if-not-branch.true at c.in_ok-end_items.ensures in (
      item one.0 (item two.0 left.0),
      both.goes_on left.0 c.end_items.new.reader left.1,
      λ pair fits e. left.2 (cc),
      omega (arith, one.4, two.4, left.3),
    )

pub returns : goal.returns
returns c =
    let start = c.args.reader.now in
    let mid = c.next_item.new.reader in
    let now = c.next_item-2.new.reader in
    let one = rw c.in-Some.is at c.in_ok-first.ensures in
    let two = rw c.in-Some-2.is at c.in_ok-second.ensures in
    let trail = taken_next c.args.depth start start mid [] one.0 (begun c.args.depth start) one.1 one.2 one.4 in
    let both = taken_next c.args.depth start mid now (one.0 ∷ []) two.0 trail two.1 two.2 two.4 in
    let over = rw c.if-not-branch.false at c.in_ok-end_items.ensures in (
      item one.0 (item two.0 no_items),
      taken_all c.args.depth start now c.end_items.new.reader (one.0 ∷ two.0 ∷ []) both over,
      two_read one.0 two.0 c.in-Some.first c.in-Some-2.second c.pair_with.result one.3 two.3 c.pair_with.ensures,
      omega (arith, one.4, two.4, after_end_array-shorter now c.end_items.new.reader over),
    )
