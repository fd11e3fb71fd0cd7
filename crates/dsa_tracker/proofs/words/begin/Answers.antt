use Rattle.std.proofs.Common.{◌≡◌, ◌+◌, ◌-◌, ◌≤◌, ◌++◌, ap, drop, length, arith}
use Rattle.std.proofs.lemmas.List.{length-append, length-drop, length-take-le}
use Rattle.dsa_tracker.specs.Words.{AreMeasures, words_needed}
use Rattle.dsa_tracker.proofs.Whole.{begun_table, begun_tracker}
use Rattle.dsa_tracker.proofs.words.begin.Goals as goal

pub returns : goal.returns
returns c = (
  measures,
  enough,
  begun_tracker c.first_head-head.result c.args.slots c.args.room c.args.log2_rows c.args.log2_unit c.write_head.new.front (c.fill.new.self ++ drop (c.needed-len.result - 16) c.split_at_mut-front.result.1.now)
      c.first_head-head.ensures.slots c.first_head-head.ensures.room c.first_head-head.ensures.width c.first_head-head.ensures.rows c.first_head-head.ensures.unit c.first_head-head.ensures.board c.first_head-head.ensures.owner
      measures c.write_head.ensures.value c.write_head.ensures.low still,
  begun_table c.first_head-head.result c.args.slots c.args.room c.args.log2_rows c.args.log2_unit c.write_head.new.front (c.fill.new.self ++ drop (c.needed-len.result - 16) c.split_at_mut-front.result.1.now)
      c.first_head-head.ensures.slots c.first_head-head.ensures.room c.first_head-head.ensures.width c.first_head-head.ensures.rows c.first_head-head.ensures.unit c.first_head-head.ensures.board c.first_head-head.ensures.owner
      measures c.write_head.ensures.value c.write_head.ensures.low still,
)
  where
    measures : AreMeasures c.args.slots c.args.room c.args.log2_rows c.args.log2_unit
    measures = c.are_measures.ensures.0 c.if-not-are_measures.false

    enough : words_needed c.args.slots c.args.room c.args.log2_rows ≤ length c.args.words.now
    enough = omega (arith, c.if-words-len.false, c.needed-len.ensures)

    body_len : length c.args.words.now ≡ 16 + length c.split_at_mut-front.result.1.now
    body_len = omega (arith, c.split_at_mut-front.ensures.back_len)

    still : words_needed c.args.slots c.args.room c.args.log2_rows ≤ length (c.write_head.new.front ++ (c.fill.new.self ++ drop (c.needed-len.result - 16) c.split_at_mut-front.result.1.now))
    still =
        let front = length-append c.write_head.new.front (c.fill.new.self ++ drop (c.needed-len.result - 16) c.split_at_mut-front.result.1.now) in
        let parts = length-append c.fill.new.self (drop (c.needed-len.result - 16) c.split_at_mut-front.result.1.now) in
        let past = length-drop (c.needed-len.result - 16) c.split_at_mut-front.result.1.now in
        let front_len : length c.write_head.new.front ≡ 16 = ap length c.write_head.ensures.value in
        let zeros = length-take-le (c.needed-len.result - 16) c.split_at_mut-front.result.1.now (omega (arith, body_len, c.if-words-len.false, c.needed-len.ensures)) in
        omega (arith, front, parts, past, front_len, zeros, c.fill.ensures.len, body_len, enough, c.needed-len.ensures)
