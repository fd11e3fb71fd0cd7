use Rattle.std.proofs.Common.{◌≡◌, None, arith}
use Rattle.json.specs.Json.{after_end_array}
use Rattle.dsa_tokens.specs.Taken.{TakesItems}
use Rattle.dsa_tokens.proofs.Items.{some_left}
use Rattle.dsa_tokens.proofs.tuples.end_items.Goals as goal

pub returns : goal.returns
returns c =
    let going : (after_end_array c.args.reader.now ≡ None) × (c.take_end_array.new.self ≡ c.args.reader.now) = grind arith in
    let all = c.in_ok-pass_items.ensures.ok in
    let taken : TakesItems c.args.depth c.args.reader.now all.0 c.pass_items.new.reader = rw (← going.1) all.1 in
    (all.0, taken, some_left c.args.depth c.args.reader.now c.pass_items.new.reader all.0 going.0 taken, rw (← going.1) c.in_ok-pass_items.ensures.shorter)
