use Rattle.std.proofs.Common.{◌≡◌, None, arith}
use Rattle.std.proofs.lemmas.Result.{err_from_is_err_and}
use Rattle.json.specs.Json.{after_end_array}
use Rattle.dsa_tokens.proofs.Grammar.{items_stop}
use Rattle.dsa_tokens.proofs.Read.{items_refused}
use Rattle.dsa_tokens.proofs.tuples.next_item.Goals as goal

pub returns-in_err-found : goal.returns-in_err-found
returns-in_err-found g c =
    let going : (after_end_array c.args.reader.now ≡ None) × (c.take_end_array.new.self ≡ c.args.reader.now) = grind arith in
    let e = err_from_is_err_and c.from_residual.result c.from_residual.ensures.1 in
    rw (e.1, e.2)
    (items_refused c.args.depth c.take_end_array.new.self c.args.reader.now c.in_err-found.field-0.0 c.in_err-found.ensures
    (λ none. items_stop c.args.depth c.args.reader.now going.0 (rw (← going.1) none)))
