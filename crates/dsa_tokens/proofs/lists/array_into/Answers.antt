use Rattle.std.proofs.Common.{◌∷◌}
use Rattle.json.specs.Reads.{token_of}
use Rattle.dsa_tokens.specs.Said.{AddsArray, AddsItems}
use Rattle.dsa_tokens.proofs.Read.{array_answers}
use Rattle.dsa_tokens.proofs.lists.array_into.Goals as goal

pub returns : goal.returns
returns g c =
    let begun = rw c.if-not-branch.false at c.in_ok-begin_array.ensures in
    let old = c.args.found.now.items in
    let new = c.items_into.new.found.items in
    array_answers (AddsItems g.K.Kind.says c.args.most old new) (AddsArray g.K.Kind.says c.args.most old new) c.args.depth (token_of c.args.first ∷ c.args.reader.now) c.begin_array.new.reader c.items_into.new.reader c.items_into.result
    begun.0 begun.1 (λ ds each says. says) c.items_into.ensures
