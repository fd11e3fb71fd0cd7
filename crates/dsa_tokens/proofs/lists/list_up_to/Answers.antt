use Rattle.dsa_tokens.proofs.Added.{added_list, added_none}
use Rattle.dsa_tokens.proofs.lists.list_up_to.Goals as goal

pub returns-then-not-branch : goal.returns-then-not-branch
returns-then-not-branch g c =
    let array = rw c.if-not-branch.true at c.in_ok-array_into.ensures in
    (array.0, array.1, added_none g.K.Kind.says c.args.most c.new-found.result.items c.array_into.new.found.items array.0 array.2, array.3)

pub returns : goal.returns
returns g c =
    let array = rw c.if-not-branch.false at c.in_ok-array_into.ensures in
    (array.0, array.1, added_list g.K.Kind.says c.args.most c.new-found.result.items c.array_into.new.found.items array.0 c.new-found.ensures.items array.2, array.3)
