use Rattle.std.proofs.Common.{◌≡◌, ◌∙◌, length, arith}
use Rattle.std.proofs.lemmas.Grind.{common_steps}
use Rattle.dsa_tokens.proofs.Added.{full, not_full}
use Rattle.dsa_tokens.proofs.lists.add.Goals as goal

pub returns-then-is_full : goal.returns-then-is_full
returns-then-is_full g c =
    let count : c.len.result ≡ length c.args.found.now.items = grind (arith, common_steps, c.len.ensures) in
    full c.args.most c.is_full.result c.len.result c.args.found.now.items c.args.item count c.is_full.ensures c.if-is_full.true

pub returns : goal.returns
returns g c =
    let count : c.len.result ≡ length c.args.found.now.items = grind (arith, common_steps, c.len.ensures) in
    c.in_ok-push.ensures.items ∙ not_full c.args.most c.is_full.result c.len.result c.args.found.now.items c.args.item count c.is_full.ensures c.if-is_full.false
