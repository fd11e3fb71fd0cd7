use Rattle.std.proofs.Common.{◌≡◌, ◌-◌, List, Bool, false, length, replicate, ap, ◌∙◌, arith}
use Rattle.std.proofs.lemmas.List.{length-replicate}
use Rattle.dsa_search.proofs.Grouping.{group_alone}
use Rattle.dsa_search.proofs.plan.unfenced_group.Goals as goal

pub returns : goal.returns
returns c =
    let size = c.args.end - c.args.start in
    let is : c.new.result ≡ replicate size false = c.new.ensures ∙ c.in_ok-fences.ensures.items_if_clones_equal (λ y h. h) in (
      omega (arith, ap (λ (xs : List Bool). length xs) is, length-replicate size false, c.requires.some),
      group_alone c.args.pairs.now c.args.start c.requires.alone c.new.result size is,
    )
