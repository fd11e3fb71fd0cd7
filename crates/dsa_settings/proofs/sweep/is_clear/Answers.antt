use Rattle.std.proofs.Common.{rules}
use Rattle.std.proofs.lemmas.List.Sorted.{IsNonDecreasingBy-from_sort_by_key, Contains-permutation}
use Rattle.dsa_settings.specs.Sweeps.{first_of}
use Rattle.dsa_settings.proofs.sweep.is_clear.Goals as goal

pub walk-requires : goal.walk-requires
walk-requires c = IsNonDecreasingBy-from_sort_by_key first_of _ c.sort_unstable_by_key.ensures.sorted (λ a r q k. search rules)

pub returns : goal.returns
returns c clear a b ca cb =
    c.walk.ensures clear a b (Contains-permutation _ _ a c.sort_unstable_by_key.ensures.permutation ca)
    (Contains-permutation _ _ b c.sort_unstable_by_key.ensures.permutation cb)
