use Rattle.std.proofs.Common.{◌≡◌, ℕ, List, map, length, refl, subst, rules}
use Rattle.dsa_prepared.specs.Filling.{AllBelow, IsApartFromEarlier}
use Rattle.dsa_prepared.specs.Rows.{region_in}
use Rattle.dsa_prepared.proofs.Ranked.{rising_apart}
use Rattle.dsa_prepared.proofs.sorted.are_apart.Goals as goal

pub returns : goal.returns
returns c = λ yes.
    let rs = map region_in c.args.regions.now in
    let bases = c.args.bases.now in
    let order : List ℕ = c.sort_by_base.new.order in
    let long : length order ≡ length c.args.regions.now = search rules in
    subst (λ (n : ℕ). AllBelow n (IsApartFromEarlier rs bases)) long (rising_apart rs bases order (length order) (c.if-not-are_rising.ensures refl) (c.are_ranks.ensures yes))
