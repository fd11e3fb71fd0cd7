use Rattle.std.proofs.Common.{◌<◌, List, Option, ℕ, ◌∙◌, subst, sym, arith}
use Rattle.std.proofs.lemmas.List.{with_items_is}
use Rattle.std.proofs.lemmas.Result.{IfOk-weaker}
use Rattle.dsa_settings.specs.Settings.{tariff_of}
use Rattle.dsa_search.specs.Lasts.{AddsBarriers}
use Rattle.dsa_search.proofs.Searched.{found_chosen}
use Rattle.dsa_search.proofs.planning.search_lasts.Goals as goal

pub returns : goal.returns
returns c =
    let lasts = c.args.lasts.items in
    let g = c.args.settings.now.greatest_batch in
    let some : 1 < g = omega (arith, c.greatest_batch.ensures.limits.least_batch) in
    let added : AddsBarriers c.args.barriers.now lasts c.add_barriers.new.lasts = rw c.deref_mut.ensures.value at c.add_barriers.ensures in
    let items = with_items_is c.args.lasts c.add_barriers.new.lasts (c.add_barriers.ensures.count ∙ c.deref_mut.ensures.len) in
    let adds : AddsBarriers c.args.barriers.now lasts c.deref.result.now =
    subst (λ (all : List (Option ℕ)). AddsBarriers c.args.barriers.now lasts all) (sym (c.deref.ensures.value ∙ items)) added in
    IfOk-weaker c.found_from.result _ _
    (λ f found. found_chosen g some lasts c.requires.back c.args.barriers.now c.deref.result.now adds (tariff_of c.args.settings.now) f.prices.items f.pairs.items f.plan found)
    c.found_from.ensures
