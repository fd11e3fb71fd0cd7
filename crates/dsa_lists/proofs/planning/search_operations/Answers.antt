use Rattle.std.proofs.Common.{◌≡◌, ◌-◌, ℕ, length, subst, arith}
use Rattle.std.proofs.lemmas.Result.{IfOk-weaker}
use Rattle.dsa_conflicts.specs.Last.{HasLastsBy}
use Rattle.dsa_settings.specs.Settings.{tariff_of}
use Rattle.dsa_search.proofs.Pairing.{lasts_go_back}
use Rattle.dsa_search.proofs.Searched.{with_chosen, with_least, with_good}
use Rattle.dsa_operations.specs.Operations.{OperationConflictAt}
use Rattle.dsa_lists.proofs.planning.search_operations.Goals as goal
use Rattle.dsa_lists.proofs.planning.search_operations.Goals.{After-search_lasts}

pub search_lasts-requires-clause-back : goal.search_lasts-requires-clause-back
search_lasts-requires-clause-back c =
    let C = OperationConflictAt c.args.operations.now in
    let n = length c.args.operations.now in
    let g = c.args.settings.now.greatest_batch in
    let window : c.greatest_batch.result - 1 ≡ g - 1 = omega (arith, c.greatest_batch.ensures.value) in
    let has : HasLastsBy C n (g - 1) c.in_ok-lasts.lasts.items = subst (λ (w : ℕ). HasLastsBy C n w c.in_ok-lasts.lasts.items) window c.in_ok-lasts.ensures in
    lasts_go_back C n g c.in_ok-lasts.lasts.items has (omega (arith, c.greatest_batch.ensures.limits.least_batch))

has : (c : After-search_lasts) → HasLastsBy (OperationConflictAt c.args.operations.now) (length c.args.operations.now) (c.args.settings.now.greatest_batch - 1) c.in_ok-lasts.lasts.items
has c =
    let window : c.greatest_batch.result - 1 ≡ c.args.settings.now.greatest_batch - 1 = omega (arith, c.greatest_batch.ensures.value) in
    subst (λ (w : ℕ). HasLastsBy (OperationConflictAt c.args.operations.now) (length c.args.operations.now) w c.in_ok-lasts.lasts.items) window c.in_ok-lasts.ensures

pub returns-clause-chosen : goal.returns-clause-chosen
returns-clause-chosen c =
    IfOk-weaker c.search_lasts.result _ _
    (λ f chosen. with_chosen (OperationConflictAt c.args.operations.now) (length c.args.operations.now) c.args.settings.now.greatest_batch c.in_ok-lasts.lasts.items (has c)
    c.args.barriers.now (tariff_of c.args.settings.now) f.prices.items f.pairs.items f.plan chosen) c.search_lasts.ensures

pub returns-clause-least : goal.returns-clause-least
returns-clause-least c =
    IfOk-weaker c.search_lasts.result _ _
    (λ f chosen. with_least (OperationConflictAt c.args.operations.now) (length c.args.operations.now) c.args.settings.now.greatest_batch c.in_ok-lasts.lasts.items (has c)
    c.args.barriers.now (tariff_of c.args.settings.now) f.prices.items f.pairs.items f.plan chosen) c.search_lasts.ensures

pub returns-clause-certificate_good : goal.returns-clause-certificate_good
returns-clause-certificate_good c =
    IfOk-weaker c.search_lasts.result _ _
    (λ f chosen. with_good (OperationConflictAt c.args.operations.now) (length c.args.operations.now) c.args.settings.now.greatest_batch c.in_ok-lasts.lasts.items (has c)
    c.args.barriers.now (tariff_of c.args.settings.now) f.prices.items f.pairs.items f.plan chosen) c.search_lasts.ensures
