use Rattle.std.proofs.Common.{◌-◌, length, map, arith}
use Rattle.std.proofs.lemmas.List.{length-map}
use Rattle.std.proofs.lemmas.Result.{IfOk-weaker}
use Rattle.dsa_descriptor.specs.Descriptors.{fields}
use Rattle.dsa_ranges.specs.Ranges.{ConflictAt}
use Rattle.dsa_conflicts.specs.Last.{HasLastsBy}
use Rattle.dsa_settings.specs.Settings.{tariff_of}
use Rattle.dsa_search.proofs.Pairing.{lasts_go_back}
use Rattle.dsa_search.proofs.Searched.{lasts_of_descriptors, with_chosen, with_least, with_good}
use Rattle.dsa_search.proofs.planning.search_with.Goals as goal
use Rattle.dsa_search.proofs.planning.search_with.Goals.{After-search_lasts}

pub search_lasts-requires-clause-back : goal.search_lasts-requires-clause-back
search_lasts-requires-clause-back c =
    let fs = map fields c.args.pieces.now in
    let g = c.args.settings.now.greatest_batch in
    lasts_go_back (ConflictAt fs) (length c.args.pieces.now) g c.in_ok-lasts.lasts.items
    (lasts_of_descriptors fs (length c.args.pieces.now) (c.greatest_batch.result - 1) g c.in_ok-lasts.lasts.items (length-map c.args.pieces.now fields) (omega (arith, c.greatest_batch.ensures.value)) c.in_ok-lasts.ensures)
    (omega (arith, c.greatest_batch.ensures.limits.least_batch))

has : (c : After-search_lasts) → HasLastsBy (ConflictAt (map fields c.args.pieces.now)) (length c.args.pieces.now) (c.args.settings.now.greatest_batch - 1) c.in_ok-lasts.lasts.items
has c =
    lasts_of_descriptors (map fields c.args.pieces.now) (length c.args.pieces.now) (c.greatest_batch.result - 1) c.args.settings.now.greatest_batch c.in_ok-lasts.lasts.items (length-map c.args.pieces.now fields)
    (omega (arith, c.greatest_batch.ensures.value)) c.in_ok-lasts.ensures

pub returns-clause-chosen : goal.returns-clause-chosen
returns-clause-chosen c =
    IfOk-weaker c.search_lasts.result _ _
    (λ f chosen. with_chosen (ConflictAt (map fields c.args.pieces.now)) (length c.args.pieces.now) c.args.settings.now.greatest_batch c.in_ok-lasts.lasts.items (has c)
    c.args.barriers.now (tariff_of c.args.settings.now) f.prices.items f.pairs.items f.plan chosen) c.search_lasts.ensures

pub returns-clause-least : goal.returns-clause-least
returns-clause-least c =
    IfOk-weaker c.search_lasts.result _ _
    (λ f chosen. with_least (ConflictAt (map fields c.args.pieces.now)) (length c.args.pieces.now) c.args.settings.now.greatest_batch c.in_ok-lasts.lasts.items (has c)
    c.args.barriers.now (tariff_of c.args.settings.now) f.prices.items f.pairs.items f.plan chosen) c.search_lasts.ensures

pub returns-clause-certificate_good : goal.returns-clause-certificate_good
returns-clause-certificate_good c =
    IfOk-weaker c.search_lasts.result _ _
    (λ f chosen. with_good (ConflictAt (map fields c.args.pieces.now)) (length c.args.pieces.now) c.args.settings.now.greatest_batch c.in_ok-lasts.lasts.items (has c)
    c.args.barriers.now (tariff_of c.args.settings.now) f.prices.items f.pairs.items f.plan chosen) c.search_lasts.ensures
