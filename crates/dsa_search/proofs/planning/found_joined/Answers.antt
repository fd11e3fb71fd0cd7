use Rattle.std.proofs.Common.{length, arith}
use Rattle.dsa_settings.specs.Settings.{tariff_of}
use Rattle.dsa_plan.specs.Chain.{GoForward}
use Rattle.dsa_plan.proofs.Groups.{forward_from_pairs}
use Rattle.dsa_conflicts.specs.Last.{IsLastOf}
use Rattle.dsa_search.specs.OneBatch.{AreNested, AreJoinedCosts}
use Rattle.dsa_search.specs.Entries.{IsReadPlan}
use Rattle.dsa_search.proofs.Joining.{joined_filled, pairs_are_nested}
use Rattle.dsa_search.proofs.planning.found_joined.Goals as goal

pub joined_costs-requires-clause-forward : goal.joined_costs-requires-clause-forward
joined_costs-requires-clause-forward c =
    rw c.deref.ensures.value (forward_from_pairs (IsLastOf c.args.lasts.now) c.args.settings.now.greatest_batch (length c.args.lasts.now) c.args.pairs.items c.requires.has_pairs)

pub joined_plan-requires-clause-forward : goal.joined_plan-requires-clause-forward
joined_plan-requires-clause-forward c =
    rw c.deref-2.ensures.value (forward_from_pairs (IsLastOf c.args.lasts.now) c.args.settings.now.greatest_batch (length c.args.lasts.now) c.args.pairs.items c.requires.has_pairs)

pub joined_plan-requires-clause-nested : goal.joined_plan-requires-clause-nested
joined_plan-requires-clause-nested c =
    let has = c.requires.has_pairs in
    rw c.deref-2.ensures.value (pairs_are_nested (IsLastOf c.args.lasts.now) c.args.settings.now.greatest_batch (length c.args.lasts.now) c.args.pairs.items has (omega (arith, c.requires.cheap.fits, has.count)))

pub returns : goal.returns
returns c =
    let lasts = c.args.lasts.now in
    let greatest_batch = c.args.settings.now.greatest_batch in
    let tariff = tariff_of c.args.settings.now in
    let pairs = c.args.pairs.items in
    let has = c.requires.has_pairs in
    let forward : GoForward pairs = forward_from_pairs (IsLastOf lasts) greatest_batch (length lasts) pairs has in
    let nested : AreNested pairs = pairs_are_nested (IsLastOf lasts) greatest_batch (length lasts) pairs has (omega (arith, c.requires.cheap.fits, has.count)) in
    let costs : AreJoinedCosts pairs tariff.lone (tariff.batch 2) tariff.fence c.in_ok-prices.prices.items = rw c.deref.ensures.value at c.in_ok-prices.ensures in
    let read : IsReadPlan greatest_batch tariff (length pairs) pairs c.in_ok-prices.prices.items c.in_ok-plan.plan = rw (c.deref-2.ensures.value, c.deref-3.ensures.value) at c.in_ok-plan.ensures in
    record { has_pairs = has; filled = joined_filled greatest_batch tariff pairs forward nested c.requires.cheap c.in_ok-prices.prices.items costs c.lone.ensures.limits.most_lone; read = read }
