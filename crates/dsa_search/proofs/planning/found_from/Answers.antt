use Rattle.std.proofs.Common.{length}
use Rattle.dsa_plan.proofs.Groups.{forward_from_pairs}
use Rattle.dsa_conflicts.specs.Last.{IsLastOf}
use Rattle.dsa_search.proofs.planning.found_from.Goals as goal

pub costs_of-requires-clause-forward : goal.costs_of-requires-clause-forward
costs_of-requires-clause-forward c =
    rw c.deref.ensures.value (forward_from_pairs (IsLastOf c.args.lasts.now) c.args.settings.now.greatest_batch (length c.args.lasts.now) c.in_ok-pairs.pairs.items c.in_ok-pairs.ensures)

pub read_plan-requires-clause-forward : goal.read_plan-requires-clause-forward
read_plan-requires-clause-forward c =
    rw c.deref-2.ensures.value (forward_from_pairs (IsLastOf c.args.lasts.now) c.args.settings.now.greatest_batch (length c.args.lasts.now) c.in_ok-pairs.pairs.items c.in_ok-pairs.ensures)
