use Rattle.std.proofs.Common.{set}
use Rattle.std.proofs.lemmas.List.{get_or-set_same}
use Rattle.dsa_tracker.proofs.Stored.{none_kept}
use Rattle.dsa_tracker.proofs.kept.clear.Goals as goal

pub returns-clause-none : goal.returns-clause-none
returns-clause-none c = none_kept (set c.args.store.now 0 0) (get_or-set_same c.args.store.now 0 0 0 c.requires)
