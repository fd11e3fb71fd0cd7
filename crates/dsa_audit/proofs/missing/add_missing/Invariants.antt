use Rattle.dsa_conflicts.specs.Last.{IsLastOf}
use Rattle.dsa_audit.proofs.Scanned.{Scanned}
use Rattle.dsa_audit.proofs.missing.add_missing.Given as goal

abbrev pub invariant-loop-at : goal.invariant-loop-at
invariant-loop-at l = Scanned (IsLastOf l.lasts) l.fences l.at l.epoch l.places.items l.corrected.items
