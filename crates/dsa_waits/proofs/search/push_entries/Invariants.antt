use Rattle.dsa_waits.specs.Steps.{AreBelow, WithRange}
use Rattle.dsa_waits.proofs.search.push_entries.Given as goal

abbrev pub invariant-loop-entry : goal.invariant-loop-entry
invariant-loop-entry l = record {
  range : WithRange l.fn.outstanding.items l.from l.entry l.outstanding.items;
  below : AreBelow l.entry l.outstanding.items;
}
