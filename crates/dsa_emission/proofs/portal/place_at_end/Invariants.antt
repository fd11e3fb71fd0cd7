use Rattle.std.proofs.Common.{◌≡◌, ◌≤◌}
use Rattle.dsa_emission.specs.EmissionFaults.{place_before}
use Rattle.dsa_emission.proofs.portal.place_at_end.Given as goal

-- what the entries so far have
abbrev pub invariant-loop-entry : goal.invariant-loop-entry
invariant-loop-entry l = record {
  placed : l.place ≡ place_before l.all l.entry-index;
  few : l.place.start ≤ 65536;
  batched : l.place.batched ≤ l.place.start;
  batches : l.place.batches ≤ l.entry-index;
}
