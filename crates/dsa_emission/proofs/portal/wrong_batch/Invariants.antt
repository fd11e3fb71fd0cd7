use Rattle.std.proofs.Common.{ℕ, ◌≡◌, ◌<◌, ◌≤◌}
use Rattle.dsa_emission.specs.EmissionFaults.{place_before, IsRightAt}
use Rattle.dsa_emission.proofs.portal.wrong_batch.Given as goal

-- the place of the next entry, and that the entries so far are right
abbrev pub invariant-loop-number : goal.invariant-loop-number
invariant-loop-number l = record {
  placed : l.place ≡ place_before l.all l.number;
  batched : l.place.batched ≤ l.place.start;
  batches : l.place.batches ≤ l.place.start;
  right : (g : ℕ) → g < l.number → IsRightAt l.settings l.all l.owner g;
}
