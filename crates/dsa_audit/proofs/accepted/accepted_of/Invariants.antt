use Rattle.std.proofs.Common.{◌≡◌, ℕ, Option, Some, length, get_or, slice_get}
use Rattle.dsa_audit.specs.declared.missing.FencePlace.TheVariants as fence_place
use Rattle.dsa_audit.specs.Accepted.{IsAcceptedAt}
use Rattle.dsa_audit.proofs.accepted.accepted_of.Given as goal

abbrev pub invariant-loop-at : goal.invariant-loop-at
invariant-loop-at g l = record {
  count : length l.accepted.items ≡ l.at;
  each : (k : ℕ) (o : Option ℕ) → slice_get l.accepted.items k ≡ Some o
      → IsAcceptedAt (g.A.Acceptance.lists l.acceptance) k (get_or l.places k fence_place.NoFence) o;
}
