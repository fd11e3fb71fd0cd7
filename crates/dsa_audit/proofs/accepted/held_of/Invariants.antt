use Rattle.std.proofs.Common.{◌≡◌, ℕ, ◌<◌, false, length, get_or}
use Rattle.std.specs.Prelude.{◌&&◌}
use Rattle.dsa_audit.proofs.accepted.held_of.Given as goal

abbrev pub invariant-loop-k : goal.invariant-loop-k
invariant-loop-k l = record {
  count : length l.held.items ≡ l.k;
  each : (j : ℕ) → j < l.k → get_or l.held.items j false ≡ (get_or l.fences j false && get_or l.stay j false);
}
