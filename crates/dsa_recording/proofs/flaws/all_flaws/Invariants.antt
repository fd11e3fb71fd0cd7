use Rattle.std.proofs.Common.{◌≡◌, ℕ, ◌<◌, length, get_or, []}
use Rattle.dsa_recording.specs.Flaws.{AreFlaws, no_flaws}
use Rattle.dsa_recording.proofs.flaws.all_flaws.Given as goal

-- those of the entries so far are right
abbrev pub invariant-loop-k : goal.invariant-loop-k
invariant-loop-k l = record {
  count : length l.flaws.items ≡ l.k;
  each : (k : ℕ) → k < l.k → AreFlaws l.is_batch l.head k (get_or l.entries k []) (get_or l.flaws.items k no_flaws);
}
