use Rattle.std.proofs.Common.{◌≡◌, ◌≤◌, ℕ, List, map, length}
use Rattle.dsa_prepared.specs.Rows.{entry_in}
use Rattle.dsa_prepared.specs.Sound.{ArePut}
use Rattle.dsa_prepared.proofs.filling.put_alike.Given as goal

abbrev pub invariant-loop-k : goal.invariant-loop-k
invariant-loop-k l = record {
  put :
      (before : List ℕ) → ArePut l.bases l.staging (map entry_in l.entries) l.start before l.fn.buffer →
      ArePut l.bases l.staging (map entry_in l.entries) l.k before l.buffer;
  from : l.start ≤ l.k;
  long : length l.buffer ≡ length l.fn.buffer;
}
