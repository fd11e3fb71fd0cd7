use Rattle.std.proofs.Common.{◌≡◌, ◌-◌, ◌≤◌, map, length}
use Rattle.dsa_prepared.specs.Rows.{entry_in}
use Rattle.dsa_prepared.specs.Sound.{ArePut}
use Rattle.dsa_prepared.proofs.filling.put_entries.Given as goal

abbrev pub invariant-loop-k : goal.invariant-loop-k
invariant-loop-k l = record {
  put : ArePut l.bases l.staging (map entry_in l.entries) l.k l.initial.buffer l.buffer;
  inside : l.k ≤ length l.entries;
  long : length l.buffer ≡ length l.initial.buffer;
}

abbrev pub decreases-loop-k : goal.decreases-loop-k
decreases-loop-k l = length l.entries - l.k
