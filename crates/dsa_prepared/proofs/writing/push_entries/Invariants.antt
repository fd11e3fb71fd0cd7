use Rattle.std.proofs.Common.{◌≡◌, ◌++◌, take, map}
use Rattle.dsa_prepared.specs.Rows.{entry_row, entry_in}
use Rattle.dsa_prepared.proofs.writing.push_entries.Given as goal

abbrev pub invariant-loop-k : goal.invariant-loop-k
invariant-loop-k l = record {
  rows : l.rows.items ≡ l.initial.rows.items ++ map entry_row (take l.k l.entries);
  read : map entry_in (map entry_row (take l.k l.entries)) ≡ take l.k l.entries;
}
