use Rattle.std.proofs.Common.{◌≡◌, ◌++◌, take}
use Rattle.dsa_prepared.specs.Entries.{fenced_entries}
use Rattle.dsa_prepared.proofs.groups.stage_batch.Given as goal

-- the entries so far
abbrev pub invariant-loop-k : goal.invariant-loop-k
invariant-loop-k l = l.entries.items ≡ l.initial.entries.items ++ fenced_entries l.regions (take l.k l.fences) l.pieces
