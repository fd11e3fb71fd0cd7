use Rattle.std.proofs.Common.{◌≡◌, ◌≤◌, take}
use Rattle.std.specs.List.{sum_by}
use Rattle.dsa_c.specs.Counting.{pieces_of}
use Rattle.dsa_c.proofs.counting.count.Given as goal

abbrev pub invariant-loop-entry : goal.invariant-loop-entry
invariant-loop-entry l = record { few : l.total ≤ 65536; counted : l.total ≡ sum_by (pieces_of l.fn.greatest) (take l.entry-index l.entries) }
