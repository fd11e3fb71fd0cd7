use Rattle.std.proofs.Common.{◌≡◌, take}
use Rattle.std.specs.List.{sum_by}
use Rattle.dsa_recording.specs.Totals.{set_count}
use Rattle.dsa_recording.proofs.totals.all_fences_in.Given as goal

abbrev pub invariant-loop-audited : goal.invariant-loop-audited
invariant-loop-audited l = l.fences ≡ sum_by set_count (take l.audited-index l.audits)
