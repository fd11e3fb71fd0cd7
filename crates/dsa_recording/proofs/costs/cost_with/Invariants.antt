use Rattle.std.proofs.Common.{◌≡◌, take}
use Rattle.std.specs.Prelude.{min}
use Rattle.std.specs.List.{sum_by}
use Rattle.dsa_recording.specs.Costs.{submission_cost, fences_of}
use Rattle.dsa_recording.proofs.costs.cost_with.Given as goal

-- the cost of the submissions so far, cut off
abbrev pub invariant-loop-audited : goal.invariant-loop-audited
invariant-loop-audited l =
    l.cost ≡ min (sum_by (λ a. submission_cost l.settings a.is_batch (fences_of l.fn.fences a)) (take l.audited-index l.report.audits.items)) 18446744073709551615
