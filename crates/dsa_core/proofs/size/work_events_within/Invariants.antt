use Rattle.std.proofs.Common.{◌≡◌, ◌≤◌, map, take}
use Rattle.dsa_core.specs.WorkRuns.{work_event_count}
use Rattle.dsa_core.proofs.size.work_events_within.Given as goal

abbrev pub invariant-loop-d : goal.invariant-loop-d
invariant-loop-d g l = (l.total ≡ work_event_count g.P.Workable.work.machine (map g.P.Workable.work.shown (take l.d-index l.pieces))) × (l.total ≤ 4194304)
