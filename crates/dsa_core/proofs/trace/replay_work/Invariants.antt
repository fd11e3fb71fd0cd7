use Rattle.std.proofs.Common.{◌≡◌, map, take}
use Rattle.dsa_core.specs.Outcomes.{room_with}
use Rattle.dsa_core.proofs.trace.replay_work.Given as goal

abbrev pub invariant-loop-i : goal.invariant-loop-i
invariant-loop-i g l = l.room ≡ room_with l.image l.plan (map g.P.Workable.work.shown l.pieces) l.engines (take l.i l.trace)
