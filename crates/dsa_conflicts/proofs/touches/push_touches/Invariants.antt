use Rattle.std.proofs.Common.{◌≡◌, ◌++◌, map, take}
use Rattle.dsa_conflicts.specs.Touches.{touch}
use Rattle.dsa_conflicts.proofs.touches.push_touches.Given as goal

abbrev pub invariant-loop-span : goal.invariant-loop-span
invariant-loop-span l = l.touches.items ≡ l.fn.touches.items ++ map (touch l.piece l.access) (take l.span-index l.spans)
