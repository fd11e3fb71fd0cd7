use Rattle.std.proofs.Common.{◌≡◌, ◌+◌, ◌++◌, drop}
use Rattle.dsa_reasons.specs.Fences.{AddsExplained, fence_places, fenced_in}
use Rattle.dsa_reasons.proofs.fences.push_fences.Given as goal

abbrev pub invariant-loop-column : goal.invariant-loop-column
invariant-loop-column g l = record {
  places : fence_places l.fences.items ++ fenced_in (l.start + l.column) (drop l.column l.group) ≡ fence_places l.fn.fences.items ++ fenced_in l.start l.group;
  explained : AddsExplained l.detail g.P.Touching.reads g.P.Touching.writes l.pieces l.barriers l.start l.group l.fn.fences.items l.fences.items;
}
