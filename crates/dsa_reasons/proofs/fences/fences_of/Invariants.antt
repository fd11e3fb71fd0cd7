use Rattle.std.proofs.Common.{◌≡◌, ◌++◌, drop}
use Rattle.std.specs.Prelude.{All}
use Rattle.dsa_settings.specs.Plan.{start_of}
use Rattle.dsa_reasons.specs.Fences.{IsExplained, fence_places, fenced_pieces}
use Rattle.dsa_reasons.proofs.fences.fences_of.Given as goal

abbrev pub invariant-loop-group : goal.invariant-loop-group
invariant-loop-group g l = record {
  start : l.start ≡ start_of l.group-items l.group-index;
  places : fence_places l.fences.items ++ fenced_pieces l.start (drop l.group-index l.group-items) ≡ fenced_pieces 0 l.group-items;
  explained : All (IsExplained l.detail g.P.Touching.reads g.P.Touching.writes l.pieces l.barriers l.group-items) l.fences.items;
}
