use Rattle.std.proofs.Common.{drop}
use Rattle.std.specs.Prelude.{◌↔◌}
use Rattle.std.specs.List.{AllByRecursion}
use Rattle.dsa_prepared.specs.Regions.{LiesInOne}
use Rattle.dsa_prepared.proofs.places.lie_in_one.Given as goal

-- all spans lie in one region each exactly where the rest do
abbrev pub invariant-loop-span : goal.invariant-loop-span
invariant-loop-span l = AllByRecursion (LiesInOne l.regions) l.spans ↔ AllByRecursion (LiesInOne l.regions) (drop l.span-index l.spans)
