use Rattle.std.proofs.Common.{◌≡◌, ◌++◌, take}
use Rattle.dsa_emission.specs.Emission.{fenced_pieces}
use Rattle.dsa_emission.proofs.emission.stage_batch.Given as goal

-- the pieces so far
abbrev pub invariant-loop-k : goal.invariant-loop-k
invariant-loop-k g l = l.staging.items ≡ l.initial.staging.items ++ fenced_pieces g.E.Entry.spelling (take l.k l.fences) l.pieces
