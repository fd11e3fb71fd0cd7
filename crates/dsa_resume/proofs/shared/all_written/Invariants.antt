use Rattle.std.proofs.Common.{◌≡◌, map, take}
use Rattle.dsa_resume.specs.Shared.{spans_in}
use Rattle.dsa_resume.proofs.shared.all_written.Given as goal

abbrev pub invariant-loop-piece : goal.invariant-loop-piece
invariant-loop-piece g l = map spans_in l.all.items ≡ map g.P.Touching.writes (take l.piece-index l.pieces)
