use Rattle.std.proofs.Common.{◌≡◌, ◌++◌, List}
use Rattle.dsa_ranges.specs.Pieces.{kind_of}
use Rattle.dsa_emission.specs.EmissionFaults.{bytes_at, IsGroupRead}
use Rattle.dsa_emission.proofs.reading.read_group.Given as goal

-- the pieces and the fences so far
abbrev pub invariant-loop-k : goal.invariant-loop-k
invariant-loop-k g l =
    let kind = kind_of g.P.Entry.spelling g.P.Entry.keeps g.P.Piece.size g.P.Touching.reads g.P.Touching.writes in
    (ps : List g.row.P.Denot) × (l.pieces.items ≡ l.initial.pieces.items ++ ps) ×
    IsGroupRead kind l.demands (bytes_at l.staged l.place l.entry) l.k l.fences.items ps
