use Rattle.std.proofs.Common.{◌≡◌, ◌≤◌}
use Rattle.dsa_ranges.specs.Pieces.{kind_of}
use Rattle.dsa_emission.specs.EmissionFaults.{place_before, IsRead}
use Rattle.dsa_emission.proofs.reading.read_groups.Given as goal

-- the groups and the pieces so far, and the place of the next entry
abbrev pub invariant-loop-number : goal.invariant-loop-number
invariant-loop-number g l = record {
  placed : l.place ≡ place_before l.all l.number;
  batched : l.place.batched ≤ l.place.start;
  batches : l.place.batches ≤ l.place.start;
  read :
      IsRead (kind_of g.P.Entry.spelling g.P.Entry.keeps g.P.Piece.size g.P.Touching.reads g.P.Touching.writes)
      l.demands l.all l.staged l.number l.groups.items l.pieces.items;
}
