use Rattle.std.proofs.Common.{map}
use Rattle.dsa_descriptor.specs.Descriptors.{fields}
use Rattle.dsa_conflicts.specs.Spread.{AreNoted}
use Rattle.dsa_conflicts.proofs.spread.note_by_units.Given as goal

-- the last conflicts of the pieces so far are noted
abbrev pub invariant-loop-piece : goal.invariant-loop-piece
invariant-loop-piece l = AreNoted (map fields l.pieces) l.stamps l.lasts l.window l.shift l.low l.high l.from l.to l.piece
