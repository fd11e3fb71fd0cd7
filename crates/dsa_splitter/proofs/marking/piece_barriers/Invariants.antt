use Rattle.std.proofs.Common.{◌≡◌, map, take}
use Rattle.dsa_descriptor.specs.Descriptors.{fields}
use Rattle.dsa_splitter.specs.Pieces.{piece_barriers}
use Rattle.dsa_splitter.proofs.marking.piece_barriers.Given as goal

-- the marks of the operations so far
abbrev pub invariant-loop-index : goal.invariant-loop-index
invariant-loop-index l = l.found.items ≡ piece_barriers l.greatest (map fields l.list.descriptors.items) (take l.index l.list.barriers.items)
