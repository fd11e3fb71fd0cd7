use Rattle.std.proofs.Common.{◌≡◌, ◌+◌, take}
use Rattle.dsa_settings.specs.Plan.{piece_count}
use Rattle.dsa_settings.proofs.legal.has_piece_count.Given as goal

-- the pieces that are left, and those of the groups so far
abbrev pub invariant-loop-group : goal.invariant-loop-group
invariant-loop-group l = l.left + piece_count (take l.group-index l.groups) ≡ l.pieces
