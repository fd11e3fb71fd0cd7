use Rattle.std.proofs.Common.{◌≡◌, List, ◌++◌, length}
use Rattle.serde_json.specs.Data.{Data, no_items}
use Rattle.dsa_tokens.specs.Said.{EachIsRead, room, up_to}
use Rattle.dsa_tokens.proofs.Items.{Trail, after}
use Rattle.dsa_tokens.proofs.lists.items_into.Given as goal

-- these items were taken so far, and what was read of them was added as far as there was room
abbrev pub invariant-items : goal.invariant-items
invariant-items g l =
    (done : List Data) × (xs : List _) × Trail l.depth l.initial.reader l.reader done × EachIsRead g.K.Kind.says (after done no_items) xs
    × (l.found.items ≡ l.initial.found.items ++ up_to (room l.most (length l.initial.found.items)) xs)

abbrev pub decreases-items : goal.decreases-items
decreases-items g l = length l.reader
