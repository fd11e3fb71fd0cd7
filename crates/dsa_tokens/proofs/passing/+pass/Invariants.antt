use Rattle.std.proofs.Common.{◌+◌, ◌*◌, ◌≤◌, List, length}
use Rattle.json.specs.Token.{Token}
use Rattle.serde_json.specs.Data.{Items, Members}
use Rattle.dsa_tokens.specs.Taken.{TakesItems, TakesNoItems, TakesMembers, TakesNoMembers}
use Rattle.dsa_tokens.proofs.passing.+pass.Given as goal

abbrev pub decreases-pass_value : goal.decreases-pass_value
decreases-pass_value l = 3 * l.depth + 1

abbrev pub decreases-pass_rest : goal.decreases-pass_rest
decreases-pass_rest l = 3 * l.depth

abbrev pub decreases-pass_items : goal.decreases-pass_items
decreases-pass_items l = 3 * l.depth + 2

abbrev pub decreases-pass_members : goal.decreases-pass_members
decreases-pass_members l = 3 * l.depth + 2

abbrev pub invariant-pass_items-items : goal.invariant-pass_items-items
invariant-pass_items-items l = record {
  goes_on : (ds : Items) (r : List Token) → TakesItems l.depth l.reader ds r → (all : Items) × TakesItems l.depth l.initial.reader all r;
  stops : TakesNoItems l.depth l.reader → TakesNoItems l.depth l.initial.reader;
  shorter : length l.reader ≤ length l.initial.reader;
}

abbrev pub decreases-pass_items-items : goal.decreases-pass_items-items
decreases-pass_items-items l = length l.reader

abbrev pub invariant-pass_members-members : goal.invariant-pass_members-members
invariant-pass_members-members l = record {
  goes_on : (found : Members) → (now : Members) × ((all : Members) (r : List Token) → TakesMembers l.depth l.reader now all r → TakesMembers l.depth l.initial.reader found all r) × (TakesNoMembers l.depth l.reader now → TakesNoMembers l.depth l.initial.reader found);
  shorter : length l.reader ≤ length l.initial.reader;
}

abbrev pub decreases-pass_members-members : goal.decreases-pass_members-members
decreases-pass_members-members l = length l.reader
