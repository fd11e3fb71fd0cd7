use Rattle.std.proofs.Common.{◌≤◌, List, length}
use Rattle.json.specs.Token.{Token}
use Rattle.serde_json.specs.Data.{Members}
use Rattle.dsa_tokens.specs.Spelled.{AreInOrder}
use Rattle.dsa_tokens.specs.Taken.{TakesMembers, TakesNoMembers}
use Rattle.dsa_tokens.proofs.objects.members_into.Given as goal

abbrev pub invariant-members : goal.invariant-members
invariant-members g l = record {
  goes_on : (found : Members) → (now : Members) × (g.F.Fields.hold l.initial.fields found → g.F.Fields.hold l.fields now) × (AreInOrder found → AreInOrder now)
      × ((all : Members) (r : List Token) → TakesMembers l.depth l.reader now all r → TakesMembers l.depth l.initial.reader found all r)
      × (TakesNoMembers l.depth l.reader now → TakesNoMembers l.depth l.initial.reader found);
  shorter : length l.reader ≤ length l.initial.reader;
}

abbrev pub decreases-members : goal.decreases-members
decreases-members g l = length l.reader
