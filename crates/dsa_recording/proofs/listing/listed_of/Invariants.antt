use Rattle.std.proofs.Common.{◌≡◌, ◌≤◌, length, take}
use Rattle.dsa_recording.specs.Listings.{member_operations}
use Rattle.dsa_recording.proofs.listing.listed_of.Given as goal

-- the operations of the members so far
abbrev pub invariant-loop-member : goal.invariant-loop-member
invariant-loop-member l =
    (l.listed ≡ length (member_operations l.all l.first (take l.member l.members))) × (l.listed ≤ l.member)
