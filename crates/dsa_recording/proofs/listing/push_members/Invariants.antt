use Rattle.std.proofs.Common.{◌≡◌, ◌++◌, take}
use Rattle.std.specs.Prelude.{string_bytes}
use Rattle.dsa_recording.specs.Listings.{member_lines}
use Rattle.dsa_recording.proofs.listing.push_members.Given as goal

-- the lines of the members so far
abbrev pub invariant-loop-member : goal.invariant-loop-member
invariant-loop-member l = string_bytes l.text ≡ string_bytes l.fn.text ++ member_lines l.all l.first (take l.member l.members) l.uses
