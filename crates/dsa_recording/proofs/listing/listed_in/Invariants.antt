use Rattle.std.proofs.Common.{◌≡◌, ◌≤◌, length, take}
use Rattle.std.specs.List.{sum_by}
use Rattle.dsa_recording.specs.Listings.{listed_operations}
use Rattle.dsa_recording.specs.Totals.{member_count}
use Rattle.dsa_recording.proofs.listing.listed_in.Given as goal

-- the operations of the submissions so far
abbrev pub invariant-loop-number : goal.invariant-loop-number
invariant-loop-number l =
    (l.listed ≡ length (listed_operations l.all (take l.number l.report.submissions.items) (take l.number l.report.audits.items)))
    × (l.listed ≤ sum_by member_count (take l.number l.report.audits.items))
