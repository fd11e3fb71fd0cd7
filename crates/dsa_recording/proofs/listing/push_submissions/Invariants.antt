use Rattle.std.proofs.Common.{◌≡◌, ◌++◌, take}
use Rattle.std.specs.Prelude.{string_bytes}
use Rattle.dsa_recording.specs.Listings.{submission_lines}
use Rattle.dsa_recording.proofs.listing.push_submissions.Given as goal

-- the lines of the submissions so far
abbrev pub invariant-loop-number : goal.invariant-loop-number
invariant-loop-number l =
    string_bytes l.text ≡ string_bytes l.fn.text ++ submission_lines l.all (take l.number l.report.submissions.items) (take l.number l.report.audits.items)
