use Rattle.std.proofs.Common.{◌≡◌, ◌++◌, drop}
use Rattle.std.specs.Prelude.{string_bytes}
use Rattle.dsa_explain.specs.Words.{further_lines}
use Rattle.dsa_explain.proofs.listing.push_all_further.Given as goal

-- the lines so far, and those of what is left, are all
abbrev pub invariant-loop-reason : goal.invariant-loop-reason
invariant-loop-reason l =
    string_bytes l.text ++ further_lines l.pieces (drop l.reason-index l.reasons)
    ≡ string_bytes l.fn.text ++ further_lines l.pieces l.reasons
