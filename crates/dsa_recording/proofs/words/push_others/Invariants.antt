use Rattle.std.proofs.Common.{◌≡◌, ◌++◌, drop, string_bytes}
use Rattle.dsa_recording.specs.Details.{named_by}
use Rattle.dsa_recording.specs.Words.{other_lines}
use Rattle.dsa_recording.proofs.words.push_others.Given as goal

-- the lines so far, and those that are left, are all
abbrev pub invariant-loop-member : goal.invariant-loop-member
invariant-loop-member l =
    string_bytes l.text ++ other_lines l.from l.all l.detail (drop l.member-index l.member-items)
    ≡ string_bytes l.fn.text ++ other_lines l.from l.all l.detail (named_by l.detail.cause)
