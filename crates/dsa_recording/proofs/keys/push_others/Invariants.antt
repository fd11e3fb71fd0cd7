use Rattle.std.proofs.Common.{◌≡◌, ◌++◌, drop, string_bytes}
use Rattle.dsa_recording.specs.Details.{named_by}
use Rattle.dsa_recording.specs.Keys.{others_key}
use Rattle.dsa_recording.proofs.keys.push_others.Given as goal

-- what is written so far, and what is left, are all
abbrev pub invariant-loop-member : goal.invariant-loop-member
invariant-loop-member l =
    string_bytes l.text ++ others_key l.all l.detail (drop l.member-index l.member-items)
    ≡ string_bytes l.fn.text ++ others_key l.all l.detail (named_by l.detail.cause)
