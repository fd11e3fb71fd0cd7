use Rattle.std.proofs.Common.{◌≡◌, ◌++◌, drop}
use Rattle.dsa_resume.specs.Ended.{ends_of}
use Rattle.dsa_resume.proofs.ends.ends_of.Given as goal

-- those so far, and those of the rest
abbrev pub invariant-loop-index : goal.invariant-loop-index
invariant-loop-index l =
    l.ends.items ++ ends_of (drop l.index l.completions) (drop l.index l.given_up) ≡ ends_of l.completions l.given_up
