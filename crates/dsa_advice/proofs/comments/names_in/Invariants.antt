use Rattle.std.proofs.Common.{◌≡◌, ◌++◌, drop, map}
use Rattle.std.specs.Prelude.{string_bytes}
use Rattle.dsa_lines.specs.TextLists.{line_shown}
use Rattle.dsa_advice.specs.Comments.{names_in}
use Rattle.dsa_advice.proofs.comments.names_in.Given as goal

-- the names so far, and those of the lines that are left, are all
abbrev pub invariant-loop-line : goal.invariant-loop-line
invariant-loop-line l =
    map string_bytes l.names.items ++ names_in (map line_shown (drop l.line-index l.lines)) ≡ names_in (map line_shown l.lines)
