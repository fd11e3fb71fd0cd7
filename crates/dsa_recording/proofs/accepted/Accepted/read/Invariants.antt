use Rattle.std.proofs.Common.{◌≡◌, ◌||◌, ◌++◌, ℕ, List, length, map, string_bytes}
use denote.Text.{Utf8}
use denote.Shadow.{shadow}
use Rattle.std.specs.BTreeSet.{contains_text}
use Rattle.dsa_lines.specs.Texts.{lines_of}
use Rattle.dsa_recording.specs.Accepted.{is_line_of}
use Rattle.dsa_recording.proofs.accepted.Accepted.read.Given as goal

-- a line of the text is among the keys so far, or a line of the rest; the lines so far and those of the rest are all
abbrev pub invariant-loop-line : goal.invariant-loop-line
invariant-loop-line l =
    shadow (Utf8 l.rest) × ((q : List ℕ) → (contains_text l.keys q || is_line_of q l.rest) ≡ is_line_of q l.fn.text)
    × (map (λ line. string_bytes line) l.lines.items ++ lines_of l.rest ≡ lines_of l.fn.text)

abbrev pub decreases-loop-line : goal.decreases-loop-line
decreases-loop-line l = length l.rest
