-- Findings that are accepted: those whose key is a line of a text (this project's choice).
use Rattle.std.specs.Prelude.{ℕ, ◌≡◌, Bool, true, List, map, string_bytes}
use Rattle.std.specs.List.{list_any}
use Rattle.std.specs.Str.{bytes_eq}
use Rattle.dsa_lines.specs.Texts.{lines_of}
use Rattle.dsa_recording.specs.declared.accepted.Accepted.{Accepted}
use Rattle.dsa_recording.specs.declared.detail.Detail.{Detail}
use Rattle.dsa_recording.specs.declared.findings.Finding.{Finding}
use Rattle.dsa_recording.specs.Reports.{Reported}
use Rattle.dsa_recording.specs.Details.{IsDetail}
use Rattle.dsa_recording.specs.Keys.{key_words}
use Rattle.dsa_recording.specs.Pairs.{has_key}

-- it is a line of the text
abbrev pub is_line_of : List ℕ → List ℕ → Bool
is_line_of line text = list_any (λ other. bytes_eq other line) (lines_of text)

-- the keys that are accepted are the lines of the text
abbrev pub AcceptsLines : List ℕ → Accepted → Type 0
AcceptsLines text accepted = (key : List ℕ) → has_key accepted key ≡ is_line_of key text

-- these are the lines of the text, in order
abbrev pub HasLines : List ℕ → Accepted → Type 0
HasLines text accepted = map (λ line. string_bytes line) accepted.lines.items ≡ lines_of text

-- the key of a finding of a report is accepted
abbrev pub IsAccepted : Accepted → List (List ℕ) → Reported → Finding → Type 0
IsAccepted accepted es r f = (d : Detail) × IsDetail es r f d × (has_key accepted (key_words es d) ≡ true)
