-- What an input is taken as (this project's choice).
use Rattle.std.specs.Prelude.{ℕ, List, codes, Option, Some, None, option_map, if◌then◌else◌}
use Rattle.std.specs.Str.{bytes_eq}
use Rattle.clap.specs.Words.{first_value, found_of}
use Rattle.clap.specs.declared.parser.matches.ArgMatches.{ArgMatches}
use Rattle.dsa_forms.specs.Kinds.{has_batch}
use Rattle.dsa_text.specs.declared.taken.Content.{Content}
use Rattle.dsa_text.specs.declared.taken.Content.TheVariants.{Text, List as Listed, Recording}

-- what a word names
abbrev pub content_by : List ℕ → Option Content
content_by word =
    if bytes_eq word (codes "text") then Some Text else
    if bytes_eq word (codes "list") then Some Listed else
    if bytes_eq word (codes "recording") then Some Recording else None

-- what the value of the option says: nothing without the option; none if its word names nothing
abbrev pub said_of : Option (List ℕ) → Option (Option Content)
said_of None = Some None
said_of (Some word) = option_map Some (content_by word)

-- what the option `as` says
abbrev pub said_in : ArgMatches → Option (Option Content)
said_in m = said_of (first_value (found_of m) (codes "as"))

-- what bytes are: those of a recording, if an entry is a batch, else those of a list
abbrev pub content_of : List ℕ → Content
content_of bytes = if has_batch bytes then Recording else Listed

-- what bytes are taken as: what is said, else what they are
abbrev pub content_in : Option Content → List ℕ → Content
content_in None bytes = content_of bytes
content_in (Some content) bytes = content
