-- Options, as the parser of the arguments found them (this project's choice).
use Rattle.std.specs.Prelude.{◌≡◌, ◌⊎◌, ◌-◌, ◌^◌, nat_le, ℕ, Bool, true, false, List, [], codes, Option, Some, None, option_map, option_and_then, unwrap_or, if◌then◌else◌}
use Rattle.clap.specs.Words.{first_value, found_of, matched_of, one_text}
use Rattle.clap.specs.declared.parser.matches.ArgMatches.{ArgMatches}
use Rattle.clap.specs.declared.parser.matches.ValueSource.TheVariants.{CommandLine}
use Rattle.dsa_explain.specs.declared.picture.PieceRange.{PieceRange}
use Rattle.dsa_lines.specs.Numbers.{number_of}
use Rattle.dsa_advice.specs.declared.settings.SettingsWords.{SettingsWords}

-- the option was given among the arguments, and does not only have its default
abbrev pub IsGiven : ArgMatches → List ℕ → Type 0
IsGiven m name = option_and_then (λ a. a.source) (matched_of (found_of m) name) ≡ Some CommandLine

-- an option of sizes or of the staging area was given
abbrev pub AreSizesGiven : ArgMatches → Type 0
AreSizesGiven m =
    (IsGiven m (codes "greatest-batch") ⊎ IsGiven m (codes "greatest-transfer")) ⊎ IsGiven m (codes "staging")

-- an option of prices was given
abbrev pub ArePricesGiven : ArgMatches → Type 0
ArePricesGiven m =
    (IsGiven m (codes "lone") ⊎ IsGiven m (codes "fence")) ⊎ (IsGiven m (codes "batch") ⊎ IsGiven m (codes "batches"))

-- some option of settings was given
abbrev pub AreSettingsGiven : ArgMatches → Type 0
AreSettingsGiven m = AreSizesGiven m ⊎ ArePricesGiven m

-- the value of an option, empty if it has none
abbrev pub word_of : ArgMatches → List ℕ → List ℕ
word_of m name = unwrap_or (first_value (found_of m) name) []

-- each word is the value of the option of its name
pub record AreWords (m : ArgMatches) (w : SettingsWords) : Type 0 where
  pub greatest_batch : w.greatest_batch.now ≡ word_of m (codes "greatest-batch")
  pub greatest_transfer : w.greatest_transfer.now ≡ word_of m (codes "greatest-transfer")
  pub lone : w.lone.now ≡ word_of m (codes "lone")
  pub batch : w.batch.now ≡ word_of m (codes "batch")
  pub batches : option_map (λ word. word.now) w.batches ≡ first_value (found_of m) (codes "batches")
  pub fence : w.fence.now ≡ word_of m (codes "fence")
  pub staging : w.staging.now ≡ word_of m (codes "staging")

-- whether a flag was set, by what the parser says
pub record IsFlag (m : ArgMatches) (name : List ℕ) (flag : Bool) : Type 0 where
  pub set : one_text (found_of m) name ≡ Some (codes "true") → flag ≡ true
  pub clear : one_text (found_of m) name ≡ Some (codes "false") → flag ≡ false
  pub absent : one_text (found_of m) name ≡ None → flag ≡ false

-- the number that the value of an option spells; without the option this one
abbrev pub number_or : ℕ → Option (List ℕ) → Option ℕ
number_or default None = Some default
number_or default (Some word) = number_of word

-- the pieces from the first to the last, if both are there, in this order
abbrev pub from_to : Option ℕ → Option ℕ → Option PieceRange
from_to None last = None
from_to (Some first) None = None
from_to (Some first) (Some last) = if nat_le first last then Some (record { first = first; last = last }) else None

-- the pieces that the options `from` and `to` name; without them all
abbrev pub range_of : ArgMatches → Option PieceRange
range_of m =
    from_to (number_or 0 (first_value (found_of m) (codes "from"))) (number_or (2 ^ 64 - 1) (first_value (found_of m) (codes "to")))
