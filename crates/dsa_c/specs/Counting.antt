-- How much room the bytes to submit need.
use Rattle.std.specs.Prelude.{◌+◌, ◌≡◌, ℕ, ◌*◌, ◌<◌, ◌≤◌, List, length, Option, Some, None}
use Rattle.std.specs.List.{sum_by}
use Rattle.dsa_descriptor.specs.Places.{u32_at}
use Rattle.dsa_descriptor.specs.Lists.{entries}
use Rattle.dsa_descriptor.specs.Pieces.{most_pieces}
use Rattle.dsa_image.specs.Lines.{quotient_up}
use Rattle.dsa_calls.specs.Planned.{Submission}
use Rattle.dsa_c.specs.declared.settings.RawSettings.{RawSettings}
use Rattle.dsa_c.specs.Raw.{AreSettings}

-- the transfer size of an entry of a list
abbrev pub size_of : List ℕ → ℕ
size_of entry = u32_at 32 entry

-- how many pieces an operation of that entry has
abbrev pub pieces_of : ℕ → List ℕ → ℕ
pieces_of greatest entry = quotient_up (size_of entry) greatest

-- how many pieces the operations of a list's entries have
abbrev pub count_of : ℕ → List ℕ → ℕ
count_of greatest list = sum_by (pieces_of greatest) (entries list)

-- what counting answers: 0 for numbers that are no settings; else how many pieces, or 65,537 for more than may be planned
pub record IsCount (s : RawSettings) (table list : List ℕ) (n : ℕ) : Type 0 where
  pub no_settings : (¬ AreSettings s table) → n ≡ 0
  pub few : AreSettings s table → count_of s.greatest_transfer list ≤ most_pieces → n ≡ count_of s.greatest_transfer list
  pub many : AreSettings s table → most_pieces < count_of s.greatest_transfer list → n ≡ (most_pieces + 1)

-- 64 bytes a piece are enough for the portal, and 80 for the staging area
pub record HasRoom (p : Submission) : Type 0 where
  pub portal : length p.portal ≤ 64 * length p.pieces
  pub staging : length p.staging ≤ 80 * length p.pieces

-- ---- for private clauses

-- how many pieces the entries have, or none for more than may be planned
abbrev pub CountsEntries : ℕ → List (List ℕ) → Option ℕ → Type 0
CountsEntries greatest entries None = most_pieces < sum_by (pieces_of greatest) entries
CountsEntries greatest entries (Some n) = (n ≤ most_pieces) × (n ≡ sum_by (pieces_of greatest) entries)
