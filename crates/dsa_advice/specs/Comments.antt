-- What the comments of a text name (this project's choice).
use Rattle.std.specs.Prelude.{◌≡◌, ℕ, ◌==◌, ◌&&◌, nat_lt, not, Bool, List, [], ◌∷◌, length, map, if◌then◌else◌}
use Rattle.std.specs.Char.{is_control}
use Rattle.std.specs.List.{list_any}
use Rattle.std.specs.Str.{chars, is_utf8, trim}
use Rattle.dsa_operations.specs.OperationFields.{OperationFields}
use Rattle.dsa_lines.specs.TextLists.{NumberedLine, line_shown, operation_lines}
use Rattle.dsa_lines.specs.Texts.{lines_of, TextSpells}
use Rattle.dsa_advice.specs.declared.unplanned.Source.{Source}
use Rattle.dsa_advice.specs.declared.unplanned.Source.TheVariants.{Text, List as Listed, Job}

-- what is after the first # of a line
abbrev pub after_mark : List ℕ → List ℕ
after_mark [] = []
after_mark (c ∷ cs) = if c == 35 then cs else after_mark cs

-- a terminal obeys this character: it is a control character, and no tab
abbrev pub is_obeyed : ℕ → Bool
is_obeyed c = not (c == 9) && is_control c

-- a text; none if it has more than 256 bytes, since each piece of an operation shows its name, or if a terminal would obey
-- a part of it
unfoldable pub harmless : List ℕ → List ℕ
harmless text = if nat_lt 256 (length text) then [] else (if list_any is_obeyed (chars text) then [] else text)

-- the comment of a line: what is after its first #, without white space at both ends; none if it is no UTF-8, too long, or
-- if a terminal would obey a part of it
abbrev pub comment_of : List ℕ → List ℕ
comment_of line = if is_utf8 (after_mark line) then harmless (trim (after_mark line)) else []

-- the names of operations by their lines: the comment of each
abbrev pub names_in : List NumberedLine → List (List ℕ)
names_in lines = map (λ line. comment_of line.2) lines

-- the names of the operations of lines, in their order
abbrev pub names_of : List (List ℕ) → List (List ℕ)
names_of lines = names_in (operation_lines 1 lines)

-- the names of operations, by where they come from: those of a job have none
abbrev pub names_from : Source → List (List ℕ)
names_from (Text text lines) = names_in (map line_shown lines.now)
names_from Listed = []
names_from Job = []

-- a text that spells operations has a name for each
abbrev pub OneNameEach : Type 0
OneNameEach = (text : List ℕ) (fs : List OperationFields) → TextSpells text fs → length (names_of (lines_of text)) ≡ length fs
