-- The barriers of a list as text: a line `barrier` before an operation, or, if fences are kept, the word `fence` before it
-- in its line; and the canonical text of a list. That lists have barriers is this project's choice.
use Rattle.std.specs.Prelude.{◌≡◌, ◌⊎◌, ℕ, ◌||◌, Bool, true, false, List, [], ◌∷◌, ◌++◌, drop, length, slice_index_or, codes, if◌then◌else◌}
use Rattle.std.specs.List.{AllByRecursion}
use Rattle.std.specs.Str.{bytes_eq}
use Rattle.dsa_descriptor.specs.Fences.{after_first, fenced_entries, set_marks}
use Rattle.dsa_operations.specs.declared.operation.Operation.{Operation as AnyOperation}
use Rattle.dsa_operations.specs.OperationFields.{OperationFields, AreListedFields}
use Rattle.dsa_operations.specs.Operations.{spelling_of}
use Rattle.dsa_lines.specs.Words.{Word, words_of}
use Rattle.dsa_lines.specs.Texts.{lines_of, text_line, TextSpells}

-- what a line of the grammar has: a barrier, a fenced operation, an operation, or none of these
pub data LineKind : Type 0 where
  Other : LineKind
  Barrier : LineKind
  Fenced : LineKind
  Operation : LineKind

-- by its first word
unfoldable pub line_kind : List Word → LineKind
line_kind [] = Other
line_kind (w ∷ ws) =
    if bytes_eq w (codes "batch") then Other else
    if bytes_eq w (codes "barrier") then Barrier else
    if bytes_eq w (codes "fence") then Fenced else Operation

-- the mark of the line's operation, if it has one: whether a barrier is before it
abbrev pub line_marks : Bool → Bool → LineKind → List Bool
line_marks keep pending Other = []
line_marks keep pending Barrier = []
line_marks keep pending Fenced = (pending || keep) ∷ []
line_marks keep pending Operation = pending ∷ []

-- whether a barrier is before the next operation after the line
abbrev pub pending_after : Bool → LineKind → Bool
pending_after pending Other = pending
pending_after pending Barrier = true
pending_after pending Fenced = false
pending_after pending Operation = false

-- the mark of each operation of the lines, if fences are kept or not
unfoldable pub marks_from : Bool → Bool → List (List ℕ) → List Bool
marks_from keep pending [] = []
marks_from keep pending (line ∷ lines) =
    line_marks keep pending (line_kind (words_of line)) ++ marks_from keep (pending_after pending (line_kind (words_of line))) lines

-- the barriers of lines: a mark for each operation, if there is a barrier
abbrev pub barriers_of : Bool → List (List ℕ) → List Bool
barriers_of keep lines = set_marks (after_first (marks_from keep false lines))

-- ---- the canonical text

-- the line of a barrier
abbrev pub barrier_line : Bool → List ℕ
barrier_line mark = if mark then codes "barrier\n" else []

-- the lines of operations, each after that of a barrier if it is marked
unfoldable pub list_text : List OperationFields → List Bool → List ℕ
list_text [] marks = []
list_text (f ∷ fs) marks = barrier_line (slice_index_or marks 0 false) ++ (text_line f ++ list_text fs (drop 1 marks))

-- ---- laws

-- a text that spells operations has a mark for each
abbrev pub OneMarkEach : Type 0
OneMarkEach =
    (keep : Bool) (text : List ℕ) (fs : List OperationFields) → TextSpells text fs →
    length (marks_from keep false (lines_of text)) ≡ length fs

-- the canonical text of listed fields, with a mark for each or with none, spells them and the barriers that were marked
abbrev pub CanonicalTextSpells : Type 0
CanonicalTextSpells =
    (keep : Bool) (fs : List OperationFields) (marks : List Bool) → AllByRecursion AreListedFields fs →
    (marks ≡ []) ⊎ (length marks ≡ length fs) →
    TextSpells (list_text fs marks) fs × (barriers_of keep (lines_of (list_text fs marks)) ≡ set_marks (after_first marks))

-- the bytes of operations and their marks are those of no others
abbrev pub OneMarkedSpelling : Type 0
OneMarkedSpelling =
    (os ps : List AnyOperation) (marks others : List Bool) → length marks ≡ length os → length others ≡ length ps →
    fenced_entries spelling_of os marks ≡ fenced_entries spelling_of ps others → (os ≡ ps) × (marks ≡ others)
