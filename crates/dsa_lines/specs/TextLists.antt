-- What one walk over the lines of a text gives: the operations, their marks, and the line of each (this project's choice).
use Rattle.std.specs.Prelude.{◌≡◌, ◌≢◌, ⊤, ℕ, ◌+◌, Bool, true, false, List, [], ◌∷◌, ◌++◌, length, map, slice_index_or, Option, Some, None, Result, Ok, Err}
use Rattle.dsa_descriptor.specs.declared.fault.ListFault.{ListFault}
use Rattle.dsa_descriptor.specs.declared.fault.ListFault.TheVariants.{Field, Length, Memory as ListMemory, MixedPasid}
use Rattle.dsa_descriptor.specs.Lists.{IsFirstFaultBy}
use Rattle.dsa_operations.specs.Faults.{OperationKeeps}
use Rattle.dsa_operations.specs.OperationFields.{OperationFields, all_spelled, fields_spelling}
use Rattle.dsa_lines.specs.declared.fault.TextFault.{TextFault}
use Rattle.dsa_lines.specs.declared.fault.TextFault.TheVariants.{Grammar, List as Listed, Memory}
use Rattle.dsa_lines.specs.declared.list_line.ListLine.{ListLine}
use Rattle.dsa_lines.specs.declared.list_line.ListLine.TheVariants.{Nothing, Barrier as BarrierLine, Entry}
use Rattle.dsa_lines.specs.declared.text_list.Gathered.{Gathered}
use Rattle.dsa_lines.specs.declared.text_list.OperationLine.{OperationLine}
use Rattle.dsa_lines.specs.Words.{Word, words_of}
use Rattle.dsa_lines.specs.Texts.{all_fields, line_fields, lines_of, TextSpells}
use Rattle.dsa_lines.specs.Barriers.{LineKind, line_kind, line_marks, marks_from, pending_after}
use Rattle.dsa_lines.specs.Barriers.LineKind.{Other, Barrier, Fenced, Operation}

-- ---- the lines of operations

-- the line of an operation: its number, whether `fence` is before the operation, and its bytes
abbrev pub NumberedLine : Type 0
NumberedLine = ℕ × Bool × List ℕ

-- a line of this number, if it has an operation
abbrev pub numbered : ℕ → List ℕ → LineKind → List NumberedLine
numbered number line Other = []
numbered number line Barrier = []
numbered number line Fenced = (number, true, line) ∷ []
numbered number line Operation = (number, false, line) ∷ []

-- the lines that have an operation, in order, if the first of all lines has this number
unfoldable pub operation_lines : ℕ → List (List ℕ) → List NumberedLine
operation_lines number [] = []
operation_lines number (line ∷ lines) = numbered number line (line_kind (words_of line)) ++ operation_lines (number + 1) lines

-- what a line of an operation shows
abbrev pub line_shown : OperationLine → NumberedLine
line_shown l = (l.number, l.is_fenced, l.text.now)

-- the number of the line of this operation; 0 if there is no such operation
abbrev pub line_number : List NumberedLine → ℕ → ℕ
line_number lines operation = (slice_index_or lines operation (0, false, [])).0

-- a fault of a list has the number of the line of the operation that it names
abbrev pub NamesLine : List NumberedLine → TextFault → Type 0
NamesLine lines (Grammar line column what) = ⊤
NamesLine lines (Listed line Length) = ⊤
NamesLine lines (Listed line (Field operation fault)) = line ≡ line_number lines operation
NamesLine lines (Listed line (MixedPasid operation)) = line ≡ line_number lines operation
NamesLine lines (Listed line ListMemory) = ⊤
NamesLine lines Memory = ⊤

-- ---- why a text lists no operations

-- the line of this number, from 1 on, is the first that leaves the grammar: it has words that spell
-- no fields, and the lines before it spell operations
pub record LeavesGrammarAt (lines : List (List ℕ)) (number : ℕ) : Type 0 where
  pub before : List (List ℕ)
  pub line : List ℕ
  pub after : List (List ℕ)
  pub lines_are : lines ≡ before ++ line ∷ after
  pub number_is : number ≡ length before + 1
  pub spelled : (fs : List OperationFields) × (all_fields before ≡ Some fs)
  pub outside : line_fields (words_of line) ≡ None

-- the first line that leaves the grammar; or, if all lines spell operations, the first fault of these as a list, which is no
-- allocation failure, with the line of the operation that it names; or that an allocation failed
abbrev pub IsFirstTextFault : List (List ℕ) → TextFault → Type 0
IsFirstTextFault lines (Grammar line column what) = LeavesGrammarAt lines line
IsFirstTextFault lines (Listed line fault) =
    (fs : List OperationFields) × (all_fields lines ≡ Some fs) × IsFirstFaultBy OperationKeeps (all_spelled fs) fault
    × (fault ≢ ListMemory) × NamesLine (operation_lines 1 lines) (Listed line fault)
IsFirstTextFault lines Memory = ⊤

-- ---- laws

-- a text that spells operations has a line for each
abbrev pub OneLineEach : Type 0
OneLineEach =
    (text : List ℕ) (fs : List OperationFields) → TextSpells text fs → length (operation_lines 1 (lines_of text)) ≡ length fs

-- ---- for private clauses

-- a fault of a list with some line, or that memory ran out
abbrev pub IsTextFault : ListFault → TextFault → Type 0
IsTextFault fault (Grammar line column what) = ⊥
IsTextFault fault (Listed line listed) = (listed ≡ fault) × (fault ≢ ListMemory)
IsTextFault fault Memory = fault ≡ ListMemory

-- why lines spell no operations
abbrev pub Stops : List (List ℕ) → TextFault → Type 0
Stops lines (Grammar line column what) = LeavesGrammarAt lines line
Stops lines (Listed line fault) = ⊥
Stops lines Memory = ⊤

-- why the line of this number spells none; `read` is what it spells
abbrev pub StopsAt : ℕ → Option (List OperationFields) → TextFault → Type 0
StopsAt number read (Grammar line column what) = (line ≡ number) × (read ≡ None)
StopsAt number read (Listed line fault) = ⊥
StopsAt number read Memory = ⊤

-- what a line of an operation is by its first word
abbrev pub operation_kind : Bool → LineKind
operation_kind true = Fenced
operation_kind false = Operation

-- what a line has, or why it leaves the grammar
abbrev pub HasLine : {E : Type 0} → List Word → Result ListLine E → Type 0
HasLine words (Ok Nothing) = (line_fields words ≡ Some []) × (line_kind words ≡ Other)
HasLine words (Ok BarrierLine) = (line_fields words ≡ Some []) × (line_kind words ≡ Barrier)
HasLine words (Ok (Entry bytes is_fenced)) =
    (f : OperationFields) × (line_fields words ≡ Some (f ∷ [])) × (bytes ≡ fields_spelling f) × (line_kind words ≡ operation_kind is_fenced)
HasLine words (Err place) = line_fields words ≡ None

-- one line more: what it spells, its mark, its number, and whether a barrier is before the next operation
pub record HasMore (keep pending : Bool) (number : ℕ) (line : List ℕ) (before after : Gathered) (next : Bool) : Type 0 where
  pub here : List OperationFields
  pub spelled : line_fields (words_of line) ≡ Some here
  pub bytes : after.bytes.items ≡ before.bytes.items ++ all_spelled here
  pub marks : after.marks.items ≡ before.marks.items ++ line_marks keep pending (line_kind (words_of line))
  pub lines : map line_shown after.lines.items ≡ map line_shown before.lines.items ++ numbered number line (line_kind (words_of line))
  pub next_is : next ≡ pending_after pending (line_kind (words_of line))

-- or why there is no more
abbrev pub PushesLine : Bool → Bool → ℕ → List ℕ → Gathered → Gathered → Result Bool TextFault → Type 0
PushesLine keep pending number line before after (Ok next) = HasMore keep pending number line before after next
PushesLine keep pending number line before after (Err fault) = StopsAt number (line_fields (words_of line)) fault

-- all that the lines have
pub record HasAll (keep : Bool) (lines : List (List ℕ)) (g : Gathered) : Type 0 where
  pub operations : List OperationFields
  pub spelled : all_fields lines ≡ Some operations
  pub bytes : g.bytes.items ≡ all_spelled operations
  pub marks : g.marks.items ≡ marks_from keep false lines
  pub numbers : map line_shown g.lines.items ≡ operation_lines 1 lines

-- or why they spell no operations
abbrev pub Gathers : Bool → List (List ℕ) → Result Gathered TextFault → Type 0
Gathers keep lines (Ok g) = HasAll keep lines g
Gathers keep lines (Err fault) = Stops lines fault
