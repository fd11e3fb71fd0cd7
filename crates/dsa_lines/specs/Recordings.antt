-- A recording as lines (this project's choice): the lines of a portal, with those of the members of a batch, as a
-- staging area has them, after the line of the batch.
use Rattle.std.specs.Prelude.{◌≡◌, ◌≢◌, ⊤, ℕ, ◌+◌, List, [], ◌∷◌, ◌++◌, length, replicate, take, codes, true, Option, Some, None, Result, Ok, Err, if◌then◌else◌}
use Rattle.std.specs.Str.{bytes_eq}
use Rattle.dsa_descriptor.specs.Fences.{fenced}
use Rattle.dsa_emission.specs.Emission.{batch_spelling}
use Rattle.dsa_operations.specs.OperationFields.{fields_spelling}
use Rattle.dsa_lines.specs.declared.fault.Expected.{Expected}
use Rattle.dsa_lines.specs.declared.fault.TextFault.{TextFault}
use Rattle.dsa_lines.specs.declared.fault.TextFault.TheVariants.{Grammar, List as Listed, Memory}
use Rattle.dsa_lines.specs.declared.recording.Recorded.{Recorded}
use Rattle.dsa_lines.specs.declared.recording.Recorded.TheVariants.{Batch, Entry}
use Rattle.dsa_lines.specs.declared.recording.BatchLine.{BatchLine}
use Rattle.dsa_lines.specs.Words.{Word, words_of}
use Rattle.dsa_lines.specs.Grammar.{after, named, number_at, greatest, fields_of, ◌>>=◌}

-- ---- a line

-- this, if no word is left
abbrev pub at_end : {A : Type 0} → A → List Word → Option A
at_end x [] = Some x
at_end x (w ∷ ws) = None

-- a batch, after its name: `of COUNT at ADDRESS, record ADDRESS`
unfoldable pub batch_at : List Word → Option BatchLine
batch_at words = do
  of ← after (codes "of") words
  count ← number_at (greatest 32) of
  at ← after (codes "at") count.1
  list ← number_at (greatest 64) at
  record_name ← named (codes "record") list.1
  record_at ← number_at (greatest 64) record_name
  at_end (record { count = count.0; list_at = list.0; record_at = record_at.0 }) record_at.1

-- the bytes of an operation
abbrev pub entry_at : List Word → Option (List ℕ)
entry_at words = fields_of words >>= λ f. Some (fields_spelling f)

-- the same with the flag 0x0001, fence
abbrev pub fenced_at : List Word → Option (List ℕ)
fenced_at words = fields_of words >>= λ f. Some (fenced true (fields_spelling f))

-- a line with words is that of a batch, of a fenced operation after `fence`, or of an operation
unfoldable pub recorded_at : List Word → Option Recorded
recorded_at [] = None
recorded_at (w ∷ ws) =
    if bytes_eq w (codes "batch") then (batch_at ws >>= λ b. Some (Batch b)) else
    if bytes_eq w (codes "fence") then (fenced_at ws >>= λ bytes. Some (Entry bytes)) else
    (entry_at (w ∷ ws) >>= λ bytes. Some (Entry bytes))

-- a line says one thing, or has no words
abbrev pub line_recorded : List Word → Option (List Recorded)
line_recorded [] = Some []
line_recorded (w ∷ ws) = recorded_at (w ∷ ws) >>= λ r. Some (r ∷ [])

-- what a line says and what the lines after it say, if these say something
abbrev pub with_recorded : List Recorded → Option (List Recorded) → Option (List Recorded)
with_recorded rs None = None
with_recorded rs (Some more) = Some (rs ++ more)

-- what the lines say, if each that has words is of the grammar
unfoldable pub all_recorded : List (List ℕ) → Option (List Recorded)
all_recorded [] = Some []
all_recorded (line ∷ lines) = line_recorded (words_of line) >>= λ here. with_recorded here (all_recorded lines)

-- ---- its bytes

-- the PASID and privilege of an operation that comes first; zero if none does
abbrev pub first_owner : List Recorded → List ℕ
first_owner [] = replicate 4 0
first_owner (Batch b ∷ rs) = replicate 4 0
first_owner (Entry bytes ∷ rs) = take 4 bytes

-- the entry of a batch, with this owner: that of the operation after it
abbrev pub batch_bytes : BatchLine → List ℕ → List ℕ
batch_bytes b owner = batch_spelling owner b.record_at b.list_at b.count

-- the bytes of one that has the others after it
abbrev pub recorded_bytes : Recorded → List Recorded → List ℕ
recorded_bytes (Batch b) rs = batch_bytes b (first_owner rs)
recorded_bytes (Entry bytes) rs = bytes

-- the recording
abbrev pub recording_bytes : List Recorded → List ℕ
recording_bytes [] = []
recording_bytes (r ∷ rs) = recorded_bytes r rs ++ recording_bytes rs

-- ---- what reading answers

-- the lines spell these bytes
abbrev pub LinesSpell : List (List ℕ) → List ℕ → Type 0
LinesSpell lines bytes = (rs : List Recorded) × (all_recorded lines ≡ Some rs) × (bytes ≡ recording_bytes rs)

-- they spell none
abbrev pub LinesSpellNone : List (List ℕ) → Type 0
LinesSpellNone lines = (bytes : List ℕ) → ¬ LinesSpell lines bytes

-- the line of this number, from 1 on, is the first that leaves the grammar
pub record LeavesRecordingAt (lines : List (List ℕ)) (number : ℕ) : Type 0 where
  pub before : List (List ℕ)
  pub line : List ℕ
  pub after : List (List ℕ)
  pub lines_are : lines ≡ before ++ line ∷ after
  pub number_is : number ≡ length before + 1
  pub said : (rs : List Recorded) × (all_recorded before ≡ Some rs)
  pub outside : line_recorded (words_of line) ≡ None

-- why the lines spell no bytes: the first that leaves the grammar, or that memory ran out
abbrev pub IsRecordingFault : List (List ℕ) → TextFault → Type 0
IsRecordingFault lines (Grammar line column what) = LeavesRecordingAt lines line
IsRecordingFault lines (Listed line fault) = ⊥
IsRecordingFault lines Memory = ⊤

-- the bytes that the lines spell, or why they spell none
abbrev pub Records : {X : Type 0} → (X → List ℕ) → List (List ℕ) → Result X TextFault → Type 0
Records shown lines (Ok bytes) = LinesSpell lines (shown bytes)
Records shown lines (Err fault) = IsRecordingFault lines fault

-- ---- for private clauses

-- no words; else what they say, or a place where they say nothing
abbrev pub SaysLine : List Word → Result (Option Recorded) (ℕ × Expected) → Type 0
SaysLine words (Ok None) = words ≡ []
SaysLine words (Ok (Some r)) = (words ≢ []) × (recorded_at words ≡ Some r)
SaysLine words (Err place) = (words ≢ []) × (recorded_at words ≡ None)

-- a batch whose owner is known now, in bytes
abbrev pub owned_bytes : Option BatchLine → List ℕ → List ℕ
owned_bytes None owner = []
owned_bytes (Some b) owner = batch_bytes b owner

-- these bytes and a batch that waits for its owner are what was said so far, whatever comes after
abbrev pub AreRecorded : List ℕ → Option BatchLine → List Recorded → Type 0
AreRecorded bytes pending said =
    (rs : List Recorded) → bytes ++ (owned_bytes pending (first_owner rs) ++ recording_bytes rs) ≡ recording_bytes (said ++ rs)

-- why the line of this number is not recorded; `read` is what it says
abbrev pub StopsRecording : ℕ → Option (List Recorded) → TextFault → Type 0
StopsRecording number read (Grammar line column what) = (line ≡ number) × (read ≡ None)
StopsRecording number read (Listed line fault) = ⊥
StopsRecording number read Memory = ⊤

-- what is read is added after what was said
abbrev pub PushesRecorded : List ℕ → Option BatchLine → List ℕ → ℕ → Option (List Recorded) → Result (Option BatchLine) TextFault → Type 0
PushesRecorded before pending after number read (Ok next) =
    (here : List Recorded) × (read ≡ Some here)
    × ((said : List Recorded) → AreRecorded before pending said → AreRecorded after next (said ++ here))
PushesRecorded before pending after number read (Err fault) = StopsRecording number read fault
