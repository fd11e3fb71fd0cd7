-- Events as text, as `dsa_trace` writes them: a line for each.
use Rattle.std.specs.Prelude.{◌≡◌, ℕ, zero, suc, ◌+◌, ◌<◌, ◌⊎◌, ◌==◌, ◌&&◌, List, [], ◌∷◌, length, take, drop, Option, Some, None, codes, if◌then◌else◌}
use Rattle.std.specs.Str.{bytes_eq}
use Rattle.dsa_lines.specs.Numbers.{numeral}
use Rattle.dsa_lines.specs.Texts.{before}
use Rattle.dsa_waits.specs.declared.event.Event.TheVariants as event
use Rattle.dsa_waits.specs.declared.event.Queue.{Queue}
use Rattle.dsa_waits.specs.declared.lines.Line.{Line}
use Rattle.dsa_waits.specs.declared.lines.Line.TheVariants.{Submitted, Happened}
use Rattle.dsa_waits.specs.declared.lines.LinesFault.{LinesFault}
use Rattle.dsa_waits.specs.declared.lines.LinesFault.TheVariants as fault

-- ---- parts of a text

-- the bytes before the first that is c
abbrev pub first_part : ℕ → List ℕ → List ℕ
first_part c text = take (before c text) text

-- those after it
abbrev pub after : ℕ → List ℕ → List ℕ
after c text = drop (before c text + 1) text

-- ---- a queue

-- two numbers with a dot between
abbrev pub queue_with : Option ℕ → Option ℕ → Option Queue
queue_with (Some device) (Some number) = Some (record { device = device; number = number })
queue_with (Some device) None = None
queue_with None number = None

-- the queue of these bytes
abbrev pub queue_in : List ℕ → Option Queue
queue_in numbers = queue_with (numeral 10 (first_part 46 numbers)) (numeral 10 (after 46 numbers))

-- `wq`, the device, a dot, the number (the names of Linux's driver idxd)
abbrev pub queue_of : List ℕ → Option Queue
queue_of [] = None
queue_of (c ∷ []) = None
queue_of (c ∷ d ∷ numbers) = if c == 119 && d == 113 then queue_in numbers else None

-- ---- a line

-- a submission with these numbers
abbrev pub submission_with : Option ℕ → Option Queue → Option ℕ → Option ℕ → Option Line
submission_with (Some number) (Some queue) (Some code) (Some members) =
    Some (Submitted (record { number = number; queue = queue; code = code; members = members }))
submission_with (Some number) (Some queue) (Some code) None = None
submission_with (Some number) (Some queue) None members = None
submission_with (Some number) None code members = None
submission_with None queue code members = None

-- the word of this index, from 0, between blanks
abbrev pub word_at : ℕ → List ℕ → List ℕ
word_at zero text = first_part 32 text
word_at (suc k) text = word_at k (after 32 text)

-- `S`: its number, its queue, `op` and its operation code, `members` and how many it has; what follows is not read
abbrev pub submitted_line : List ℕ → Option Line
submitted_line text =
    if bytes_eq (word_at 2 text) (codes "op") then (
    if bytes_eq (word_at 4 text) (codes "members") then
    submission_with (numeral 10 (word_at 0 text)) (queue_of (word_at 1 text)) (numeral 10 (word_at 3 text)) (numeral 10 (word_at 5 text))
    else None
    ) else None

-- the end of a member of these numbers; a status is read and has no use
abbrev pub member_with : Option ℕ → Option ℕ → Option ℕ → Option Line
member_with (Some number) (Some member) (Some status) = Some (Happened (event.MemberEnded number member))
member_with (Some number) (Some member) None = None
member_with (Some number) None status = None
member_with None member status = None

-- that of a submission, with its status
abbrev pub ended_with : Option ℕ → Option ℕ → Option Line
ended_with (Some number) (Some status) = Some (Happened (event.Ended number status))
ended_with (Some number) None = None
ended_with None status = None

-- a record that is watched
abbrev pub watched_with : Option ℕ → Option Line
watched_with (Some number) = Some (Happened (event.Watched number))
watched_with None = None

-- one that the program has looked at
abbrev pub known_with : Option ℕ → Option Line
known_with (Some number) = Some (Happened (event.Known number))
known_with None = None

-- `c`: the submission, the member and its status
abbrev pub member_line : List ℕ → Option Line
member_line text =
    member_with (numeral 10 (first_part 32 text)) (numeral 10 (first_part 32 (after 32 text))) (numeral 10 (after 32 (after 32 text)))

-- `C`: the submission and its status
abbrev pub ended_line : List ℕ → Option Line
ended_line text = ended_with (numeral 10 (first_part 32 text)) (numeral 10 (after 32 text))

-- `W`: the submission
abbrev pub watched_line : List ℕ → Option Line
watched_line text = watched_with (numeral 10 text)

-- `K`: the submission
abbrev pub known_line : List ℕ → Option Line
known_line text = known_with (numeral 10 text)

-- by the letter: S, W, c, C, K
abbrev pub line_by : ℕ → List ℕ → Option Line
line_by letter rest =
    if letter == 83 then submitted_line rest else
    if letter == 87 then watched_line rest else
    if letter == 99 then member_line rest else
    if letter == 67 then ended_line rest else
    if letter == 75 then known_line rest else None

-- a letter, a blank, and the rest
abbrev pub line_of : List ℕ → Option Line
line_of [] = None
line_of (c ∷ []) = None
line_of (c ∷ d ∷ rest) = if d == 32 then line_by c rest else None

-- ---- a text

-- each line ends with a newline, and these are the events of the lines up to what is left
abbrev pub SpellsUpTo : List ℕ → List Line → List ℕ → Type 0
SpellsUpTo text [] left = text ≡ left
SpellsUpTo text (l ∷ ls) left =
    (before 10 text < length text) × (line_of (first_part 10 text) ≡ Some l) × SpellsUpTo (after 10 text) ls left

-- the text has these lines
abbrev pub Spells : List ℕ → List Line → Type 0
Spells text lines = SpellsUpTo text lines []

-- the line of this index is the first that is none of an event, or does not end
pub record IsBadLine (text : List ℕ) (k : ℕ) : Type 0 where
  pub lines : List Line
  pub count : length lines ≡ k
  pub left : List ℕ
  pub spelled : SpellsUpTo text lines left
  pub more : 0 < length left
  pub bad : (before 10 left ≡ length left) ⊎ (line_of (first_part 10 left) ≡ None)

-- why a text is none of events; an allocation may fail whatever it is
abbrev pub IsLinesFault : List ℕ → LinesFault → Type 0
IsLinesFault text (fault.Line k) = IsBadLine text k
IsLinesFault text fault.Memory = Unit
