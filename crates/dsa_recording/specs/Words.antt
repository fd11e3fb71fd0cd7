-- The words of a report on a recording (this project's choice): of each finding where it is, how severe, what, and why.
use Rattle.std.specs.Prelude.{ℕ, ◌+◌, ◌-◌, ◌*◌, ◌/◌, ◌%◌, ◌^◌, ◌==◌, Bool, true, false, ◌||◌, List, [], ◌∷◌, ◌++◌, codes, decimal, slice_get, Option, Some, None, if◌then◌else◌}
use Rattle.dsa_audit.specs.declared.member.Unseen.{Unseen}
use Rattle.dsa_audit.specs.declared.member.Unseen.TheVariants.{Blank, Operation, Nested, Owner, Empty, Wrap}
use Rattle.dsa_ranges.specs.declared.hazards.HazardKind.{HazardKind}
use Rattle.dsa_ranges.specs.declared.hazards.HazardKind.TheVariants.{ReadAfterWrite, WriteAfterRead, WriteAfterWrite}
use Rattle.dsa_recording.specs.declared.detail.Detail.{Detail}
use Rattle.dsa_recording.specs.declared.detail.Conflict.{Conflict}
use Rattle.dsa_recording.specs.declared.findings.FindingKind.{FindingKind}
use Rattle.dsa_recording.specs.declared.findings.FindingKind.TheVariants.{NotSeen, MissingFence, GuardingFence, SignallingFence, GuardingAndSignallingFence, NeedlessFence, Repeated, Flawed}
use Rattle.dsa_lines.specs.Numbers.{hex}
use Rattle.dsa_recording.specs.Details.{named_by}
use Rattle.dsa_recording.specs.EntryWords.{bytes_words, descriptor_words, operation_words}
use Rattle.dsa_recording.specs.declared.findings.Flaw.{Flaw}
use Rattle.dsa_recording.specs.declared.findings.Flaw.TheVariants.{SharedRecord, OverwritesBatch, DataOverRecord, MisalignedRecord, ReservedBytes, SmallBatch, FenceWithoutEffect}
use Rattle.dsa_recording.specs.declared.findings.Place.{Place}
use Rattle.dsa_recording.specs.declared.findings.Place.TheVariants.{Head, Member}
use Rattle.dsa_recording.specs.declared.words.Severity.{Severity}
use Rattle.dsa_recording.specs.declared.words.Severity.TheVariants.{Error, Warning, Note, Accepted}
use Rattle.dsa_recording.specs.declared.words.Denied.{Denied}

-- ---- where

-- which member it is, or that it is none
abbrev pub member_words : Bool → Place → List ℕ
member_words is_batch Head = codes ", its descriptor)"
member_words true (Member k) = codes ", member " ++ (decimal k ++ codes ")")
member_words false (Member k) = codes ", lone)"

-- the number of the entry and of its submission, and what follows
abbrev pub entry_words : ℕ → ℕ → List ℕ → List ℕ
entry_words entry submission after = codes "entry " ++ (decimal entry ++ (codes " (submission " ++ (decimal submission ++ after)))

-- where a finding is
abbrev pub place_words : Detail → List ℕ
place_words d = entry_words d.entry d.submission (member_words d.is_batch d.place)

-- ---- how severe

-- an error if it is denied
abbrev pub note_unless : Bool → Severity
note_unless denied = if denied then Error else Note

-- how severe each kind of finding is; this alone decides what is an error: a missing fence, a flaw, and what is denied
abbrev pub severity_of : {E : Type 0} → Denied → FindingKind E → Severity
severity_of denied (NotSeen why) = if denied.unseen then Error else Warning
severity_of denied (MissingFence conflict) = Error
severity_of denied (GuardingFence earlier) = note_unless denied.guarding
severity_of denied (SignallingFence awaited) = note_unless denied.signalling
severity_of denied (GuardingAndSignallingFence earlier awaited) = note_unless (denied.guarding || denied.signalling)
severity_of denied NeedlessFence = note_unless denied.needless
severity_of denied (Repeated earlier) = Note
severity_of denied (Flawed flaw) = Error

-- it is an error
abbrev pub is_error : Severity → Bool
is_error Error = true
is_error Warning = false
is_error Note = false
is_error Accepted = false

-- what is accepted is no error
abbrev pub severity_with : Bool → Severity → Severity
severity_with true Error = Accepted
severity_with true Warning = Warning
severity_with true Note = Note
severity_with true Accepted = Accepted
severity_with false severity = severity

-- its word
abbrev pub severity_words : Severity → List ℕ
severity_words Error = codes ": error: "
severity_words Warning = codes ": warning: "
severity_words Note = codes ": note: "
severity_words Accepted = codes ": accepted: "

-- ---- what, and why

-- why a member is not looked at
abbrev pub unseen_words : Unseen → ℕ → List ℕ
unseen_words Blank code = codes "not looked at: 64 zero bytes"
unseen_words Operation code = codes "not looked at: " ++ operation_words code
unseen_words Nested code = codes "not looked at: a batch in a batch"
unseen_words Owner code = codes "not looked at: another PASID or privilege than its batch"
unseen_words Empty code = codes "not looked at: size 0"
unseen_words Wrap code = codes "not looked at: data or completion record past the last address"

-- that a fence is missing, and why
abbrev pub hazard_words : HazardKind → ℕ → ℕ → List ℕ
hazard_words ReadAfterWrite earlier address =
    codes "missing fence, read after write: reads what member " ++ (decimal earlier ++ (codes " writes, at " ++ hex address))
hazard_words WriteAfterRead earlier address =
    codes "missing fence, write after read: writes what member " ++ (decimal earlier ++ (codes " reads, at " ++ hex address))
hazard_words WriteAfterWrite earlier address =
    codes "missing fence, write after write: writes what member " ++ (decimal earlier ++ (codes " writes, at " ++ hex address))

-- that a fence is needless, at once or with the missing ones
abbrev pub needless_words : Bool → List ℕ
needless_words true = codes "needless fence"
needless_words false = codes "needless fence, once the missing fences of its batch are set"

-- that a fence guards against a member
abbrev pub guarding_words : ℕ → List ℕ
guarding_words earlier = codes "guarding fence: member " ++ (decimal earlier ++ codes " can fail")

-- that a member can be awaited by it
abbrev pub signalling_words : ℕ → List ℕ
signalling_words awaited = codes "signalling fence: member " ++ (decimal awaited ++ codes " can be awaited")

-- both
abbrev pub both_words : ℕ → ℕ → List ℕ
both_words earlier awaited =
    codes "guarding and signalling fence: member " ++ (decimal earlier ++ (codes " can fail, member " ++ (decimal awaited
    ++ codes " can be awaited")))

-- that a member does what an earlier one does
abbrev pub repeated_words : ℕ → List ℕ
repeated_words earlier =
    codes "repeated operation: member " ++ (decimal earlier ++ codes " does the same")

-- of a batch without members what else may be wrong: one that was refused is recorded without them
abbrev pub refused_words : ℕ → List ℕ
refused_words size =
    if size == 0 then codes ", at most as many as its queue takes, and a list that can be read" else []

-- what is wrong beside fences
abbrev pub flaw_words : Flaw → List ℕ
flaw_words (SharedRecord earlier) =
    codes "shared record, use another: it and member " ++ (decimal earlier ++ codes " meet in a completion record")
flaw_words OverwritesBatch = codes "overwrites its batch: it writes the descriptors or the completion record of its batch"
flaw_words DataOverRecord = codes "data over its own completion record"
flaw_words MisalignedRecord = codes "misaligned record: its address is no multiple of 32"
flaw_words ReservedBytes =
    codes "reserved bytes set: clear bytes 16 to 35 and 38 to 63, or begin the recording at an entry"
flaw_words (SmallBatch size) =
    codes "batch of " ++ (decimal size ++ (codes ": a batch has two members at least" ++ refused_words size))
flaw_words FenceWithoutEffect = codes "fence without effect: wait for earlier submissions in its place"

-- `complete`: no fence of its submission is missing
abbrev pub cause_words : Bool → ℕ → FindingKind Conflict → List ℕ
cause_words complete code (NotSeen why) = unseen_words why code
cause_words complete code (MissingFence conflict) =
    hazard_words conflict.hazard.kind conflict.earlier conflict.hazard.address
cause_words complete code (GuardingFence earlier) = guarding_words earlier
cause_words complete code (SignallingFence awaited) = signalling_words awaited
cause_words complete code (GuardingAndSignallingFence earlier awaited) = both_words earlier awaited
cause_words complete code NeedlessFence = needless_words complete
cause_words complete code (Repeated earlier) = repeated_words earlier
cause_words complete code (Flawed flaw) = flaw_words flaw

-- of an owner, bytes 0 to 3 of an entry, bits 0 to 19 are the PASID, and bit 31 is the privilege (specification 341204)
abbrev pub privilege_words : ℕ → List ℕ
privilege_words owner = if owner / 2 ^ 31 == 1 then codes " privileged" else []

-- of another owner than the batch's: which, and not which
abbrev pub owners_words : Unseen → ℕ → ℕ → List ℕ
owners_words Owner owner head =
    codes ": PASID " ++ (decimal (owner % 2 ^ 20) ++ (privilege_words owner
    ++ (codes ", not PASID " ++ (decimal (head % 2 ^ 20) ++ privilege_words head))))
owners_words Blank owner head = []
owners_words Operation owner head = []
owners_words Nested owner head = []
owners_words Empty owner head = []
owners_words Wrap owner head = []

-- whose completion record has the shared address: that of the earlier one, which has this name and number, or its own
abbrev pub record_words : Bool → Bool → List ℕ → ℕ → List ℕ
record_words false false name earlier = []
record_words true false name earlier = codes ", in the record of " ++ (name ++ decimal earlier)
record_words false true name earlier = codes ", in its own record"
record_words true true name earlier = codes ", in its own record and that of " ++ (name ++ decimal earlier)

-- how many bytes conflict from the address on
abbrev pub overlap_words : ℕ → List ℕ
overlap_words bytes = codes " (" ++ (bytes_words bytes ++ codes ")")

-- the address of the completion record that a flaw is about
abbrev pub flaw_place_words : ℕ → Flaw → List ℕ
flaw_place_words address (SharedRecord earlier) = codes ", at " ++ hex address
flaw_place_words address OverwritesBatch = []
flaw_place_words address DataOverRecord = codes ", at " ++ hex address
flaw_place_words address MisalignedRecord = codes ", at " ++ hex address
flaw_place_words address ReservedBytes = []
flaw_place_words address (SmallBatch size) = []
flaw_place_words address FenceWithoutEffect = []

-- what is said after the cause
abbrev pub more_words : Detail → FindingKind Conflict → List ℕ
more_words d (NotSeen why) = owners_words why d.owner d.head_owner
more_words d (MissingFence conflict) =
    overlap_words d.overlap ++ record_words d.records.earlier d.records.later (codes "member ") conflict.earlier
more_words d (GuardingFence earlier) = []
more_words d (SignallingFence awaited) = []
more_words d (GuardingAndSignallingFence earlier awaited) = []
more_words d NeedlessFence = []
more_words d (Repeated earlier) = []
more_words d (Flawed flaw) = flaw_place_words d.record_at flaw

-- ---- the lines of a finding

-- an entry of the recording: its number, where its bytes begin, and what it does
abbrev pub entry_line : ℕ → Option (List ℕ) → List ℕ
entry_line n None = []
entry_line n (Some e) =
    codes "  entry " ++ (decimal n ++ (codes ", byte " ++ (decimal (n * 64) ++ (codes ": " ++ (descriptor_words e ++ 10 ∷ [])))))

-- that of another member of the submission, in the entries of a recording from number `from` on
abbrev pub other_line : ℕ → List (List ℕ) → Detail → ℕ → List ℕ
other_line from es d m =
    if d.first + m == d.entry then [] else entry_line (d.first + m) (slice_get es (d.first + m - from))

-- those of members
abbrev pub other_lines : ℕ → List (List ℕ) → Detail → List ℕ → List ℕ
other_lines from es d [] = []
other_lines from es d (m ∷ ms) = other_line from es d m ++ other_lines from es d ms

-- what is found
abbrev pub finding_line : Severity → Bool → Detail → List ℕ
finding_line severity complete d =
    place_words d
    ++ (severity_words severity ++ (cause_words complete d.code d.cause ++ (more_words d d.cause ++ 10 ∷ [])))

-- the same, with its entry and those that it names
abbrev pub finding_words : Severity → Bool → ℕ → List (List ℕ) → Detail → List ℕ
finding_words severity complete from es d =
    finding_line severity complete d
    ++ (entry_line d.entry (slice_get es (d.entry - from)) ++ other_lines from es d (named_by d.cause))
