-- What findings of one kind have in common (this project's choice).
use Rattle.std.specs.Prelude.{ℕ, ◌+◌, ◌==◌, Bool, true, false, List, [], ◌∷◌, ◌++◌, codes, slice_get, if◌then◌else◌}
use Rattle.dsa_audit.specs.declared.hazard.Hazards.{Hazards}
use Rattle.dsa_recording.specs.declared.detail.Detail.{Detail}
use Rattle.dsa_recording.specs.declared.findings.FindingKind.{FindingKind}
use Rattle.dsa_recording.specs.declared.findings.FindingKind.TheVariants.{NotSeen, MissingFence, GuardingFence, SignallingFence, GuardingAndSignallingFence, NeedlessFence, Repeated, Flawed}
use Rattle.dsa_recording.specs.declared.findings.Flaw.{Flaw}
use Rattle.dsa_recording.specs.declared.findings.Flaw.TheVariants.{SharedRecord, OverwritesBatch, DataOverRecord, MisalignedRecord, ReservedBytes, SmallBatch, FenceWithoutEffect}
use Rattle.dsa_recording.specs.declared.findings.Place.{Place}
use Rattle.dsa_recording.specs.declared.findings.Place.TheVariants.{Head, Member}
use Rattle.dsa_recording.specs.Details.{named_by}
use Rattle.dsa_recording.specs.EntryKeys.{batch_key, entry_key, fence_words, member_key}
use Rattle.dsa_recording.specs.Words.{unseen_words}

-- what the finding is of, in a submission of so many members
abbrev pub place_key : List (List ℕ) → Detail → Bool → Place → List ℕ
place_key es d is_batch Head = batch_key d.size
place_key es d true (Member m) = batch_key d.size ++ member_key es d.first m
place_key es d false (Member m) = codes "; lone: " ++ entry_key (slice_get es d.first)

-- another member that the cause names
abbrev pub other_key : List (List ℕ) → Detail → ℕ → List ℕ
other_key es d m = if d.first + m == d.entry then [] else member_key es d.first m

-- what else is wrong
abbrev pub flaw_key : Flaw → List ℕ
flaw_key (SharedRecord earlier) = codes "shared record"
flaw_key OverwritesBatch = codes "overwrites its batch"
flaw_key DataOverRecord = codes "data over its own completion record"
flaw_key MisalignedRecord = codes "misaligned record"
flaw_key ReservedBytes = codes "reserved bytes set"
flaw_key (SmallBatch size) = codes "small batch"
flaw_key FenceWithoutEffect = codes "fence without effect"

-- what is found; of a missing fence with these hazards
abbrev pub cause_key : {E : Type 0} → ℕ → Hazards → FindingKind E → List ℕ
cause_key code hs (NotSeen why) = unseen_words why code
cause_key code hs (MissingFence conflict) = fence_words hs
cause_key code hs (GuardingFence earlier) = codes "guarding fence"
cause_key code hs (SignallingFence awaited) = codes "signalling fence"
cause_key code hs (GuardingAndSignallingFence earlier awaited) = codes "guarding and signalling fence"
cause_key code hs NeedlessFence = codes "needless fence"
cause_key code hs (Repeated earlier) = codes "repeated operation"
cause_key code hs (Flawed flaw) = flaw_key flaw

-- those of members
abbrev pub others_key : List (List ℕ) → Detail → List ℕ → List ℕ
others_key es d [] = []
others_key es d (m ∷ ms) = other_key es d m ++ others_key es d ms

-- the key of a finding in these entries
abbrev pub key_words : List (List ℕ) → Detail → List ℕ
key_words es d = cause_key d.code d.hazards d.cause ++ (place_key es d d.is_batch d.place ++ others_key es d (named_by d.cause))
