-- Recordings of what was written to a portal alone, with dumps of the memory that holds the members of batches (this
-- project's choice).
use Rattle.std.specs.Prelude.{◌≡◌, ◌≢◌, ℕ, ◌+◌, ◌-◌, ◌*◌, ◌%◌, ◌<◌, ◌≤◌, ◌&&◌, ◌⊎◌, nat_le, Bool, List, [], ◌∷◌, ◌++◌, length, take, slice_range, slice_index_or, Option, Some, None, if◌then◌else◌, ◌==◌}
use Rattle.dsa_descriptor.specs.Lists.{entries}
use Rattle.dsa_descriptor.specs.Places.{u32_at, u64_at, code_at}
use Rattle.dsa_recording.specs.declared.answer.AuditAnswer.{AuditAnswer}
use Rattle.dsa_recording.specs.declared.answer.AuditOptions.{AuditOptions}
use Rattle.dsa_recording.specs.declared.dumps.Dump.{Dump}
use Rattle.dsa_recording.specs.declared.dumps.StagingFault.{StagingFault}
use Rattle.dsa_recording.specs.declared.dumps.StagingFault.TheVariants.{Length, Unstaged, TooLong, Memory}
use Rattle.dsa_recording.specs.Answers.{AnswersRecording, Refuses}
use Rattle.dsa_recording.specs.Inputs.{IsRefused, SpellsRecording}

-- ---- memory

-- the dump has so many bytes from that address on
abbrev pub covers : ℕ → ℕ → Dump → Bool
covers at size d = nat_le d.address at && nat_le (at - d.address + size) (length d.bytes.items)

-- these bytes of it
abbrev pub part_of : ℕ → ℕ → Dump → List ℕ
part_of at size d = slice_range d.bytes.items (at - d.address) (at - d.address + size)

-- those of the first dump that has all of them; no bytes are in no dump
unfoldable pub bytes_at : ℕ → ℕ → List Dump → Option (List ℕ)
bytes_at at size [] = if size == 0 then Some [] else None
bytes_at at size (d ∷ ds) = if covers at size d then Some (part_of at size d) else bytes_at at size ds

-- ---- the stream

-- bytes after others, if there are any
abbrev pub put_before : List ℕ → Option (List ℕ) → Option (List ℕ)
put_before front None = None
put_before front (Some back) = Some (front ++ back)

-- an entry of a portal, and after the descriptor of a batch (0x01) its members, which are in memory at the address of
-- bytes 16 to 23, as many as bytes 32 to 35 say (specification 341204, batch descriptor)
abbrev pub with_members : List Dump → List ℕ → Option (List ℕ)
with_members ds e = if code_at e == 1 then put_before e (bytes_at (u64_at 16 e) (64 * u32_at 32 e) ds) else Some e

-- two parts, if both are there
abbrev pub joined : Option (List ℕ) → Option (List ℕ) → Option (List ℕ)
joined None back = None
joined (Some front) back = put_before front back

-- all entries with their members
unfoldable pub stream_of : List Dump → List (List ℕ) → Option (List ℕ)
stream_of ds [] = Some []
stream_of ds (e ∷ es) = joined (with_members ds e) (stream_of ds es)

-- the most bytes of a stream, as of a recording
abbrev pub longest_stream : ℕ
longest_stream = 67108864

-- the portal is whole entries, and these are all its entries and their members, which are not too many
pub record StagesStream (ds : List Dump) (portal stream : List ℕ) : Type 0 where
  pub whole : length portal % 64 ≡ 0
  pub all : stream_of ds (entries portal) ≡ Some stream
  pub few : length stream ≤ longest_stream

-- these are the entries before this one and their members, which are not too many
pub record StagesBefore (ds : List Dump) (es : List (List ℕ)) (at : ℕ) (front : List ℕ) : Type 0 where
  pub inside : at < length es
  pub all : stream_of ds (take at es) ≡ Some front
  pub few : length front ≤ longest_stream

-- the first entry for which there is no stream: no dump has the members of this batch, or the stream would be too long
-- with this entry and its members
abbrev pub IsFirstUnstaged : List Dump → List (List ℕ) → ℕ → Type 0
IsFirstUnstaged ds es at =
    (front : List ℕ) × StagesBefore ds es at front × (with_members ds (slice_index_or es at []) ≡ None)

-- or with it and its members the stream has too many bytes
abbrev pub IsFirstTooLong : List Dump → List (List ℕ) → ℕ → Type 0
IsFirstTooLong ds es at =
    (front more : List ℕ) × StagesBefore ds es at front × (with_members ds (slice_index_or es at []) ≡ Some more)
    × (longest_stream < length front + length more)

-- why there is no stream: the portal is no whole entries; else the first entry for which there is none
abbrev pub IsStagingFault : List Dump → List ℕ → StagingFault → Type 0
IsStagingFault ds portal Length = length portal % 64 ≢ 0
IsStagingFault ds portal (Unstaged at) = (length portal % 64 ≡ 0) × IsFirstUnstaged ds (entries portal) at
IsStagingFault ds portal (TooLong at) = (length portal % 64 ≡ 0) × IsFirstTooLong ds (entries portal) at
IsStagingFault ds portal Memory = Unit

-- ---- the answer

-- the answer of a portal: that of its entries with their members; or it is refused, and they make no stream
abbrev pub AnswersPortal : AuditOptions → List Dump → List ℕ → AuditAnswer → Type 0
AnswersPortal options ds portal answer =
    ((stream : List ℕ) × StagesStream ds portal stream × AnswersRecording options stream answer)
    ⊎ (Refuses answer × ((stream : List ℕ) → ¬ StagesStream ds portal stream))

-- the answer of an input that has what was written to a portal: that of the bytes that it spells; or it is refused
abbrev pub AnswersStaged : AuditOptions → List Dump → List ℕ → AuditAnswer → Type 0
AnswersStaged options ds input answer =
    ((portal : List ℕ) × SpellsRecording input portal × AnswersPortal options ds portal answer) ⊎ IsRefused input answer

-- ---- for private clauses

-- why reading entries ended early
abbrev pub IsUnstaged : List Dump → List (List ℕ) → StagingFault → Type 0
IsUnstaged ds es Length = ⊥
IsUnstaged ds es (Unstaged at) = IsFirstUnstaged ds es at
IsUnstaged ds es (TooLong at) = IsFirstTooLong ds es at
IsUnstaged ds es Memory = Unit
