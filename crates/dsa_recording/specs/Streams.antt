-- A recording of what was submitted (this project's choice): entries of 64 bytes in the order of submission, and after
-- the descriptor of a batch its members.
use Rattle.std.specs.Prelude.{◌≡◌, ◌≢◌, ℕ, ◌+◌, ◌%◌, ◌<◌, ◌≤◌, List, [], ◌∷◌, true, false, length, slice_index_or, if◌then◌else◌, ◌==◌}
use Rattle.dsa_descriptor.specs.Lists.{entries}
use Rattle.dsa_descriptor.specs.Places.{u32_at, code_at}
use Rattle.dsa_recording.specs.declared.stream.Submission.{Submission}
use Rattle.dsa_recording.specs.declared.stream.StreamFault.{StreamFault}
use Rattle.dsa_recording.specs.declared.stream.StreamFault.TheVariants.{Length, CutOff, Memory}

-- the submission that begins with entry `at`: the members after it, as many as bytes 32 to 35 say, where its operation
-- code is that of a batch, 0x01 (specification 341204, batch descriptor); else the entry itself
unfoldable pub submission_at : List (List ℕ) → ℕ → Submission
submission_at es at =
    if code_at (slice_index_or es at []) == 1
    then record { first = at + 1; size = u32_at 32 (slice_index_or es at []); is_batch = true }
    else record { first = at; size = 1; is_batch = false }

-- the entry after a submission
abbrev pub end_of : Submission → ℕ
end_of s = s.first + s.size

-- from entry `from` on there are these submissions, one after the other, and after them is entry `to`
abbrev pub ReadsUpTo : List (List ℕ) → ℕ → List Submission → ℕ → Type 0
ReadsUpTo es from [] to = from ≡ to
ReadsUpTo es from (s ∷ ss) to =
    (from < length es) × (s ≡ submission_at es from) × (end_of s ≤ length es) × ReadsUpTo es (end_of s) ss to

-- the submission that begins with entry `at`, after complete ones, does not end before the recording does
abbrev pub IsCutOffAt : List (List ℕ) → ℕ → Type 0
IsCutOffAt es at =
    (before : List Submission) × ReadsUpTo es 0 before at × (at < length es) × (length es < end_of (submission_at es at))

-- the bytes are whole entries, and these are all their submissions
pub record ReadsStream (bytes : List ℕ) (list : List Submission) : Type 0 where
  pub whole : length bytes % 64 ≡ 0
  pub all : ReadsUpTo (entries bytes) 0 list (length (entries bytes))

-- the fault is in the bytes; an allocation may fail whatever they are
abbrev pub IsStreamFault : List ℕ → StreamFault → Type 0
IsStreamFault bytes Length = length bytes % 64 ≢ 0
IsStreamFault bytes (CutOff at) = (length bytes % 64 ≡ 0) × IsCutOffAt (entries bytes) at
IsStreamFault bytes Memory = Unit

-- ---- for private clauses

-- why reading entries ended early
abbrev pub IsStop : List (List ℕ) → StreamFault → Type 0
IsStop es Length = ⊥
IsStop es (CutOff at) = IsCutOffAt es at
IsStop es Memory = Unit
