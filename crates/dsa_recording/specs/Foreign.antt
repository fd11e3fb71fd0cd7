-- Recordings whose batches have entries that cannot be members: what was written to a portal, without the members of its
-- batches, looks like that (this project's choice).
use Rattle.std.specs.Prelude.{ℕ, ◌≡◌, ◌≢◌, ◌⊎◌, ◌<◌, ◌≤◌, List, [], Some, replicate, slice_get, slice_index_or}
use Rattle.dsa_descriptor.specs.Lists.{AgreeOnOwner, entries}
use Rattle.dsa_descriptor.specs.Places.{code_at}
use Rattle.dsa_recording.specs.declared.answer.AuditAnswer.{AuditAnswer}
use Rattle.dsa_recording.specs.declared.answer.AuditOptions.{AuditOptions}
use Rattle.dsa_recording.specs.declared.stream.Submission.{Submission}
use Rattle.dsa_recording.specs.Answers.{AnswersRecording, Refuses}
use Rattle.dsa_recording.specs.Streams.{ReadsStream, end_of}
use Rattle.dsa_recording.specs.Submissions.{head_at}

-- an entry that is not all zero cannot be a member of a batch with this descriptor: it is a batch itself (0x01), or its
-- PASID or its privilege is another (specification 341204, batch descriptor)
abbrev pub IsForeign : List ℕ → List ℕ → Type 0
IsForeign head e = (e ≢ replicate 64 0) × ((code_at e ≡ 1) ⊎ (¬ AgreeOnOwner head e))

-- an entry of the submission cannot be its member
pub record HasForeign (es : List (List ℕ)) (s : Submission) : Type 0 where
  pub at : ℕ
  pub begun : s.first ≤ at
  pub within : at < end_of s
  pub foreign : IsForeign (slice_index_or es (head_at s) []) (slice_index_or es at [])

-- this is so of one of the submissions
pub record LacksSome (es : List (List ℕ)) (ss : List Submission) : Type 0 where
  pub number : ℕ
  pub submission : Submission
  pub there : slice_get ss number ≡ Some submission
  pub lacks : HasForeign es submission

-- the bytes are a recording, and this is so of one of its submissions
abbrev pub LacksMembers : List ℕ → Type 0
LacksMembers bytes = (list : List Submission) × ReadsStream bytes list × LacksSome (entries bytes) list

-- or of none
abbrev pub HasOwnMembers : List ℕ → Type 0
HasOwnMembers bytes = (list : List Submission) → ReadsStream bytes list → ¬ LacksSome (entries bytes) list

-- the answer of entries with the members of their batches: that of a recording; or it is refused, and members are lacking
abbrev pub AnswersEntries : AuditOptions → List ℕ → AuditAnswer → Type 0
AnswersEntries options bytes answer =
    (HasOwnMembers bytes × AnswersRecording options bytes answer) ⊎ (Refuses answer × LacksMembers bytes)
