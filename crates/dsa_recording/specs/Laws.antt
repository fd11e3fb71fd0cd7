-- What a recording says of listed operations, and a report of entries.
use Rattle.std.specs.Prelude.{◌≡◌, ℕ, max, true, List, ◌++◌}
use Rattle.dsa_descriptor.specs.Lists.{AgreeOnOwner}
use Rattle.dsa_audit.specs.declared.hazard.Hazards.{Hazards}
use Rattle.dsa_ranges.specs.declared.span.Touched.{Touched}
use Rattle.dsa_audit.specs.Members.{AreHazardsBetween}
use Rattle.dsa_audit.specs.declared.member.Member.{Member}
use Rattle.dsa_audit.specs.declared.member.Member.TheVariants.{Known}
use Rattle.dsa_operations.specs.declared.operation.Operation.{Operation}
use Rattle.dsa_operations.specs.Operations.{spelling_of, reads_of, writes_of}
use Rattle.std.specs.List.{AllByRecursion}
use Rattle.dsa_descriptor.specs.Lists.{entries}
use Rattle.dsa_recording.specs.declared.answer.AuditOptions.{AuditOptions}
use Rattle.dsa_recording.specs.declared.member.Aspect.TheVariants.{Whole}
use Rattle.dsa_recording.specs.Entries.{IsMember}
use Rattle.dsa_recording.specs.declared.detail.Detail.{Detail}
use Rattle.dsa_recording.specs.declared.findings.Finding.{Finding}
use Rattle.dsa_recording.specs.declared.findings.FindingKind.TheVariants.{MissingFence}
use Rattle.dsa_recording.specs.declared.findings.Place.TheVariants.{Member as Of}
use Rattle.dsa_recording.specs.declared.stream.Submission.{Submission}
use Rattle.dsa_recording.specs.Details.{Describes, HasEntry, IsPlaced}
use Rattle.dsa_recording.specs.EntryKeys.{fence_key}
use Rattle.dsa_recording.specs.Keys.{key_words}
use Rattle.dsa_recording.specs.Pairs.{Terms}
use Rattle.dsa_recording.specs.Parts.{HasStatus}
use Rattle.dsa_recording.specs.Reports.{IsReport, Reported}
use Rattle.dsa_recording.specs.Submissions.{IsWithin, members_in}

-- the entry of an operation of a list, in a batch of its owner, is looked at, and what is known of it is what the operation
-- reads and writes
abbrev pub ListedAreKnown : Type 0
ListedAreKnown =
    (o : Operation) (head : List ℕ) (m : Member) → AgreeOnOwner head (spelling_of o) → IsMember Whole head (spelling_of o) m →
    (t : Touched) × (m ≡ Known t) × (t.reads.items ≡ reads_of o) × (t.writes.items ≡ writes_of o)

-- if one recording follows another, the status of both is the greater one
abbrev pub StatusesJoin : Type 0
StatusesJoin =
    (options : AuditOptions) (a b : List ℕ) (s t : ℕ) → HasStatus options a s → HasStatus options b t → HasStatus options (a ++ b) (max s t)

-- each finding of a report on a recording is of an entry, and a missing fence has a known conflict
abbrev pub FindingsArePlaced : Type 0
FindingsArePlaced =
    (terms : Terms) (bytes : List ℕ) (r : Reported) → IsReport terms bytes r → AllByRecursion (IsPlaced (entries bytes) r) r.findings

-- the key of a missing fence that is found in a batch is the one by which its two members are accepted
abbrev pub FenceKeysAgree : Type 0
FenceKeysAgree =
    (es : List (List ℕ)) (s : Submission) (ms : List Member) (f : Finding) (d : Detail) (earlier later : ℕ) →
    s.is_batch ≡ true → IsWithin es s → f.place ≡ Of later → f.kind ≡ MissingFence earlier → HasEntry es s ms f → Describes es s ms f d →
    (hs : Hazards) × AreHazardsBetween ms earlier later hs × (key_words es d ≡ fence_key (members_in es s) earlier later hs)
