-- What an audit of a recording finds (this project's choice).
use Rattle.std.specs.Prelude.{ℕ, suc, zero, ◌≡◌, nat_lt, if◌then◌else◌, Bool, List, [], ◌∷◌, ◌++◌, Option, Some, None, length, get_or}
use Rattle.dsa_audit.specs.declared.member.Member.{Member as KnownMember}
use Rattle.dsa_audit.specs.declared.member.Member.TheVariants as member
use Rattle.dsa_audit.specs.declared.member.Unseen.TheVariants.{Operation}
use Rattle.dsa_audit.specs.declared.missing.FencePlace.{FencePlace}
use Rattle.dsa_audit.specs.declared.missing.FencePlace.TheVariants as fence_place
use Rattle.dsa_audit.specs.declared.needless.FenceUse.{FenceUse}
use Rattle.dsa_audit.specs.declared.needless.FenceUse.TheVariants as fence_use
use Rattle.dsa_recording.specs.declared.findings.FindingKind.{FindingKind}
use Rattle.dsa_recording.specs.declared.findings.FindingKind.TheVariants.{NotSeen, MissingFence, GuardingFence, SignallingFence, GuardingAndSignallingFence, NeedlessFence, Repeated, Flawed}
use Rattle.dsa_recording.specs.declared.findings.Finding.{Finding}
use Rattle.dsa_recording.specs.declared.findings.Flaw.{Flaw}
use Rattle.dsa_recording.specs.declared.findings.Flaw.TheVariants.{SharedRecord, OverwritesBatch, DataOverRecord, MisalignedRecord, ReservedBytes, SmallBatch, FenceWithoutEffect}
use Rattle.dsa_recording.specs.declared.findings.Place.{Place}
use Rattle.dsa_recording.specs.declared.findings.Place.TheVariants.{Head, Member}
use Rattle.dsa_recording.specs.Flaws.{no_flaws}
use Rattle.dsa_recording.specs.declared.submission.Audited.{Audited}

-- whether a member is not looked at
abbrev pub unseen_kind : KnownMember → Option (FindingKind ℕ)
unseen_kind (member.Known touched) = None
unseen_kind (member.Unknown why) = Some (NotSeen why)

-- whether a fence is missing before the member
abbrev pub missing_kind : FencePlace → Option (FindingKind ℕ)
missing_kind fence_place.NoFence = None
missing_kind fence_place.Given = None
missing_kind (fence_place.Missing earlier) = Some (MissingFence earlier)

-- whether one is that is accepted
abbrev pub accepted_kind : Option ℕ → Option (FindingKind ℕ)
accepted_kind None = None
accepted_kind (Some earlier) = Some (MissingFence earlier)

-- whether no conflict needs its fence, and what it is for then; that of a lone descriptor has no effect
abbrev pub use_kind : Bool → FenceUse → Option (FindingKind ℕ)
use_kind is_batch fence_use.NoFence = None
use_kind is_batch fence_use.Needless = if is_batch then Some NeedlessFence else Some (Flawed FenceWithoutEffect)
use_kind is_batch (fence_use.Guarding earlier) = Some (GuardingFence earlier)
use_kind is_batch (fence_use.Signalling awaited) = Some (SignallingFence awaited)
use_kind is_batch (fence_use.GuardingAndSignalling earlier awaited) = Some (GuardingAndSignallingFence earlier awaited)
use_kind is_batch fence_use.Held = None
use_kind is_batch (fence_use.Needed earlier later) = None

-- the member shares a record with an earlier one
abbrev pub shared_kind : Option ℕ → Option (FindingKind ℕ)
shared_kind None = None
shared_kind (Some earlier) = Some (Flawed (SharedRecord earlier))

-- the member does what an earlier one does
abbrev pub repeated_kind : Option ℕ → Option (FindingKind ℕ)
repeated_kind None = None
repeated_kind (Some earlier) = Some (Repeated earlier)

-- a flaw that is there
abbrev pub flaw_kind : Flaw → Bool → Option (FindingKind ℕ)
flaw_kind flaw is_there = if is_there then Some (Flawed flaw) else None

-- a batch has at least two members (specification 341204, batch descriptor)
abbrev pub size_kind : ℕ → Option (FindingKind ℕ)
size_kind size = flaw_kind (SmallBatch size) (nat_lt size 2)

-- what may be found of the descriptor of a batch, in this order
abbrev pub head_kinds : Audited → List (Option (FindingKind ℕ))
head_kinds a =
    size_kind (length a.members.items) ∷ flaw_kind MisalignedRecord a.is_head_misaligned
    ∷ flaw_kind FenceWithoutEffect a.is_head_fenced ∷ []

-- of member k, in this order
abbrev pub member_kinds : Audited → ℕ → List (Option (FindingKind ℕ))
member_kinds a k =
    unseen_kind (get_or a.members.items k (member.Unknown Operation))
    ∷ shared_kind (get_or a.shared.items k None)
    ∷ flaw_kind OverwritesBatch (get_or a.flaws.items k no_flaws).overwrites_batch
    ∷ flaw_kind DataOverRecord (get_or a.flaws.items k no_flaws).data_over_record
    ∷ flaw_kind MisalignedRecord (get_or a.flaws.items k no_flaws).misaligned_record
    ∷ flaw_kind ReservedBytes (get_or a.flaws.items k no_flaws).reserved_bytes
    ∷ repeated_kind (get_or a.audit.repeated.items k None)
    ∷ accepted_kind (get_or a.audit.accepted.items k None)
    ∷ missing_kind (get_or a.audit.corrected.places.items k fence_place.NoFence)
    ∷ use_kind a.is_batch (get_or a.audit.reduced.uses.items k fence_use.NoFence) ∷ []

-- the finding of a place, if there is one
abbrev pub finding_of : ℕ → Place → Option (FindingKind ℕ) → List Finding
finding_of number place None = []
finding_of number place (Some kind) = record { submission = number; place = place; kind = kind } ∷ []

-- the findings of a place, in the order of the kinds
abbrev pub all_found : ℕ → Place → List (Option (FindingKind ℕ)) → List Finding
all_found number place [] = []
all_found number place (kind ∷ kinds) = finding_of number place kind ++ all_found number place kinds

-- those of the first members of a submission, in their order
abbrev pub findings_upto : ℕ → Audited → ℕ → List Finding
findings_upto number a zero = []
findings_upto number a (suc k) = findings_upto number a k ++ all_found number (Member k) (member_kinds a k)

-- those of the descriptor of a batch
abbrev pub head_findings : ℕ → Audited → List Finding
head_findings number a = if a.is_batch then all_found number Head (head_kinds a) else []

-- all of a submission
abbrev pub submission_findings : ℕ → Audited → List Finding
submission_findings number a = head_findings number a ++ findings_upto number a (length a.members.items)

-- those of submissions, of which the first has that number
abbrev pub recording_findings : ℕ → List Audited → List Finding
recording_findings number [] = []
recording_findings number (a ∷ audits) = submission_findings number a ++ recording_findings (suc number) audits

-- something is said of each member
pub record HasAll (a : Audited) : Type 0 where
  pub shared : length a.shared.items ≡ length a.members.items
  pub flaws : length a.flaws.items ≡ length a.members.items
  pub repeated : length a.audit.repeated.items ≡ length a.members.items
  pub accepted : length a.audit.accepted.items ≡ length a.members.items
  pub places : length a.audit.corrected.places.items ≡ length a.members.items
  pub uses : length a.audit.reduced.uses.items ≡ length a.members.items
