-- What a finding says of its entry.
use Rattle.std.specs.Prelude.{ℕ, ◌≡◌, ◌+◌, ◌-◌, ◌<◌, ◌≤◌, ◌&&◌, ◌||◌, ◌==◌, nat_le, nat_lt, max, min, bit_and, not, Bool, true, false, if◌then◌else◌, List, [], ◌∷◌, length, slice_get, slice_index_or, Option, Some, None}
use Rattle.dsa_descriptor.specs.declared.span.Span.{Span}
use Rattle.dsa_descriptor.specs.Places.{u32_at, u64_at, flags_at, code_at}
use Rattle.dsa_audit.specs.declared.hazard.Hazards.{Hazards}
use Rattle.dsa_audit.specs.declared.member.Member.{Member as KnownMember}
use Rattle.dsa_audit.specs.declared.missing.FencePlace.{FencePlace}
use Rattle.dsa_audit.specs.declared.missing.FencePlace.TheVariants as fence_place
use Rattle.dsa_audit.specs.Members.{AreHazardsBetween, KnownConflict, IsHazardBetween}
use Rattle.dsa_recording.specs.declared.stream.Submission.{Submission}
use Rattle.dsa_recording.specs.declared.submission.Audited.{Audited}
use Rattle.dsa_recording.specs.declared.findings.Finding.{Finding}
use Rattle.dsa_recording.specs.declared.findings.FindingKind.{FindingKind}
use Rattle.dsa_recording.specs.declared.findings.Flaw.{Flaw}
use Rattle.dsa_recording.specs.declared.findings.Flaw.TheVariants.{SharedRecord, OverwritesBatch, DataOverRecord, MisalignedRecord, ReservedBytes, SmallBatch, FenceWithoutEffect}
use Rattle.dsa_recording.specs.declared.findings.Place.{Place}
use Rattle.dsa_recording.specs.declared.findings.Place.TheVariants.{Head, Member}
use Rattle.dsa_recording.specs.declared.findings.FindingKind.TheVariants.{NotSeen, MissingFence, GuardingFence, SignallingFence, GuardingAndSignallingFence, NeedlessFence, Repeated, Flawed}
use Rattle.dsa_recording.specs.declared.detail.Conflict.{Conflict}
use Rattle.dsa_recording.specs.declared.detail.Detail.{Detail}
use Rattle.dsa_recording.specs.declared.detail.Records.{Records}
use Rattle.dsa_ranges.specs.declared.hazards.Hazard.{Hazard}
use Rattle.dsa_recording.specs.Entries.{entry_reads, entry_writes, is_checksum}
use Rattle.dsa_recording.specs.Overlaps.{overlap}
use Rattle.dsa_recording.specs.Submissions.{head_at}
use Rattle.dsa_recording.specs.Reports.{Reported}

-- a finding of a place
abbrev pub finding_at : ℕ → Place → FindingKind ℕ → Finding
finding_at number place kind = record { submission = number; place = place; kind = kind }

-- this can be wrong at the place: only a member shares a record, with an earlier one
abbrev pub IsFlawAt : Place → Flaw → Type 0
IsFlawAt Head (SharedRecord earlier) = ⊥
IsFlawAt (Member k) (SharedRecord earlier) = earlier < k
IsFlawAt place OverwritesBatch = Unit
IsFlawAt place DataOverRecord = Unit
IsFlawAt place MisalignedRecord = Unit
IsFlawAt place ReservedBytes = Unit
IsFlawAt place (SmallBatch size) = Unit
IsFlawAt place FenceWithoutEffect = Unit

-- this can be found of the descriptor of a batch: flaws alone
abbrev pub IsOfHead : FindingKind ℕ → Type 0
IsOfHead (NotSeen why) = ⊥
IsOfHead (MissingFence earlier) = ⊥
IsOfHead (GuardingFence earlier) = ⊥
IsOfHead (SignallingFence awaited) = ⊥
IsOfHead (GuardingAndSignallingFence earlier awaited) = ⊥
IsOfHead NeedlessFence = ⊥
IsOfHead (Repeated earlier) = ⊥
IsOfHead (Flawed flaw) = IsFlawAt Head flaw

-- what is found of member k can be said of members with these operands: where a fence is missing, the earlier member is
-- known to conflict with it; where one guards, or the member repeats another, that is an earlier one; where one signals,
-- it is not
abbrev pub IsOfMember : List KnownMember → ℕ → FindingKind ℕ → Type 0
IsOfMember ms k (NotSeen why) = Unit
IsOfMember ms k (MissingFence earlier) = (earlier < k) × (k < length ms) × KnownConflict ms earlier k
IsOfMember ms k (GuardingFence earlier) = earlier < k
IsOfMember ms k (SignallingFence awaited) = (k ≤ awaited) × (awaited < length ms)
IsOfMember ms k (GuardingAndSignallingFence earlier awaited) = (earlier < k) × (k ≤ awaited) × (awaited < length ms)
IsOfMember ms k NeedlessFence = Unit
IsOfMember ms k (Repeated earlier) = earlier < k
IsOfMember ms k (Flawed flaw) = IsFlawAt (Member k) flaw

-- the kind can be found of the place
abbrev pub IsOf : List KnownMember → Place → FindingKind ℕ → Type 0
IsOf ms Head kind = IsOfHead kind
IsOf ms (Member k) kind = IsOfMember ms k kind

-- the kind of what is found, without its hazard
abbrev pub kind_of : FindingKind Conflict → FindingKind ℕ
kind_of (NotSeen why) = NotSeen why
kind_of (MissingFence conflict) = MissingFence conflict.earlier
kind_of (GuardingFence earlier) = GuardingFence earlier
kind_of (SignallingFence awaited) = SignallingFence awaited
kind_of (GuardingAndSignallingFence earlier awaited) = GuardingAndSignallingFence earlier awaited
kind_of NeedlessFence = NeedlessFence
kind_of (Repeated earlier) = Repeated earlier
kind_of (Flawed flaw) = Flawed flaw

-- the other member that a flaw names
abbrev pub named_by_flaw : Flaw → List ℕ
named_by_flaw (SharedRecord earlier) = earlier ∷ []
named_by_flaw OverwritesBatch = []
named_by_flaw DataOverRecord = []
named_by_flaw MisalignedRecord = []
named_by_flaw ReservedBytes = []
named_by_flaw (SmallBatch size) = []
named_by_flaw FenceWithoutEffect = []

-- the other members that a cause names, in this order
abbrev pub named_by : FindingKind Conflict → List ℕ
named_by (NotSeen why) = []
named_by (MissingFence conflict) = conflict.earlier ∷ []
named_by (GuardingFence earlier) = earlier ∷ []
named_by (SignallingFence awaited) = awaited ∷ []
named_by (GuardingAndSignallingFence earlier awaited) = earlier ∷ awaited ∷ []
named_by NeedlessFence = []
named_by (Repeated earlier) = earlier ∷ []
named_by (Flawed flaw) = named_by_flaw flaw

-- the hazard of a missing fence before member k is between the two members
abbrev pub HasHazard : List KnownMember → ℕ → FindingKind Conflict → Type 0
HasHazard ms k (NotSeen why) = Unit
HasHazard ms k (MissingFence conflict) = IsHazardBetween ms conflict.earlier k conflict.hazard
HasHazard ms k (GuardingFence earlier) = Unit
HasHazard ms k (SignallingFence awaited) = Unit
HasHazard ms k (GuardingAndSignallingFence earlier awaited) = Unit
HasHazard ms k NeedlessFence = Unit
HasHazard ms k (Repeated earlier) = Unit
HasHazard ms k (Flawed flaw) = Unit

-- what is found of the descriptor of a batch; of a member, with the hazard of a missing fence
abbrev pub IsHeadCause : FindingKind ℕ → FindingKind Conflict → Type 0
IsHeadCause kind c = IsOfHead kind × (kind_of c ≡ kind)

-- this is found of member k: a cause of this kind, and of a missing fence its hazard
abbrev pub IsMemberCause : List KnownMember → ℕ → FindingKind ℕ → FindingKind Conflict → Type 0
IsMemberCause ms k kind c = (kind_of c ≡ kind) × HasHazard ms k c

-- this is found of the place
abbrev pub IsCause : List KnownMember → Place → FindingKind ℕ → FindingKind Conflict → Type 0
IsCause ms Head kind c = IsHeadCause kind c
IsCause ms (Member k) kind c = IsMemberCause ms k kind c

-- the entry may write a completion record that has the address
abbrev pub is_in_record : ℕ → List ℕ → Bool
is_in_record a e =
    bit_and (flags_at e) 0x04 == 0x04 && (nat_le (u64_at 8 e) a && nat_lt (a - u64_at 8 e) 32)

-- of a missing fence, whose completion record has the address: member 0 is entry `first`, and the later member entry `at`
abbrev pub shared_records : List (List ℕ) → ℕ → ℕ → FindingKind Conflict → Records
shared_records es first at (MissingFence conflict) = record {
  earlier = is_in_record conflict.hazard.address (slice_index_or es (first + conflict.earlier) []);
  later = is_in_record conflict.hazard.address (slice_index_or es at []);
}
shared_records es first at (NotSeen why) = record { earlier = false; later = false }
shared_records es first at (GuardingFence earlier) = record { earlier = false; later = false }
shared_records es first at (SignallingFence awaited) = record { earlier = false; later = false }
shared_records es first at (GuardingAndSignallingFence earlier awaited) = record { earlier = false; later = false }
shared_records es first at NeedlessFence = record { earlier = false; later = false }
shared_records es first at (Repeated earlier) = record { earlier = false; later = false }
shared_records es first at (Flawed flaw) = record { earlier = false; later = false }

-- the span has a byte of the completion record at that address
abbrev pub meets_record : ℕ → Span → Bool
meets_record a s = nat_lt (max a s.first) (min (a + 32) (s.first + s.len))

-- one of the spans has
abbrev pub any_meets : ℕ → List Span → Bool
any_meets a [] = false
any_meets a (s ∷ ss) = if meets_record a s then true else any_meets a ss

-- the second entry writes a byte of the completion record of the first, or reads one of its status, if it has a record
abbrev pub touches_record : List ℕ → List ℕ → Bool
touches_record other e =
    bit_and (flags_at other) 0x04 == 0x04
    && (any_meets (u64_at 8 other) (entry_writes e)
    || (not (is_checksum other) && any_meets (u64_at 8 other) (entry_reads e)))

-- the address of the completion record that two entries share: that of the earlier one if the later one touches it, else
-- that of the later one
abbrev pub shared_at : Option (List ℕ) → List ℕ → ℕ
shared_at None e = u64_at 8 e
shared_at (Some other) e = if touches_record other e then u64_at 8 other else u64_at 8 e

-- of a flaw of entry `at` the address of the completion record that it is about, if it is about one; member 0 is entry
-- `first`
abbrev pub flaw_record : List (List ℕ) → ℕ → ℕ → Flaw → ℕ
flaw_record es first at (SharedRecord earlier) = shared_at (slice_get es (first + earlier)) (slice_index_or es at [])
flaw_record es first at OverwritesBatch = 0
flaw_record es first at DataOverRecord = u64_at 8 (slice_index_or es at [])
flaw_record es first at MisalignedRecord = u64_at 8 (slice_index_or es at [])
flaw_record es first at ReservedBytes = 0
flaw_record es first at (SmallBatch size) = 0
flaw_record es first at FenceWithoutEffect = 0

-- of a cause
abbrev pub cause_record : List (List ℕ) → ℕ → ℕ → FindingKind Conflict → ℕ
cause_record es first at (MissingFence conflict) = 0
cause_record es first at (NotSeen why) = 0
cause_record es first at (GuardingFence earlier) = 0
cause_record es first at (SignallingFence awaited) = 0
cause_record es first at (GuardingAndSignallingFence earlier awaited) = 0
cause_record es first at NeedlessFence = 0
cause_record es first at (Repeated earlier) = 0
cause_record es first at (Flawed flaw) = flaw_record es first at flaw

-- of a missing fence, how many bytes of the two members conflict from the address on
abbrev pub overlap_between : Hazard → Option KnownMember → Option KnownMember → ℕ
overlap_between h (Some earlier) (Some later) = overlap h.kind h.address earlier later
overlap_between h (Some earlier) None = 0
overlap_between h None (Some later) = 0
overlap_between h None None = 0

-- the same of what is found of member k
abbrev pub overlap_of : List KnownMember → ℕ → FindingKind Conflict → ℕ
overlap_of ms k (MissingFence conflict) =
    overlap_between conflict.hazard (slice_get ms conflict.earlier) (slice_get ms k)
overlap_of ms k (NotSeen why) = 0
overlap_of ms k (GuardingFence earlier) = 0
overlap_of ms k (SignallingFence awaited) = 0
overlap_of ms k (GuardingAndSignallingFence earlier awaited) = 0
overlap_of ms k NeedlessFence = 0
overlap_of ms k (Repeated earlier) = 0
overlap_of ms k (Flawed flaw) = 0

-- and of a place; nothing conflicts with a batch's descriptor
abbrev pub overlap_at : List KnownMember → Place → FindingKind Conflict → ℕ
overlap_at ms Head c = 0
overlap_at ms (Member k) c = overlap_of ms k c

-- no hazard
abbrev pub no_hazards : Hazards
no_hazards = record { read_after_write = false; write_after_write = false; write_after_read = false }

-- of a fence that is missing before member k these are all hazards with the earlier member; nothing else that is found of it
-- has one
abbrev pub AreHazardsOf : List KnownMember → ℕ → FindingKind ℕ → Hazards → Type 0
AreHazardsOf ms k (MissingFence earlier) hs = AreHazardsBetween ms earlier k hs
AreHazardsOf ms k (NotSeen why) hs = hs ≡ no_hazards
AreHazardsOf ms k (GuardingFence earlier) hs = hs ≡ no_hazards
AreHazardsOf ms k (SignallingFence awaited) hs = hs ≡ no_hazards
AreHazardsOf ms k (GuardingAndSignallingFence earlier awaited) hs = hs ≡ no_hazards
AreHazardsOf ms k NeedlessFence hs = hs ≡ no_hazards
AreHazardsOf ms k (Repeated earlier) hs = hs ≡ no_hazards
AreHazardsOf ms k (Flawed flaw) hs = hs ≡ no_hazards

-- and of a place: what is found of a batch's descriptor has none
abbrev pub AreHazardsAt : List KnownMember → Place → FindingKind ℕ → Hazards → Type 0
AreHazardsAt ms Head kind hs = hs ≡ no_hazards
AreHazardsAt ms (Member k) kind hs = AreHazardsOf ms k kind hs

-- the entry of a place: the descriptor of the submission, or a member
abbrev pub entry_at : Submission → Place → ℕ
entry_at s Head = head_at s
entry_at s (Member k) = s.first + k

-- the place is one of the submission
abbrev pub IsPlaceOf : Submission → Place → Type 0
IsPlaceOf s Head = Unit
IsPlaceOf s (Member k) = k < s.size

-- of a finding in a submission of members with these operands: its place is one of the submission, and an entry, and what
-- is found can be said of it
pub record HasEntry (es : List (List ℕ)) (s : Submission) (ms : List KnownMember) (f : Finding) : Type 0 where
  pub place : IsPlaceOf s f.place
  pub within : entry_at s f.place < length es
  pub head : head_at s < length es
  pub kind : IsOf ms f.place f.kind

-- the detail is of that entry
pub record Describes (es : List (List ℕ)) (s : Submission) (ms : List KnownMember) (f : Finding) (d : Detail) : Type 0 where
  pub entry : d.entry ≡ entry_at s f.place
  pub code : d.code ≡ code_at (slice_index_or es (entry_at s f.place) [])
  pub number : d.submission ≡ f.submission
  pub first : d.first ≡ s.first
  pub size : d.size ≡ s.size
  pub place : d.place ≡ f.place
  pub is_batch : d.is_batch ≡ s.is_batch
  pub owner : d.owner ≡ u32_at 0 (slice_index_or es (entry_at s f.place) [])
  pub head_owner : d.head_owner ≡ u32_at 0 (slice_index_or es (head_at s) [])
  pub cause : IsCause ms f.place f.kind d.cause
  pub records : d.records ≡ shared_records es s.first (entry_at s f.place) d.cause
  pub hazards : AreHazardsAt ms f.place f.kind d.hazards
  pub overlap : d.overlap ≡ overlap_at ms f.place d.cause
  pub record_at : d.record_at ≡ cause_record es s.first (entry_at s f.place) d.cause

-- the submission of the finding, and what is known of its members' operands
pub record IsIn (r : Reported) (f : Finding) (s : Submission) (ms : List KnownMember) : Type 0 where
  pub submission : slice_get r.submissions f.submission ≡ Some s
  pub audited : Audited
  pub audited_is : slice_get r.audits f.submission ≡ Some audited
  pub members : audited.operands.items ≡ ms

-- the finding is of an entry
abbrev pub IsPlaced : List (List ℕ) → Reported → Finding → Type 0
IsPlaced es r f = (s : Submission) × (ms : List KnownMember) × IsIn r f s ms × HasEntry es s ms f

-- the detail is of the finding's entry
abbrev pub IsDetail : List (List ℕ) → Reported → Finding → Detail → Type 0
IsDetail es r f d = (s : Submission) × (ms : List KnownMember) × IsIn r f s ms × Describes es s ms f d

-- ---- of a whole submission

-- no fence is missing at the place
abbrev pub IsRight : FencePlace → Type 0
IsRight fence_place.NoFence = Unit
IsRight fence_place.Given = Unit
IsRight (fence_place.Missing earlier) = ⊥

-- ---- for private clauses

-- of a missing fence the earlier member is before entry `at`
abbrev pub IsAfter : ℕ → ℕ → FindingKind Conflict → Type 0
IsAfter first at (MissingFence conflict) = first + conflict.earlier < at
IsAfter first at (NotSeen why) = Unit
IsAfter first at (GuardingFence earlier) = Unit
IsAfter first at (SignallingFence awaited) = Unit
IsAfter first at (GuardingAndSignallingFence earlier awaited) = Unit
IsAfter first at NeedlessFence = Unit
IsAfter first at (Repeated earlier) = Unit
IsAfter first at (Flawed flaw) = Unit
