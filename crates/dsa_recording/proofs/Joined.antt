-- The report on two recordings one after the other.
use Rattle.std.proofs.Common.{◌≡◌, ℕ, zero, suc, ◌+◌, decimal, ◌==◌, ◌<◌, ◌≤◌, Bool, true, false, List, [], ◌∷◌, ◌++◌, Option, Some, None, length, map, slice_get, refl, sym, ap, subst, ◌∙◌, arith, append_assoc}
use Rattle.std.specs.Prelude.{if◌then◌else◌, slice_index_or, codes}
use Rattle.std.specs.List.{AllByRecursion}
use Rattle.std.proofs.lemmas.List.{map-append}
use Rattle.std.proofs.lemmas.Bool.{eq-eqb, eqb-false, eqb-true, ne_eqb}
use Rattle.dsa_descriptor.specs.Places.{u32_at, u64_at, code_at}
use Rattle.dsa_audit.specs.declared.hazard.Hazards.{Hazards}
use Rattle.dsa_audit.specs.declared.member.Member.{Member as KnownMember}
use Rattle.dsa_recording.specs.declared.detail.Conflict.{Conflict}
use Rattle.dsa_recording.specs.declared.detail.Detail.{Detail}
use Rattle.dsa_recording.specs.declared.findings.Finding.{Finding}
use Rattle.dsa_recording.specs.declared.findings.FindingKind.{FindingKind}
use Rattle.dsa_recording.specs.declared.findings.FindingKind.TheVariants.{NotSeen, MissingFence, GuardingFence, SignallingFence, GuardingAndSignallingFence, NeedlessFence, Repeated, Flawed}
use Rattle.dsa_recording.specs.declared.findings.Flaw.{Flaw}
use Rattle.dsa_recording.specs.declared.findings.Flaw.TheVariants.{SharedRecord, OverwritesBatch, DataOverRecord, MisalignedRecord, ReservedBytes, SmallBatch, FenceWithoutEffect}
use Rattle.dsa_recording.specs.declared.findings.Place.{Place}
use Rattle.dsa_recording.specs.declared.findings.Place.TheVariants.{Head, Member}
use Rattle.dsa_recording.specs.declared.stream.Submission.{Submission}
use Rattle.dsa_recording.specs.declared.submission.Audited.{Audited}
use Rattle.dsa_recording.specs.Details.{Describes, HasEntry, IsCause, IsDetail, IsIn, IsOf, cause_record, entry_at, flaw_record, is_in_record, kind_of, named_by, shared_at, shared_records}
use Rattle.dsa_recording.specs.Findings.{all_found, findings_upto, head_findings, head_kinds, member_kinds, recording_findings, submission_findings}
use Rattle.dsa_recording.specs.EntryKeys.{batch_key, entry_key, member_key}
use Rattle.dsa_recording.specs.Keys.{cause_key, key_words, other_key, others_key, place_key}
use Rattle.dsa_recording.specs.Reports.{Reported}
use Rattle.dsa_recording.specs.Submissions.{head_at}
use Rattle.dsa_recording.proofs.Middle.{get_middle, moved, nth_middle}

-- ---- findings

-- the finding with so many submissions before its own
abbrev pub renumbered : ℕ → Finding → Finding
renumbered n f = record { submission = n + f.submission; place = f.place; kind = f.kind }

place_renumbered : (n number : ℕ) (place : Place) (kinds : List (Option (FindingKind ℕ)))
    → all_found (n + number) place kinds ≡ map (renumbered n) (all_found number place kinds)
place_renumbered n number place [] = refl
place_renumbered n number place (None ∷ kinds) = place_renumbered n number place kinds
place_renumbered n number place (Some kind ∷ kinds) =
    ap (λ (fs : List Finding). record { submission = n + number; place = place; kind = kind } ∷ fs) (place_renumbered n number place kinds)

both_renumbered : (n : ℕ) (xs ys us vs : List Finding) → xs ≡ map (renumbered n) us → ys ≡ map (renumbered n) vs → xs ++ ys ≡ map (renumbered n) (us ++ vs)
both_renumbered n xs ys us vs e f =
    ap (λ (z : List Finding). z ++ ys) e ∙ (ap (λ (z : List Finding). map (renumbered n) us ++ z) f ∙ sym (map-append (renumbered n) us vs))

members_renumbered : (n number : ℕ) (a : Audited) (k : ℕ) → findings_upto (n + number) a k ≡ map (renumbered n) (findings_upto number a k)
members_renumbered n number a zero = refl
members_renumbered n number a (suc k) =
    both_renumbered n (findings_upto (n + number) a k) (all_found (n + number) (Member k) (member_kinds a k)) (findings_upto number a k) (all_found number (Member k) (member_kinds a k))
    (members_renumbered n number a k) (place_renumbered n number (Member k) (member_kinds a k))

head_renumbered : (n number : ℕ) (a : Audited) (b : Bool)
    → (if b then all_found (n + number) Head (head_kinds a) else []) ≡ map (renumbered n) (if b then all_found number Head (head_kinds a) else [])
head_renumbered n number a true = place_renumbered n number Head (head_kinds a)
head_renumbered n number a false = refl

pub findings_renumbered : (n number : ℕ) (audits : List Audited) → recording_findings (n + number) audits ≡ map (renumbered n) (recording_findings number audits)
findings_renumbered n number [] = refl
findings_renumbered n number (a ∷ audits) =
    let next : suc (n + number) ≡ n + suc number = omega arith in
    both_renumbered n (submission_findings (n + number) a) (recording_findings (suc (n + number)) audits) (submission_findings number a) (recording_findings (suc number) audits)
    (both_renumbered n (head_findings (n + number) a) (findings_upto (n + number) a (length a.members.items)) (head_findings number a) (findings_upto number a (length a.members.items))
    (head_renumbered n number a a.is_batch) (members_renumbered n number a (length a.members.items)))
    (ap (λ (k : ℕ). recording_findings k audits) next ∙ findings_renumbered n (suc number) audits)

pub findings_joined : (number : ℕ) (audits more : List Audited)
    → recording_findings number (audits ++ more) ≡ recording_findings number audits ++ recording_findings (length audits + number) more
findings_joined number [] more =
    let none : number ≡ length {A = Audited} [] + number = omega arith in
    ap (λ (k : ℕ). recording_findings k more) none
findings_joined number (a ∷ audits) more =
    let next : length audits + suc number ≡ length (a ∷ audits) + number = omega arith in
    ap (λ (fs : List Finding). submission_findings number a ++ fs)
    (findings_joined (suc number) audits more ∙ ap (λ (k : ℕ). recording_findings (suc number) audits ++ recording_findings k more) next)
    ∙ sym (append_assoc (submission_findings number a) (recording_findings (suc number) audits) (recording_findings (length (a ∷ audits) + number) more))

-- ---- what a finding names

-- the members are within so many entries
abbrev AreWithin : ℕ → ℕ → List ℕ → Type 0
AreWithin first count ms = AllByRecursion (λ m. first + m < count) ms

-- the place of a submission with this first member is within so many entries
abbrev IsPlaceWithin : ℕ → ℕ → Place → Type 0
IsPlaceWithin first count Head = Unit
IsPlaceWithin first count (Member k) = first + k < count

flaw_within : (place : Place) (ms : List KnownMember) (first count : ℕ) (flaw : Flaw) → IsOf ms place (kind_of (Flawed flaw))
    → IsPlaceWithin first count place → AreWithin first count (named_by (Flawed flaw))
flaw_within Head ms first count (SharedRecord earlier) of at = absurd of
flaw_within (Member k) ms first count (SharedRecord earlier) of at = (omega (arith, of, at), tt)
flaw_within place ms first count OverwritesBatch of at = tt
flaw_within place ms first count DataOverRecord of at = tt
flaw_within place ms first count MisalignedRecord of at = tt
flaw_within place ms first count ReservedBytes of at = tt
flaw_within place ms first count (SmallBatch size) of at = tt
flaw_within place ms first count FenceWithoutEffect of at = tt

-- what a cause names is within the entries, if the place and all members are
named_within : (place : Place) (ms : List KnownMember) (first count : ℕ) (c : FindingKind Conflict) → IsOf ms place (kind_of c)
    → IsPlaceWithin first count place → first + length ms ≤ count → AreWithin first count (named_by c)
named_within Head ms first count (NotSeen why) of at room = absurd of
named_within Head ms first count (MissingFence conflict) of at room = absurd of
named_within Head ms first count (GuardingFence earlier) of at room = absurd of
named_within Head ms first count (SignallingFence awaited) of at room = absurd of
named_within Head ms first count (GuardingAndSignallingFence earlier awaited) of at room = absurd of
named_within Head ms first count NeedlessFence of at room = absurd of
named_within Head ms first count (Repeated earlier) of at room = absurd of
named_within Head ms first count (Flawed flaw) of at room = flaw_within Head ms first count flaw of at
named_within (Member k) ms first count (NotSeen why) of at room = tt
named_within (Member k) ms first count (MissingFence conflict) of at room = (omega (arith, of.0, at), tt)
named_within (Member k) ms first count (GuardingFence earlier) of at room = (omega (arith, of, at), tt)
named_within (Member k) ms first count (SignallingFence awaited) of at room = (omega (arith, of.1, room), tt)
named_within (Member k) ms first count (GuardingAndSignallingFence earlier awaited) of at room =
    (omega (arith, of.0, at), (omega (arith, of.2, room), tt))
named_within (Member k) ms first count NeedlessFence of at room = tt
named_within (Member k) ms first count (Repeated earlier) of at room = (omega (arith, of, at), tt)
named_within (Member k) ms first count (Flawed flaw) of at room = flaw_within (Member k) ms first count flaw of at

-- a finding is in one submission
one_in : (r : Reported) (f : Finding) (s t : Submission) (ms ns : List KnownMember) → IsIn r f s ms → IsIn r f t ns → (t ≡ s) × (ns ≡ ms)
one_in r f s t ms ns is there =
    let first = is.submission in
    let second = there.submission in
    let third = is.audited_is in
    let fourth = there.audited_is in
    let one : t ≡ s = cc in
    let other : there.audited ≡ is.audited = cc in
    (one, sym there.members ∙ (ap (λ (z : Audited). z.operands.items) other ∙ is.members))

-- ---- what is said of an entry, in entries that others surround

-- what is said of an entry of `es` is said of that of all
module _ (pre es post : List (List ℕ)) where
  abbrev pub all : List (List ℕ)
  all = pre ++ (es ++ post)

  abbrev pub n : ℕ
  n = length pre

  entry_same : (k at : ℕ) → at ≡ n + k → k < length es → slice_index_or all at [] ≡ slice_index_or es k []
  entry_same k at e lt = ap (λ (i : ℕ). slice_index_or all i []) e ∙ nth_middle pre es post k [] lt

  there_same : (k at : ℕ) → at ≡ n + k → k < length es → slice_get all at ≡ slice_get es k
  there_same k at e lt = ap (slice_get all) e ∙ get_middle pre es post k lt

  member_same : (first at m : ℕ) → at ≡ n + first → first + m < length es → member_key all at m ≡ member_key es first m
  member_same first at m e lt =
      let here : at + m ≡ n + (first + m) = omega (arith, e) in
      ap (λ (o : Option (List ℕ)). codes "; member " ++ (decimal m ++ (codes ": " ++ entry_key o))) (there_same (first + m) (at + m) here lt)

  -- the detail is that of all, where `d` is that of `es`
  record IsMoved (d e : Detail) : Type 0 where
    pub entry : e.entry ≡ n + d.entry
    pub first : e.first ≡ n + d.first
    pub code : e.code ≡ d.code
    pub size : e.size ≡ d.size
    pub place : e.place ≡ d.place
    pub is_batch : e.is_batch ≡ d.is_batch
    pub hazards : e.hazards ≡ d.hazards
    pub cause : e.cause ≡ d.cause

  same_eq_by : (a b c : ℕ) (r : Bool) → (a + b == c) ≡ r → ((n + a) + b == n + c) ≡ (a + b == c)
  same_eq_by a b c true e =
      let same : a + b ≡ c = eqb-true (a + b) c e in
      eq-eqb ((n + a) + b) (n + c) (omega (arith, same)) ∙ sym e
  same_eq_by a b c false e = ne_eqb ((n + a) + b) (n + c) (λ same. eqb-false (a + b) c e (omega (arith, same))) ∙ sym e

  same_eq : (a b c : ℕ) → ((n + a) + b == n + c) ≡ (a + b == c)
  same_eq a b c = same_eq_by a b c (a + b == c) refl

  other_same : (d e : Detail) (m : ℕ) → IsMoved d e → d.first + m < length es → other_key all e m ≡ other_key es d m
  other_same d e m is lt =
      ap (λ (k : ℕ). if k + m == e.entry then [] else member_key all e.first m) is.first
      ∙ (ap (λ (k : ℕ). if (n + d.first) + m == k then [] else member_key all e.first m) is.entry
      ∙ (ap (λ (b : Bool). if b then [] else member_key all e.first m) (same_eq d.first m d.entry)
      ∙ ap (λ (w : List ℕ). if d.first + m == d.entry then [] else w) (member_same d.first e.first m is.first lt)))

  others_same : (d e : Detail) (ms : List ℕ) → IsMoved d e → AreWithin d.first (length es) ms → others_key all e ms ≡ others_key es d ms
  others_same d e [] is within = refl
  others_same d e (m ∷ ms) is (lt, within) =
      ap (λ (w : List ℕ). w ++ others_key all e ms) (other_same d e m is lt)
      ∙ ap (λ (w : List ℕ). other_key es d m ++ w) (others_same d e ms is within)

  place_same : (d e : Detail) (b : Bool) (place : Place) → IsMoved d e → IsPlaceWithin d.first (length es) place → place_key all e b place ≡ place_key es d b place
  place_same d e b Head is at = ap batch_key is.size
  place_same d e true (Member m) is at =
      ap (λ (w : ℕ). batch_key w ++ member_key all e.first m) is.size ∙ ap (λ (w : List ℕ). batch_key d.size ++ w) (member_same d.first e.first m is.first at)
  place_same d e false (Member m) is at =
      ap (λ (o : Option (List ℕ)). codes "; lone: " ++ entry_key o) (there_same d.first e.first is.first (omega (arith, at)))

  key_same : (d e : Detail) → IsMoved d e → IsPlaceWithin d.first (length es) d.place → AreWithin d.first (length es) (named_by d.cause) → key_words all e ≡ key_words es d
  key_same d e is at within =
      let key : cause_key e.code e.hazards e.cause ≡ cause_key d.code d.hazards d.cause =
      ap (λ (k : ℕ). cause_key k e.hazards e.cause) is.code ∙ (ap (λ (hs : Hazards). cause_key d.code hs e.cause) is.hazards ∙ ap (λ (c : FindingKind Conflict). cause_key d.code d.hazards c) is.cause) in
      let middle : place_key all e e.is_batch e.place ≡ place_key es d d.is_batch d.place =
      ap (λ (b : Bool). place_key all e b e.place) is.is_batch ∙ (ap (place_key all e d.is_batch) is.place ∙ place_same d e d.is_batch d.place is at) in
      let last : others_key all e (named_by e.cause) ≡ others_key es d (named_by d.cause) =
      ap (λ (c : FindingKind Conflict). others_key all e (named_by c)) is.cause ∙ others_same d e (named_by d.cause) is within in
      ap (λ (w : List ℕ). w ++ (place_key all e e.is_batch e.place ++ others_key all e (named_by e.cause))) key
      ∙ ap (λ (w : List ℕ). cause_key d.code d.hazards d.cause ++ w)
      (ap (λ (w : List ℕ). w ++ others_key all e (named_by e.cause)) middle ∙ ap (λ (w : List ℕ). place_key es d d.is_batch d.place ++ w) last)

  -- whose record has the address
  records_same : (first at place moved_first : ℕ) (c : FindingKind Conflict) → moved_first ≡ n + first → at ≡ n + place → place < length es → AreWithin first (length es) (named_by c)
      → shared_records all moved_first at c ≡ shared_records es first place c
  records_same first at place moved_first (MissingFence conflict) e f lt within =
      let address : ℕ = conflict.hazard.address in
      let here : moved_first + conflict.earlier ≡ n + (first + conflict.earlier) = omega (arith, e) in
      let one = entry_same (first + conflict.earlier) (moved_first + conflict.earlier) here within.0 in
      let other = entry_same place at f lt in
      ap (λ (z : List ℕ). record { earlier = is_in_record address z; later = is_in_record address (slice_index_or all at []) }) one
      ∙ ap (λ (z : List ℕ). record { earlier = is_in_record address (slice_index_or es (first + conflict.earlier) []); later = is_in_record address z }) other
  records_same first at place moved_first (NotSeen why) e f lt within = refl
  records_same first at place moved_first (GuardingFence earlier) e f lt within = refl
  records_same first at place moved_first (SignallingFence awaited) e f lt within = refl
  records_same first at place moved_first (GuardingAndSignallingFence earlier awaited) e f lt within = refl
  records_same first at place moved_first NeedlessFence e f lt within = refl
  records_same first at place moved_first (Repeated earlier) e f lt within = refl
  records_same first at place moved_first (Flawed flaw) e f lt within = refl

  -- where the record is that a flaw is about
  flaw_same : (first at place moved_first : ℕ) (flaw : Flaw) → moved_first ≡ n + first → at ≡ n + place → place < length es
      → AreWithin first (length es) (named_by (Flawed flaw)) → flaw_record all moved_first at flaw ≡ flaw_record es first place flaw
  flaw_same first at place moved_first (SharedRecord earlier) e f lt within =
      let here : moved_first + earlier ≡ n + (first + earlier) = omega (arith, e) in
      ap (λ (o : Option (List ℕ)). shared_at o (slice_index_or all at [])) (there_same (first + earlier) (moved_first + earlier) here within.0)
      ∙ ap (shared_at (slice_get es (first + earlier))) (entry_same place at f lt)
  flaw_same first at place moved_first OverwritesBatch e f lt within = refl
  flaw_same first at place moved_first DataOverRecord e f lt within = ap (u64_at 8) (entry_same place at f lt)
  flaw_same first at place moved_first MisalignedRecord e f lt within = ap (u64_at 8) (entry_same place at f lt)
  flaw_same first at place moved_first ReservedBytes e f lt within = refl
  flaw_same first at place moved_first (SmallBatch size) e f lt within = refl
  flaw_same first at place moved_first FenceWithoutEffect e f lt within = refl

  -- and of a cause
  cause_same : (first at place moved_first : ℕ) (c : FindingKind Conflict) → moved_first ≡ n + first → at ≡ n + place → place < length es → AreWithin first (length es) (named_by c)
      → cause_record all moved_first at c ≡ cause_record es first place c
  cause_same first at place moved_first (MissingFence conflict) e f lt within = refl
  cause_same first at place moved_first (NotSeen why) e f lt within = refl
  cause_same first at place moved_first (GuardingFence earlier) e f lt within = refl
  cause_same first at place moved_first (SignallingFence awaited) e f lt within = refl
  cause_same first at place moved_first (GuardingAndSignallingFence earlier awaited) e f lt within = refl
  cause_same first at place moved_first NeedlessFence e f lt within = refl
  cause_same first at place moved_first (Repeated earlier) e f lt within = refl
  cause_same first at place moved_first (Flawed flaw) e f lt within = flaw_same first at place moved_first flaw e f lt within

  -- ---- details

  entry_moved : (s : Submission) (place : Place) → head_at (moved n s) ≡ n + head_at s → entry_at (moved n s) place ≡ n + entry_at s place
  entry_moved s Head head = head
  entry_moved s (Member k) head = omega arith

  place_in : (s : Submission) (place : Place) → entry_at s place < length es → IsPlaceWithin s.first (length es) place
  place_in s Head lt = tt
  place_in s (Member k) lt = lt

  kind_is : (ms : List KnownMember) (place : Place) (kind : FindingKind ℕ) (c : FindingKind Conflict) → IsCause ms place kind c → kind_of c ≡ kind
  kind_is ms Head kind c is = is.1
  kind_is ms (Member k) kind c is = is.0

  names_within : (s : Submission) (ms : List KnownMember) (f : Finding) (c : FindingKind Conflict) → HasEntry es s ms f → s.first + length ms ≤ length es
      → IsCause ms f.place f.kind c → AreWithin s.first (length es) (named_by c)
  names_within s ms f c has room is =
      named_within f.place ms s.first (length es) c (subst (IsOf ms f.place) (sym (kind_is ms f.place f.kind c is)) has.kind) (place_in s f.place has.within) room

  -- the detail of all
  abbrev detail_there : ℕ → Detail → Detail
  detail_there k d = record {
    entry = n + d.entry;
    code = d.code;
    submission = k + d.submission;
    first = n + d.first;
    size = d.size;
    place = d.place;
    is_batch = d.is_batch;
    owner = d.owner;
    head_owner = d.head_owner;
    cause = d.cause;
    records = d.records;
    hazards = d.hazards;
    overlap = d.overlap;
    record_at = d.record_at;
  }

  describes_there : (k : ℕ) (s : Submission) (ms : List KnownMember) (f : Finding) (d : Detail) → HasEntry es s ms f → s.first + length ms ≤ length es
      → head_at (moved n s) ≡ n + head_at s → Describes es s ms f d → Describes all (moved n s) ms (renumbered k f) (detail_there k d)
  describes_there k s ms f d has room head says =
      let at : entry_at (moved n s) f.place ≡ n + entry_at s f.place = entry_moved s f.place head in
      let here = entry_same (entry_at s f.place) (entry_at (moved n s) f.place) at has.within in
      let first = entry_same (head_at s) (head_at (moved n s)) head has.head in
      let within = names_within s ms f d.cause has room says.cause in
      record {
        entry = ap (λ (i : ℕ). n + i) says.entry ∙ sym at;
        code = says.code ∙ ap code_at (sym here);
        number = ap (λ (i : ℕ). k + i) says.number;
        first = ap (λ (i : ℕ). n + i) says.first;
        size = says.size;
        place = says.place;
        is_batch = says.is_batch;
        owner = says.owner ∙ ap (u32_at 0) (sym here);
        head_owner = says.head_owner ∙ ap (u32_at 0) (sym first);
        cause = says.cause;
        records = says.records ∙ sym (records_same s.first (entry_at (moved n s) f.place) (entry_at s f.place) (n + s.first) d.cause refl at has.within within);
        hazards = says.hazards;
        overlap = says.overlap;
        record_at = says.record_at ∙ sym (cause_same s.first (entry_at (moved n s) f.place) (entry_at s f.place) (n + s.first) d.cause refl at has.within within);
      }

  -- and the detail of these entries, from that of all
  abbrev detail_here : Submission → Finding → Detail → Detail
  detail_here s f e = record {
    entry = entry_at s f.place;
    code = e.code;
    submission = f.submission;
    first = s.first;
    size = e.size;
    place = e.place;
    is_batch = e.is_batch;
    owner = e.owner;
    head_owner = e.head_owner;
    cause = e.cause;
    records = e.records;
    hazards = e.hazards;
    overlap = e.overlap;
    record_at = e.record_at;
  }

  describes_here : (k : ℕ) (s : Submission) (ms : List KnownMember) (f : Finding) (e : Detail) → HasEntry es s ms f → s.first + length ms ≤ length es
      → head_at (moved n s) ≡ n + head_at s → Describes all (moved n s) ms (renumbered k f) e → Describes es s ms f (detail_here s f e)
  describes_here k s ms f e has room head says =
      let at : entry_at (moved n s) f.place ≡ n + entry_at s f.place = entry_moved s f.place head in
      let here = entry_same (entry_at s f.place) (entry_at (moved n s) f.place) at has.within in
      let first = entry_same (head_at s) (head_at (moved n s)) head has.head in
      let within = names_within s ms f e.cause has room says.cause in
      record {
        entry = refl;
        code = says.code ∙ ap code_at here;
        number = refl;
        first = refl;
        size = says.size;
        place = says.place;
        is_batch = says.is_batch;
        owner = says.owner ∙ ap (u32_at 0) here;
        head_owner = says.head_owner ∙ ap (u32_at 0) first;
        cause = says.cause;
        records = says.records ∙ records_same s.first (entry_at (moved n s) f.place) (entry_at s f.place) (n + s.first) e.cause refl at has.within within;
        hazards = says.hazards;
        overlap = says.overlap;
        record_at = says.record_at ∙ cause_same s.first (entry_at (moved n s) f.place) (entry_at s f.place) (n + s.first) e.cause refl at has.within within;
      }

  -- ---- keys

  module _ (P : List ℕ → Type 0) (r other : Reported) (k : ℕ) (f : Finding) (s : Submission) (ms : List KnownMember)
      (is_in : IsIn r f s ms) (is_there : IsIn other (renumbered k f) (moved n s) ms) (has : HasEntry es s ms f)
      (room : s.first + length ms ≤ length es) (head : head_at (moved n s) ≡ n + head_at s) where
    -- what is so of the key of a finding is so of it in the longer report
    pub keyed_there : (d : Detail) × IsDetail es r f d × P (key_words es d) → (d : Detail) × IsDetail all other (renumbered k f) d × P (key_words all d)
    keyed_there (d, (t, ns, there, says), known) =
        let same = one_in r f s t ms ns is_in there in
        let says' : Describes es s ms f d = subst (λ (z : Submission). Describes es z ms f d) same.0 (subst (λ (z : List KnownMember). Describes es t z f d) same.1 says) in
        let moved_is : IsMoved d (detail_there k d) = record { entry = refl; first = refl; code = refl; size = refl; place = refl; is_batch = refl; hazards = refl; cause = refl } in
        let at : IsPlaceWithin d.first (length es) d.place =
        subst (λ (i : ℕ). IsPlaceWithin i (length es) d.place) (sym says'.first) (subst (IsPlaceWithin s.first (length es)) (sym says'.place) (place_in s f.place has.within)) in
        let within : AreWithin d.first (length es) (named_by d.cause) =
        subst (λ (i : ℕ). AreWithin i (length es) (named_by d.cause)) (sym says'.first) (names_within s ms f d.cause has room says'.cause) in (
          detail_there k d,
          (moved n s, ms, is_there, describes_there k s ms f d has room head says'),
          subst P (sym (key_same d (detail_there k d) moved_is at within)) known,
        )

    pub keyed_here : (d : Detail) × IsDetail all other (renumbered k f) d × P (key_words all d) → (d : Detail) × IsDetail es r f d × P (key_words es d)
    keyed_here (e, (t, ns, there, says), known) =
        let same = one_in other (renumbered k f) (moved n s) t ms ns is_there there in
        let says' : Describes all (moved n s) ms (renumbered k f) e =
        subst (λ (z : Submission). Describes all z ms (renumbered k f) e) same.0 (subst (λ (z : List KnownMember). Describes all t z (renumbered k f) e) same.1 says) in
        let d : Detail = detail_here s f e in
        let moved_is : IsMoved d e = record {
          entry = says'.entry ∙ entry_moved s f.place head;
          first = says'.first;
          code = refl;
          size = refl;
          place = refl;
          is_batch = refl;
          hazards = refl;
          cause = refl;
        } in
        let at : IsPlaceWithin s.first (length es) e.place = subst (IsPlaceWithin s.first (length es)) (sym says'.place) (place_in s f.place has.within) in
        let within : AreWithin s.first (length es) (named_by e.cause) = names_within s ms f e.cause has room says'.cause in (
          d,
          (s, ms, is_in, describes_here k s ms f e has room head says'),
          subst P (key_same d e moved_is at within) known,
        )
