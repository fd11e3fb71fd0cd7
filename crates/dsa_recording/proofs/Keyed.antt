-- A finding has one key.
use Rattle.std.proofs.Common.{◌≡◌, ◌↔◌, ℕ, Bool, IsTrue, true, false, List, [], ◌∷◌, ◌++◌, slice_get, sym, ap, subst, refl, ◌∙◌}
use Rattle.std.specs.Prelude.{slice_index_or}
use Rattle.dsa_descriptor.specs.Places.{code_at}
use Rattle.dsa_audit.specs.declared.hazard.Hazards.{Hazards}
use Rattle.dsa_audit.specs.declared.member.Member.{Member as KnownMember}
use Rattle.dsa_audit.specs.Members.{AreHazardsBetween, ShareAddress, reads_at, writes_at}
use Rattle.dsa_recording.specs.declared.detail.Conflict.{Conflict}
use Rattle.dsa_recording.specs.declared.detail.Detail.{Detail}
use Rattle.dsa_recording.specs.declared.findings.Finding.{Finding}
use Rattle.dsa_recording.specs.declared.findings.FindingKind.{FindingKind}
use Rattle.dsa_recording.specs.declared.findings.FindingKind.TheVariants.{NotSeen, MissingFence, GuardingFence, SignallingFence, GuardingAndSignallingFence, NeedlessFence, Repeated, Flawed}
use Rattle.dsa_recording.specs.declared.findings.Place.{Place}
use Rattle.dsa_recording.specs.declared.findings.Place.TheVariants.{Head, Member}
use Rattle.dsa_recording.specs.Reports.{Reported}
use Rattle.dsa_recording.specs.declared.stream.Submission.{Submission}
use Rattle.dsa_recording.specs.declared.submission.Audited.{Audited}
use Rattle.dsa_recording.specs.Details.{AreHazardsAt, AreHazardsOf, entry_at, IsCause, IsDetail, kind_of, named_by, named_by_flaw}
use Rattle.dsa_recording.specs.Keys.{cause_key, key_words, others_key, place_key}

-- a flag that says the same as another is that one
same_flag : (P : Type 0) (a b : Bool) → (IsTrue a ↔ P) → (IsTrue b ↔ P) → a ≡ b
same_flag P true true x y = refl
same_flag P true false x y = let no : false ≡ true = y.1 (x.0 refl) in absurd cc
same_flag P false true x y = let no : false ≡ true = x.1 (y.0 refl) in absurd cc
same_flag P false false x y = refl

-- two members have one set of hazards
pub one_hazards : (ms : List KnownMember) (i j : ℕ) (hs other : Hazards) → AreHazardsBetween ms i j hs → AreHazardsBetween ms i j other → hs ≡ other
one_hazards ms i j hs other are same =
    let first : hs.read_after_write ≡ other.read_after_write =
    same_flag (ShareAddress (writes_at (slice_get ms i)) (reads_at (slice_get ms j))) hs.read_after_write other.read_after_write are.read_after_write same.read_after_write in
    let second : hs.write_after_write ≡ other.write_after_write =
    same_flag (ShareAddress (writes_at (slice_get ms i)) (writes_at (slice_get ms j))) hs.write_after_write other.write_after_write are.write_after_write same.write_after_write in
    let third : hs.write_after_read ≡ other.write_after_read =
    same_flag (ShareAddress (reads_at (slice_get ms i)) (writes_at (slice_get ms j))) hs.write_after_read other.write_after_read are.write_after_read same.write_after_read in
    λ k. record { read_after_write = first k; write_after_write = second k; write_after_read = third k }

-- so has what is found of a member
hazards_of_one : (ms : List KnownMember) (k : ℕ) (kind : FindingKind ℕ) (hs other : Hazards) → AreHazardsOf ms k kind hs → AreHazardsOf ms k kind other → hs ≡ other
hazards_of_one ms k (NotSeen why) hs other are same = are ∙ sym same
hazards_of_one ms k (MissingFence earlier) hs other are same = one_hazards ms earlier k hs other are same
hazards_of_one ms k (GuardingFence earlier) hs other are same = are ∙ sym same
hazards_of_one ms k (SignallingFence awaited) hs other are same = are ∙ sym same
hazards_of_one ms k (GuardingAndSignallingFence earlier awaited) hs other are same = are ∙ sym same
hazards_of_one ms k NeedlessFence hs other are same = are ∙ sym same
hazards_of_one ms k (Repeated earlier) hs other are same = are ∙ sym same
hazards_of_one ms k (Flawed flaw) hs other are same = are ∙ sym same

-- and of a place
hazards_at_one : (ms : List KnownMember) (place : Place) (kind : FindingKind ℕ) (hs other : Hazards) → AreHazardsAt ms place kind hs → AreHazardsAt ms place kind other → hs ≡ other
hazards_at_one ms Head kind hs other are same = are ∙ sym same
hazards_at_one ms (Member k) kind hs other are same = hazards_of_one ms k kind hs other are same

-- ---- what a key says of a cause rests on its kind and its hazards

key_by_kind : (code : ℕ) (hs : Hazards) (c : FindingKind Conflict) → cause_key code hs c ≡ cause_key code hs (kind_of c)
key_by_kind code hs (NotSeen why) = refl
key_by_kind code hs (MissingFence conflict) = refl
key_by_kind code hs (GuardingFence earlier) = refl
key_by_kind code hs (SignallingFence awaited) = refl
key_by_kind code hs (GuardingAndSignallingFence earlier awaited) = refl
key_by_kind code hs NeedlessFence = refl
key_by_kind code hs (Repeated earlier) = refl
key_by_kind code hs (Flawed flaw) = refl

abbrev kind_named : FindingKind ℕ → List ℕ
kind_named (NotSeen why) = []
kind_named (MissingFence earlier) = earlier ∷ []
kind_named (GuardingFence earlier) = earlier ∷ []
kind_named (SignallingFence awaited) = awaited ∷ []
kind_named (GuardingAndSignallingFence earlier awaited) = earlier ∷ awaited ∷ []
kind_named NeedlessFence = []
kind_named (Repeated earlier) = earlier ∷ []
kind_named (Flawed flaw) = named_by_flaw flaw

named_by_kind : (c : FindingKind Conflict) → named_by c ≡ kind_named (kind_of c)
named_by_kind (NotSeen why) = refl
named_by_kind (MissingFence conflict) = refl
named_by_kind (GuardingFence earlier) = refl
named_by_kind (SignallingFence awaited) = refl
named_by_kind (GuardingAndSignallingFence earlier awaited) = refl
named_by_kind NeedlessFence = refl
named_by_kind (Repeated earlier) = refl
named_by_kind (Flawed flaw) = refl

-- a cause of what is found has its kind
kind_of_found : (ms : List KnownMember) (place : Place) (kind : FindingKind ℕ) (c : FindingKind Conflict) → IsCause ms place kind c → kind_of c ≡ kind
kind_of_found ms Head kind c is = is.1
kind_of_found ms (Member k) kind c is = is.0

-- ---- of a finding

-- what a key says of the place and of other members rests on these
of_parts : (es : List (List ℕ)) (d e : Detail) → d.first ≡ e.first → d.size ≡ e.size → d.entry ≡ e.entry → (ms : List ℕ)
    → others_key es d ms ≡ others_key es e ms
of_parts es d e first size entry [] = refl
of_parts es d e first size entry (m ∷ ms) = let more : others_key es d ms ≡ others_key es e ms = of_parts es d e first size entry ms in cc

of_place : (es : List (List ℕ)) (d e : Detail) → d.first ≡ e.first → d.size ≡ e.size → (b : Bool) (place : Place)
    → place_key es d b place ≡ place_key es e b place
of_place es d e first size b Head = cc
of_place es d e first size true (Member m) = cc
of_place es d e first size false (Member m) = cc

by_kinds : (m n : ℕ) (hs other : Hazards) (k l : FindingKind ℕ) → m ≡ n → hs ≡ other → k ≡ l → cause_key m hs k ≡ cause_key n other l
by_kinds m n hs other k l codes hazards kinds =
    ap (λ (z : ℕ). cause_key z hs k) codes ∙ (ap (λ (z : Hazards). cause_key n z k) hazards ∙ ap (λ (z : FindingKind ℕ). cause_key n other z) kinds)

joined : (a b c x y z : List ℕ) → a ≡ x → b ≡ y → c ≡ z → a ++ (b ++ c) ≡ x ++ (y ++ z)
joined a b c x y z e f g = ap (λ (w : List ℕ). w ++ (b ++ c)) e ∙ ap (λ (w : List ℕ). x ++ w) (ap (λ (w : List ℕ). w ++ c) f ∙ ap (λ (w : List ℕ). y ++ w) g)

-- details that say the same of these have one key
same_key : (es : List (List ℕ)) (d e : Detail) → d.entry ≡ e.entry → d.code ≡ e.code → d.first ≡ e.first → d.size ≡ e.size → d.is_batch ≡ e.is_batch
    → d.place ≡ e.place → kind_of d.cause ≡ kind_of e.cause → d.hazards ≡ e.hazards → key_words es d ≡ key_words es e
same_key es d e entry code first size is_batch place kinds hazards =
    let key : cause_key d.code d.hazards d.cause ≡ cause_key e.code e.hazards e.cause = key_by_kind d.code d.hazards d.cause
    ∙ (by_kinds d.code e.code d.hazards e.hazards (kind_of d.cause) (kind_of e.cause) code hazards kinds ∙ sym (key_by_kind e.code e.hazards e.cause)) in
    let named : named_by d.cause ≡ named_by e.cause = named_by_kind d.cause ∙ (ap kind_named kinds ∙ sym (named_by_kind e.cause)) in
    let middle : place_key es d d.is_batch d.place ≡ place_key es e e.is_batch e.place =
    of_place es d e first size d.is_batch d.place ∙ (ap (λ (b : Bool). place_key es e b d.place) is_batch ∙ ap (place_key es e e.is_batch) place) in
    let last : others_key es d (named_by d.cause) ≡ others_key es e (named_by e.cause) =
    of_parts es d e first size entry (named_by d.cause) ∙ ap (others_key es e) named in
    joined (cause_key d.code d.hazards d.cause) (place_key es d d.is_batch d.place) (others_key es d (named_by d.cause))
    (cause_key e.code e.hazards e.cause) (place_key es e e.is_batch e.place) (others_key es e (named_by e.cause)) key middle last

pub one_key : (es : List (List ℕ)) (r : Reported) (f : Finding) (d e : Detail) → IsDetail es r f d → IsDetail es r f e → key_words es d ≡ key_words es e
one_key es r f d e (s, ms, there, says) (t, ns, there', says') =
    let i = there.submission in
    let i' = there'.submission in
    let j = there.audited_is in
    let j' = there'.audited_is in
    let one : s ≡ t = cc in
    let other : there.audited ≡ there'.audited = cc in
    let same : ms ≡ ns = sym there.members ∙ (ap (λ (z : Audited). z.operands.items) other ∙ there'.members) in
    let kinds : kind_of d.cause ≡ kind_of e.cause = kind_of_found ms f.place f.kind d.cause says.cause ∙ sym (kind_of_found ns f.place f.kind e.cause says'.cause) in
    let hazards : d.hazards ≡ e.hazards =
    hazards_at_one ns f.place f.kind d.hazards e.hazards (subst (λ (z : List KnownMember). AreHazardsAt z f.place f.kind d.hazards) same says.hazards) says'.hazards in
    same_key es d e
    (says.entry ∙ (ap (λ (z : Submission). entry_at z f.place) one ∙ sym says'.entry))
    (says.code ∙ (ap (λ (z : Submission). code_at (slice_index_or es (entry_at z f.place) [])) one ∙ sym says'.code))
    (says.first ∙ (ap (λ (z : Submission). z.first) one ∙ sym says'.first))
    (says.size ∙ (ap (λ (z : Submission). z.size) one ∙ sym says'.size))
    (says.is_batch ∙ (ap (λ (z : Submission). z.is_batch) one ∙ sym says'.is_batch))
    (says.place ∙ sym says'.place) kinds hazards
