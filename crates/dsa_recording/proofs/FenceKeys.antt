-- The key of a missing fence.
use Rattle.std.proofs.Common.{◌≡◌, ℕ, ◌+◌, ◌-◌, ◌<◌, ◌≤◌, ◌==◌, Bool, true, false, List, [], ◌∷◌, ◌++◌, length, Option, Some, sym, ap, subst, ◌∙◌, arith, slice_get, get_or, drop, inl, inr, append-nil, append_assoc, eqb-true, refl}
use Rattle.std.specs.Prelude.{codes, decimal, slice_range}
use Rattle.std.proofs.lemmas.Bool.{cases_Bool, cond-false}
use Rattle.std.proofs.lemmas.List.{get_or-drop, get_or-take, length-drop, length-take}
use Rattle.std.proofs.lemmas.Option.{slice_get-get_or}
use Rattle.dsa_audit.specs.declared.hazard.Hazards.{Hazards}
use Rattle.dsa_audit.specs.declared.member.Member.{Member}
use Rattle.dsa_audit.specs.Members.{AreHazardsBetween}
use Rattle.dsa_recording.specs.declared.accepted.Accepted.{Accepted}
use Rattle.dsa_recording.specs.declared.detail.Conflict.{Conflict}
use Rattle.dsa_recording.specs.declared.detail.Detail.{Detail}
use Rattle.dsa_recording.specs.declared.findings.Finding.{Finding}
use Rattle.dsa_recording.specs.declared.findings.FindingKind.{FindingKind}
use Rattle.dsa_recording.specs.declared.findings.FindingKind.TheVariants.{NotSeen, MissingFence, GuardingFence, SignallingFence, GuardingAndSignallingFence, NeedlessFence, Repeated, Flawed}
use Rattle.dsa_recording.specs.declared.findings.Place.{Place}
use Rattle.dsa_recording.specs.declared.findings.Place.TheVariants.{Member as Of}
use Rattle.dsa_recording.specs.declared.stream.Submission.{Submission}
use Rattle.dsa_recording.specs.Details.{AreHazardsAt, AreHazardsOf, Describes, HasEntry, IsCause, IsMemberCause, IsOf, IsOfMember, IsPlaceOf, entry_at, kind_of, named_by}
use Rattle.dsa_recording.specs.EntryKeys.{batch_key, entry_key, fence_key, fence_words, member_key}
use Rattle.dsa_recording.specs.Keys.{cause_key, key_words, other_key, others_key, place_key}
use Rattle.dsa_recording.specs.Submissions.{IsWithin, members_in}
use Rattle.dsa_recording.specs.Pairs.{IsListedPair, has_key}
use Rattle.dsa_recording.proofs.Keyed.{one_hazards}

-- a pair is listed if the key of its hazards is accepted
pub listed_by : (accepted : Accepted) (es : List (List ℕ)) (ms : List Member) (i j : ℕ) (hs : Hazards) → AreHazardsBetween ms i j hs → IsListedPair accepted es ms i j → has_key accepted (fence_key es i j hs) ≡ true
listed_by accepted es ms i j hs are (lt, within, conflict, (other, same, has)) =
    ap (λ (k : Hazards). has_key accepted (fence_key es i j k)) (one_hazards ms i j hs other are same) ∙ has

-- ---- the key of a finding is that of its pair

-- a cause of this kind is a missing fence after that member
pub record HasCause (earlier : ℕ) (c : FindingKind Conflict) : Type 0 where
  pub conflict : Conflict
  pub is : c ≡ MissingFence conflict
  pub earlier_is : conflict.earlier ≡ earlier

missing_cause : (earlier : ℕ) (c : FindingKind Conflict) → kind_of c ≡ MissingFence earlier → HasCause earlier c
missing_cause earlier (MissingFence conflict) kind =
    let same : conflict.earlier ≡ earlier = cc in
    record {
      conflict = conflict;
      is = refl;
      earlier_is = same;
    }
missing_cause earlier (NotSeen why) kind = absurd cc
missing_cause earlier (GuardingFence i) kind = absurd cc
missing_cause earlier (SignallingFence j) kind = absurd cc
missing_cause earlier (GuardingAndSignallingFence i j) kind = absurd cc
missing_cause earlier NeedlessFence kind = absurd cc
missing_cause earlier (Repeated i) kind = absurd cc
missing_cause earlier (Flawed flaw) kind = absurd cc

own_length : (es : List (List ℕ)) (first size : ℕ) → first + size ≤ length es → length (slice_range es first (first + size)) ≡ size
own_length es first size within =
    let count : (first + size) - first ≡ size = omega arith in
    omega (arith, length-take ((first + size) - first) (drop first es), length-drop first es, count, within)

-- an entry of the members of a submission is one of all
own_entry : (es : List (List ℕ)) (first size m : ℕ) → first + size ≤ length es → m < size → slice_get (slice_range es first (first + size)) (0 + m) ≡ slice_get es (first + m)
own_entry es first size m within lt =
    let own : List (List ℕ) = slice_range es first (first + size) in
    let count : (first + size) - first ≡ size = omega arith in
    let long : length own ≡ size = own_length es first size within in
    let start : 0 + m ≡ m = omega arith in
    let taken : get_or own m [] ≡ get_or (drop first es) m [] = get_or-take ((first + size) - first) (drop first es) m [] (omega (arith, count, lt)) in
    ap (slice_get own) start
    ∙ (slice_get-get_or own m [] (omega (arith, long, lt))
    ∙ (ap Some (taken ∙ get_or-drop first es m [])
    ∙ sym (slice_get-get_or es (first + m) [] (omega (arith, within, lt)))))

own_key : (es : List (List ℕ)) (first size m : ℕ) → first + size ≤ length es → m < size → member_key (slice_range es first (first + size)) 0 m ≡ member_key es first m
own_key es first size m within lt =
    ap (λ (o : Option (List ℕ)). codes "; member " ++ (decimal m ++ (codes ": " ++ entry_key o))) (own_entry es first size m within lt)

-- what the key says, by the parts of the detail
key_says : (es : List (List ℕ)) (d : Detail) (first size earlier later : ℕ) → d.first ≡ first → d.size ≡ size → d.entry ≡ first + later → d.is_batch ≡ true → d.place ≡ Of later
    → HasCause earlier d.cause → earlier < later
    → key_words es d ≡ fence_words d.hazards ++ ((batch_key size ++ member_key es first later) ++ member_key es first earlier)
key_says es d first size earlier later first_is size_is entry batch place has lt =
    let what : cause_key d.code d.hazards d.cause ≡ fence_words d.hazards = ap (λ (c : FindingKind Conflict). cause_key d.code d.hazards c) has.is in
    let where_is : place_key es d d.is_batch d.place ≡ batch_key d.size ++ member_key es d.first later = ap (λ (b : Bool). place_key es d b d.place) batch ∙ ap (place_key es d true) place in
    let moved : batch_key d.size ++ member_key es d.first later ≡ batch_key size ++ member_key es first later = ap (λ (n : ℕ). batch_key n ++ member_key es d.first later) size_is ∙ ap (λ (n : ℕ). batch_key size ++ member_key es n later) first_is in
    let apart : (d.first + earlier == d.entry) ≡ false =
    elim (cases_Bool (d.first + earlier == d.entry)) [
      | inl equal ↦ let same : d.first + earlier ≡ d.entry = eqb-true (d.first + earlier) d.entry equal in absurd (omega (arith, same, entry, first_is, lt))
      | inr other ↦ other
    ] in
    let other : other_key es d earlier ≡ member_key es d.first earlier = cond-false (d.first + earlier == d.entry) [] (member_key es d.first earlier) apart in
    let others : others_key es d (named_by d.cause) ≡ member_key es first earlier =
    ap (λ (c : FindingKind Conflict). others_key es d (named_by c)) has.is
    ∙ (ap (λ (m : ℕ). others_key es d (m ∷ [])) has.earlier_is ∙ (append-nil (other_key es d earlier) ∙ (other ∙ ap (λ (n : ℕ). member_key es n earlier) first_is))) in
    ap (λ (w : List ℕ). w ++ (place_key es d d.is_batch d.place ++ others_key es d (named_by d.cause))) what
    ∙ ap (λ (w : List ℕ). fence_words d.hazards ++ w) (ap (λ (w : List ℕ). w ++ others_key es d (named_by d.cause)) (where_is ∙ moved) ∙ ap (λ (w : List ℕ). (batch_key size ++ member_key es first later) ++ w) others)

pub keys_agree : (es : List (List ℕ)) (s : Submission) (ms : List Member) (f : Finding) (d : Detail) (earlier later : ℕ) → s.is_batch ≡ true → IsWithin es s → f.place ≡ Of later → f.kind ≡ MissingFence earlier
    → HasEntry es s ms f → Describes es s ms f d → (hs : Hazards) × AreHazardsBetween ms earlier later hs × (key_words es d ≡ fence_key (members_in es s) earlier later hs)
keys_agree es s ms f d earlier later batch within place kind has says =
    let of : IsMemberCause ms later f.kind d.cause = subst (λ (p : Place). IsCause ms p f.kind d.cause) place says.cause in
    let c = missing_cause earlier d.cause (of.0 ∙ kind) in
    let at : AreHazardsAt ms (Of later) f.kind d.hazards = subst (λ (p : Place). AreHazardsAt ms p f.kind d.hazards) place says.hazards in
    let are : AreHazardsBetween ms earlier later d.hazards = subst (λ (k : FindingKind ℕ). AreHazardsOf ms later k d.hazards) kind at in
    let fits : IsOfMember ms later (MissingFence earlier) = subst (IsOfMember ms later) kind (subst (λ (p : Place). IsOf ms p f.kind) place has.kind) in
    let own : later < s.size = subst (IsPlaceOf s) place has.place in
    let long : length (members_in es s) ≡ s.size = own_length es s.first s.size within.members in
    let entry : d.entry ≡ s.first + later = says.entry ∙ ap (entry_at s) place in
    let key = key_says es d s.first s.size earlier later says.first says.size entry (says.is_batch ∙ batch) (says.place ∙ place) c fits.0 in (
      d.hazards,
      are,
      key
          ∙ ap (λ (w : List ℕ). fence_words d.hazards ++ w) (append_assoc (batch_key s.size) (member_key es s.first later) (member_key es s.first earlier)
          ∙ (ap (λ (n : ℕ). batch_key n ++ (member_key es s.first later ++ member_key es s.first earlier)) (sym long)
          ∙ (ap (λ (w : List ℕ). batch_key (length (members_in es s)) ++ (w ++ member_key es s.first earlier)) (sym (own_key es s.first s.size later within.members own))
          ∙ ap (λ (w : List ℕ). batch_key (length (members_in es s)) ++ (member_key (members_in es s) 0 later ++ w)) (sym (own_key es s.first s.size earlier within.members (omega (arith, fits.0, own))))))),
    )
