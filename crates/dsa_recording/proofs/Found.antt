-- Each finding of a report is of an entry.
use Rattle.std.specs.Prelude.{nat_lt, if◌then◌else◌}
use Rattle.std.proofs.lemmas.Option.{slice_get-get_or}
use Rattle.std.proofs.Common.{Bool, true, false, Option, None, ◌≡◌, ℕ, zero, suc, ◌+◌, ◌-◌, ◌<◌, ◌≤◌, ◌⊎◌, List, [], ◌∷◌, ◌++◌, Some, length, get_or, slice_get, drop, min, refl, sym, ap, subst, ◌∙◌, arith}
use Rattle.std.specs.List.{AllByRecursion}
use Rattle.std.proofs.lemmas.List.{length-take, length-drop}
use Rattle.dsa_descriptor.specs.Lists.{entries}
use Rattle.dsa_audit.specs.declared.member.Member.{Member as KnownMember}
use Rattle.dsa_audit.specs.declared.member.Member.TheVariants as member
use Rattle.dsa_audit.specs.declared.member.Unseen.TheVariants.{Operation}
use Rattle.dsa_audit.specs.declared.missing.FencePlace.{FencePlace}
use Rattle.dsa_audit.specs.declared.missing.FencePlace.TheVariants as fence_place
use Rattle.dsa_audit.specs.declared.needless.FenceUse.{FenceUse}
use Rattle.dsa_audit.specs.declared.needless.FenceUse.TheVariants as fence_use
use Rattle.dsa_audit.specs.declared.repeats.Action.{Action}
use Rattle.dsa_audit.specs.Members.{KnownConflict, PossibleConflict}
use Rattle.dsa_audit.specs.Repeats.{AreRepeats, OrderMatters}
use Rattle.dsa_audit.specs.Accepted.{IsAcceptedAt, IsLeft}
use Rattle.dsa_audit.specs.Audits.{PlaceHolds, UseHolds}
use Rattle.dsa_audit.specs.Steps.{AreLasts}
use Rattle.dsa_recording.specs.Pairs.{IsListedPair, Terms}
use Rattle.dsa_recording.specs.declared.stream.Submission.{Submission}
use Rattle.dsa_recording.specs.declared.submission.Audited.{Audited}
use Rattle.dsa_recording.specs.declared.findings.Finding.{Finding}
use Rattle.dsa_recording.specs.Streams.{end_of}
use Rattle.dsa_recording.specs.Submissions.{IsWithin, IsAudited, AreAudited, members_in}
use Rattle.dsa_recording.specs.declared.findings.FindingKind.{FindingKind}
use Rattle.dsa_recording.specs.declared.findings.FindingKind.TheVariants.{Flawed}
use Rattle.dsa_recording.specs.declared.findings.Flaw.{Flaw}
use Rattle.dsa_recording.specs.declared.findings.Flaw.TheVariants.{OverwritesBatch, DataOverRecord, MisalignedRecord, ReservedBytes, SmallBatch, FenceWithoutEffect}
use Rattle.dsa_recording.specs.declared.findings.Place.{Place}
use Rattle.dsa_recording.specs.declared.findings.Place.TheVariants.{Head, Member}
use Rattle.dsa_recording.specs.Flaws.{no_flaws}
use Rattle.dsa_recording.specs.Findings.{unseen_kind, accepted_kind, missing_kind, use_kind, shared_kind, repeated_kind, flaw_kind, head_kinds, member_kinds, all_found, head_findings, findings_upto, submission_findings, recording_findings}
use Rattle.dsa_recording.specs.Details.{IsOf, IsPlaceOf, IsPlaced, entry_at}
use Rattle.dsa_recording.specs.Reports.{IsReport, Reported}
use Rattle.dsa_recording.proofs.Within.{each_within, has_all}

pub all_append : {X : Type 0} (P : X → Type 0) (xs ys : List X) → AllByRecursion P xs → AllByRecursion P ys → AllByRecursion P (xs ++ ys)
all_append P [] ys first second = second
all_append P (x ∷ xs) ys (here, first) second = (here, all_append P xs ys first second)

pub all_map : {X : Type 0} (P Q : X → Type 0) (xs : List X) → ((x : X) → P x → Q x) → AllByRecursion P xs → AllByRecursion Q xs
all_map P Q [] step all = tt
all_map P Q (x ∷ xs) step (here, all) = (step x here, all_map P Q xs step all)

-- ---- in one submission

-- the place is the descriptor, or one of so many members
abbrev pub IsInside : ℕ → Place → Type 0
IsInside count Head = Unit
IsInside count (Member k) = k < count

pub record IsAt (number : ℕ) (ms : List KnownMember) (f : Finding) : Type 0 where
  pub number_is : f.submission ≡ number
  pub place : IsInside (length ms) f.place
  pub kind : IsOf ms f.place f.kind

-- what may be found fits the place
abbrev Fits : List KnownMember → Place → Option (FindingKind ℕ) → Type 0
Fits ms place None = Unit
Fits ms place (Some kind) = IsOf ms place kind

found_all : (number : ℕ) (ms : List KnownMember) (place : Place) (kinds : List (Option (FindingKind ℕ))) → IsInside (length ms) place
    → AllByRecursion (Fits ms place) kinds → AllByRecursion (IsAt number ms) (all_found number place kinds)
found_all number ms place [] inside fit = tt
found_all number ms place (None ∷ kinds) inside (here, fit) = found_all number ms place kinds inside fit
found_all number ms place (Some kind ∷ kinds) inside (here, fit) = (record { number_is = refl; place = inside; kind = here }, found_all number ms place kinds inside fit)

fits_unseen : (k : ℕ) (ms : List KnownMember) (m : KnownMember) → Fits ms (Member k) (unseen_kind m)
fits_unseen k ms (member.Known t) = tt
fits_unseen k ms (member.Unknown why) = tt

fits_flaw : (ms : List KnownMember) (place : Place) (flaw : Flaw) (is_there : Bool) → IsOf ms place (Flawed flaw) → Fits ms place (flaw_kind flaw is_there)
fits_flaw ms place flaw true fits = fits
fits_flaw ms place flaw false fits = tt

fits_missing : (k : ℕ) (ms : List KnownMember) (C : ℕ → ℕ → Type 0) (g h : List _) (p : FencePlace) → ((i : ℕ) → C i k → KnownConflict ms i k) → k < length ms → PlaceHolds C g h k p
    → Fits ms (Member k) (missing_kind p)
fits_missing k ms C g h fence_place.NoFence known lt holds = tt
fits_missing k ms C g h fence_place.Given known lt holds = tt
fits_missing k ms C g h (fence_place.Missing i) known lt holds = (holds.before, lt, known i holds.conflict)

fits_accepted : (k : ℕ) (ms : List KnownMember) (C A : ℕ → ℕ → Type 0) (g h : List _) (p : FencePlace) (o : Option ℕ) → ((i : ℕ) → C i k → KnownConflict ms i k) → k < length ms
    → PlaceHolds C g h k p → IsAcceptedAt A k p o → Fits ms (Member k) (accepted_kind o)
fits_accepted k ms C A g h p None known lt holds is = tt
fits_accepted k ms C A g h fence_place.NoFence (Some j) known lt holds is = absurd cc
fits_accepted k ms C A g h fence_place.Given (Some j) known lt holds is = absurd cc
fits_accepted k ms C A g h (fence_place.Missing i) (Some j) known lt holds (same, listed) =
    subst (λ (z : ℕ). Fits ms (Member k) (accepted_kind (Some z))) (sym same) (holds.before, lt, known i holds.conflict)

fits_needless : (ms : List KnownMember) (k : ℕ) (is_batch : Bool) → Fits ms (Member k) (use_kind is_batch fence_use.Needless)
fits_needless ms k true = tt
fits_needless ms k false = tt

fits_use : (k : ℕ) (is_batch : Bool) (ms : List KnownMember) (C : ℕ → ℕ → Type 0) (bs vs ks g h : List _) (u : FenceUse) → length ms ≡ length g → UseHolds C bs vs ks g h k u
    → Fits ms (Member k) (use_kind is_batch u)
fits_use k is_batch ms C bs vs ks g h fence_use.NoFence count holds = tt
fits_use k is_batch ms C bs vs ks g h (fence_use.Guarding m) count (spared, first, mute) = first.guard.before
fits_use k is_batch ms C bs vs ks g h (fence_use.Signalling j) count (spared, safe, first) = (first.signal.from, omega (arith, count, first.signal.within))
fits_use k is_batch ms C bs vs ks g h (fence_use.GuardingAndSignalling m j) count (spared, guards, signals) =
    (guards.guard.before, signals.signal.from, omega (arith, count, signals.signal.within))
fits_use k is_batch ms C bs vs ks g h fence_use.Needless count holds = fits_needless ms k is_batch
fits_use k is_batch ms C bs vs ks g h (fence_use.Needed i j) count holds = tt
fits_use k is_batch ms C bs vs ks g h fence_use.Held count holds = tt

-- the last conflict of a member is an earlier one
fits_shared : (k : ℕ) (ms : List KnownMember) (C : ℕ → ℕ → Type 0) (shared : List (Option ℕ)) (o : Option ℕ) → AreLasts C shared → slice_get shared k ≡ Some o
    → Fits ms (Member k) (shared_kind o)
fits_shared k ms C shared None lasts at = tt
fits_shared k ms C shared (Some i) lasts at = (lasts k (Some i) at).0.0

-- a repeated member is an earlier one
fits_repeated : (k : ℕ) (actions : List Action) (ms : List KnownMember) (repeated : List (Option ℕ)) (o : Option ℕ) → AreRepeats actions ms repeated → slice_get repeated k ≡ Some o
    → Fits ms (Member k) (repeated_kind o)
fits_repeated k actions ms repeated None are at = tt
fits_repeated k actions ms repeated (Some i) are at = (are.each k (Some i) at).0.0.0

found_upto : (assumed : Terms) (es : List (List ℕ)) (s : Submission) (number : ℕ) (a : Audited) (k : ℕ) → IsAudited assumed es s a → k ≤ length a.members.items
    → AllByRecursion (IsAt number a.operands.items) (findings_upto number a k)
found_upto assumed es s number a zero is le = tt
found_upto assumed es s number a (suc k) is le =
    let ms : List KnownMember = a.operands.items in
    let p : FencePlace = get_or a.audit.corrected.places.items k fence_place.NoFence in
    let u : FenceUse = get_or a.audit.reduced.uses.items k fence_use.NoFence in
    let has = has_all assumed es s a is in
    let members : length a.members.items ≡ length (members_in es s) = is.members.count in
    let operands : length ms ≡ length (members_in es s) = is.operands.count in
    let lt : k < length ms = omega (arith, le, members, operands) in
    let places : length a.audit.corrected.places.items ≡ length a.fences.items = is.audit.corrected.count in
    let within : k < length a.fences.items = omega (arith, le, has.places, places) in
    let holds = is.audit.corrected.each k within in
    let more : length a.audit.corrected.fences.items ≡ length a.fences.items = is.audit.corrected.more.same_length in
    let used = is.audit.reduced.reduced.each k (omega (arith, within, more)) in
    let before : length a.audit.unaccepted.places.items ≡ length a.fences.items = is.audit.unaccepted.count in
    let accepted : length a.audit.accepted.items ≡ length a.audit.unaccepted.places.items = is.audit.accepted.count in
    let named : Option ℕ = get_or a.audit.accepted.items k None in
    let named_at : slice_get a.audit.accepted.items k ≡ Some named = slice_get-get_or a.audit.accepted.items k None (omega (arith, within, before, accepted)) in
    let o : Option ℕ = get_or a.shared.items k None in
    let there : slice_get a.shared.items k ≡ Some o = slice_get-get_or a.shared.items k None (omega (arith, le, has.shared)) in
    let r : Option ℕ = get_or a.audit.repeated.items k None in
    let repeats : slice_get a.audit.repeated.items k ≡ Some r = slice_get-get_or a.audit.repeated.items k None (omega (arith, le, has.repeated)) in
    let kinds : AllByRecursion (Fits ms (Member k)) (member_kinds a k) = (
      fits_unseen k ms (get_or a.members.items k (member.Unknown Operation)),
      (
        fits_shared k ms (λ i j. KnownConflict is.shared.records i j ⊎ KnownConflict is.shared.statuses i j) a.shared.items o is.shared.lasts there,
        (
          fits_flaw ms (Member k) OverwritesBatch (get_or a.flaws.items k no_flaws).overwrites_batch tt,
          (
            fits_flaw ms (Member k) DataOverRecord (get_or a.flaws.items k no_flaws).data_over_record tt,
            (
              fits_flaw ms (Member k) MisalignedRecord (get_or a.flaws.items k no_flaws).misaligned_record tt,
              (
                fits_flaw ms (Member k) ReservedBytes (get_or a.flaws.items k no_flaws).reserved_bytes tt,
                (
                  fits_repeated k a.actions.items ms a.audit.repeated.items r is.audit.repeated repeats,
                  (
                    fits_accepted k ms (OrderMatters a.actions.items ms) (IsListedPair assumed.accepted (members_in es s) ms) a.fences.items a.audit.unaccepted.fences.items
                        (get_or a.audit.unaccepted.places.items k fence_place.NoFence) named (λ i c. c.0) lt (is.audit.unaccepted.each k within) (is.audit.accepted.each k named named_at),
                    (
                      fits_missing k ms (IsLeft (OrderMatters a.actions.items ms) (IsListedPair assumed.accepted (members_in es s) ms) a.fences.items) a.fences.items a.audit.corrected.fences.items p
                          (λ i c. c.0.0) lt holds,
                      (
                        fits_use k a.is_batch ms (PossibleConflict a.members.items) is.fallible is.visible is.audit.reduced.held a.audit.corrected.fences.items a.audit.reduced.fences.items u
                            (omega (arith, members, operands, has.places, places, more)) used,
                        tt,
                      ),
                    ),
                  ),
                ),
              ),
            ),
          ),
        ),
      ),
    ) in
    all_append (IsAt number ms) (findings_upto number a k) (all_found number (Member k) (member_kinds a k))
    (found_upto assumed es s number a k is (omega (arith, le))) (found_all number ms (Member k) (member_kinds a k) lt kinds)

found_head : (b : Bool) (number : ℕ) (ms : List KnownMember) (a : Audited) → AllByRecursion (IsAt number ms) (if b then all_found number Head (head_kinds a) else [])
found_head true number ms a =
    found_all number ms Head (head_kinds a) tt (
      fits_flaw ms Head (SmallBatch (length a.members.items)) (nat_lt (length a.members.items) 2) tt,
      (
        fits_flaw ms Head MisalignedRecord a.is_head_misaligned tt,
        (fits_flaw ms Head FenceWithoutEffect a.is_head_fenced tt, tt),
      ),
    )
found_head false number ms a = tt

found_in : (assumed : Terms) (es : List (List ℕ)) (s : Submission) (number : ℕ) (a : Audited) → IsAudited assumed es s a
    → AllByRecursion (IsAt number a.operands.items) (submission_findings number a)
found_in assumed es s number a is =
    all_append (IsAt number a.operands.items) (head_findings number a) (findings_upto number a (length a.members.items))
    (found_head a.is_batch number a.operands.items a) (found_upto assumed es s number a (length a.members.items) is (omega arith))

-- ---- in submissions, of which the first has this number

pub record IsFrom (assumed : Terms) (es : List (List ℕ)) (number : ℕ) (ss : List Submission) (audits : List Audited) (f : Finding) : Type 0 where
  pub at : ℕ
  pub submission : Submission
  pub audited : Audited
  pub number_is : f.submission ≡ number + at
  pub submission_is : slice_get ss at ≡ Some submission
  pub audited_is : slice_get audits at ≡ Some audited
  pub is_within : IsWithin es submission
  pub is_audited : IsAudited assumed es submission audited
  pub is_at : IsAt f.submission audited.operands.items f

from_first : (assumed : Terms) (es : List (List ℕ)) (number : ℕ) (s : Submission) (ss : List Submission) (a : Audited) (audits : List Audited) → IsWithin es s → IsAudited assumed es s a
    → (f : Finding) → IsAt number a.operands.items f → IsFrom assumed es number (s ∷ ss) (a ∷ audits) f
from_first assumed es number s ss a audits within is f at = record {
  at = 0;
  submission = s;
  audited = a;
  number_is = at.number_is ∙ (omega arith);
  submission_is = refl;
  audited_is = refl;
  is_within = within;
  is_audited = is;
  is_at = record { number_is = refl; place = at.place; kind = at.kind };
}

from_next : (assumed : Terms) (es : List (List ℕ)) (number : ℕ) (s : Submission) (ss : List Submission) (a : Audited) (audits : List Audited)
    → (f : Finding) → IsFrom assumed es (suc number) ss audits f → IsFrom assumed es number (s ∷ ss) (a ∷ audits) f
from_next assumed es number s ss a audits f there = record {
  at = suc there.at;
  submission = there.submission;
  audited = there.audited;
  number_is = there.number_is ∙ (omega arith);
  submission_is = there.submission_is;
  audited_is = there.audited_is;
  is_within = there.is_within;
  is_audited = there.is_audited;
  is_at = there.is_at;
}

pub found_from : (assumed : Terms) (es : List (List ℕ)) (number : ℕ) (ss : List Submission) (audits : List Audited) → AllByRecursion (IsWithin es) ss → AreAudited assumed es ss audits
    → AllByRecursion (IsFrom assumed es number ss audits) (recording_findings number audits)
found_from assumed es number [] [] within all = tt
found_from assumed es number (s ∷ ss) (a ∷ audits) (inside, within) (is, all) =
    all_append (IsFrom assumed es number (s ∷ ss) (a ∷ audits)) (submission_findings number a) (recording_findings (suc number) audits)
    (all_map (IsAt number a.operands.items) (IsFrom assumed es number (s ∷ ss) (a ∷ audits)) (submission_findings number a)
    (from_first assumed es number s ss a audits inside is) (found_in assumed es s number a is))
    (all_map (IsFrom assumed es (suc number) ss audits) (IsFrom assumed es number (s ∷ ss) (a ∷ audits)) (recording_findings (suc number) audits)
    (from_next assumed es number s ss a audits) (found_from assumed es (suc number) ss audits within all))
found_from assumed es number [] (a ∷ audits) within all = absurd all
found_from assumed es number (s ∷ ss) [] within all = absurd all

-- ---- in a report

pub entry_within : (assumed : Terms) (es : List (List ℕ)) (s : Submission) (a : Audited) (k : ℕ) → IsWithin es s → IsAudited assumed es s a → k < length a.members.items → (k < s.size) × (s.first + k < length es)
entry_within assumed es s a k within is lt =
    let rest : length (drop s.first es) ≡ length es - s.first = length-drop s.first es in
    let size : length (members_in es s) ≡ min (end_of s - s.first) (length (drop s.first es)) = length-take (end_of s - s.first) (drop s.first es) in
    let ends : end_of s ≤ length es = within.members in
    let count : length a.members.items ≡ length (members_in es s) = is.members.count in
    (omega (arith, count, size, lt), omega (arith, count, rest, size, lt, ends))

-- the place is one of the submission, and an entry
pub place_within : (assumed : Terms) (es : List (List ℕ)) (s : Submission) (a : Audited) (place : Place) → IsWithin es s → IsAudited assumed es s a → IsInside (length a.operands.items) place
    → IsPlaceOf s place × (entry_at s place < length es)
place_within assumed es s a Head within is inside = (tt, within.head)
place_within assumed es s a (Member k) within is inside =
    let members : length a.members.items ≡ length (members_in es s) = is.members.count in
    let operands : length a.operands.items ≡ length (members_in es s) = is.operands.count in
    let lt : k < length a.operands.items = inside in
    let both = entry_within assumed es s a k within is (omega (arith, lt, members, operands)) in
    (both.0, both.1)

unfoldable pub from_report : (assumed : Terms) (es : List (List ℕ)) (r : Reported) (f : Finding) → IsFrom assumed es 0 r.submissions r.audits f → IsPlaced es r f
from_report assumed es r f there =
    let number : f.submission ≡ there.at = there.number_is ∙ (omega arith) in
    let inside = place_within assumed es there.submission there.audited f.place there.is_within there.is_audited there.is_at.place in
    let s_is : slice_get r.submissions f.submission ≡ Some there.submission = ap (slice_get r.submissions) number ∙ there.submission_is in
    let a_is : slice_get r.audits f.submission ≡ Some there.audited = ap (slice_get r.audits) number ∙ there.audited_is in (
      there.submission,
      there.audited.operands.items,
      record { submission = s_is; audited = there.audited; audited_is = a_is; members = refl },
      record { place = inside.0; within = inside.1; head = there.is_within.head; kind = there.is_at.kind },
    )

pub report_placed : (assumed : Terms) (bytes : List ℕ) (r : Reported) → IsReport assumed bytes r → AllByRecursion (IsPlaced (entries bytes) r) r.findings
report_placed assumed bytes r is =
    let within = each_within (entries bytes) 0 (length (entries bytes)) r.submissions is.submissions.all in
    let all = found_from assumed (entries bytes) 0 r.submissions r.audits within is.audits in
    let placed = all_map (IsFrom assumed (entries bytes) 0 r.submissions r.audits) (IsPlaced (entries bytes) r) (recording_findings 0 r.audits)
    (from_report assumed (entries bytes) r) all in
    subst (λ (fs : List Finding). AllByRecursion (IsPlaced (entries bytes) r) fs) (sym is.findings) placed
