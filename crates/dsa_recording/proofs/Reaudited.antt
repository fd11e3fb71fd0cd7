-- Needless fences, counted by what the fences of each submission are for.
use Rattle.std.proofs.Common.{◌≡◌, ℕ, zero, suc, ◌+◌, ◌<◌, ◌≤◌, Bool, true, false, cond, Option, Some, None, List, [], ◌∷◌, ◌++◌, length, get_or, take, refl, sym, ap, subst, ◌∙◌, arith}
use Rattle.std.specs.Prelude.{if◌then◌else◌, nat_lt, slice_index_or}
use Rattle.std.specs.List.{count_by}
use Rattle.std.proofs.lemmas.List.{take_all}
use Rattle.std.proofs.lemmas.List.Sums.{count_by_more_no, count_by_more_yes, sum_by-append, sum_by-cons}
use Rattle.dsa_audit.specs.declared.member.Member.{Member as KnownMember}
use Rattle.dsa_audit.specs.declared.member.Member.TheVariants as member
use Rattle.dsa_audit.specs.declared.member.Unseen.TheVariants.{Operation}
use Rattle.dsa_audit.specs.declared.missing.FencePlace.{FencePlace}
use Rattle.dsa_audit.specs.declared.missing.FencePlace.TheVariants as fence_place
use Rattle.dsa_audit.specs.declared.needless.FenceUse.{FenceUse}
use Rattle.dsa_audit.specs.declared.needless.FenceUse.TheVariants as fence_use
use Rattle.dsa_audit.specs.declared.needless.Reduced.{Reduced}
use Rattle.dsa_audit.specs.Audits.{HasFence, IsReduced, UseHolds}
use Rattle.dsa_settings.specs.Plan.{fence_count}
use Rattle.dsa_recording.specs.declared.accepted.Accepted.{Accepted}
use Rattle.dsa_recording.specs.declared.assumptions.Assumptions.{Assumptions}
use Rattle.dsa_recording.specs.Pairs.{Terms, terms}
use Rattle.dsa_recording.specs.declared.findings.Finding.{Finding}
use Rattle.dsa_recording.specs.declared.findings.FindingKind.{FindingKind}
use Rattle.dsa_recording.specs.declared.findings.Flaw.{Flaw}
use Rattle.dsa_recording.specs.declared.findings.Flaw.TheVariants.{OverwritesBatch, DataOverRecord, MisalignedRecord, ReservedBytes, SmallBatch, FenceWithoutEffect}
use Rattle.dsa_recording.specs.declared.findings.Place.{Place}
use Rattle.dsa_recording.specs.declared.findings.Place.TheVariants.{Head, Member}
use Rattle.dsa_recording.specs.declared.stream.Submission.{Submission}
use Rattle.dsa_recording.specs.declared.submission.Audited.{Audited}
use Rattle.dsa_recording.specs.Findings.{HasAll, all_found, finding_of, findings_upto, flaw_kind, head_findings, head_kinds, member_kinds, missing_kind, recording_findings, repeated_kind, shared_kind, submission_findings, unseen_kind, use_kind, accepted_kind}
use Rattle.dsa_recording.specs.Flaws.{no_flaws}
use Rattle.dsa_recording.specs.Freed.{AreNeedless, HasNeedless, IsReducedUnder, is_needless_use, needless_count, needless_of}
use Rattle.dsa_recording.specs.Failures.{can_fail}
use Rattle.dsa_recording.specs.Showing.{can_show}
use Rattle.dsa_recording.specs.Submissions.{AreAudited, IsAudited, head_at, members_in}
use Rattle.dsa_audit.specs.Members.{PossibleConflict}
use Rattle.dsa_recording.specs.Totals.{is_needless}
use Rattle.dsa_recording.proofs.Joined.{findings_joined}
use Rattle.dsa_recording.proofs.Pushed.{audit_pushed}
use Rattle.dsa_recording.proofs.Within.{has_all}

-- ---- an audit under other assumptions

-- an audit with the fences reduced under other assumptions is one under these
pub reaudited : (accepted : Accepted) (assumed other : Assumptions) (es : List (List ℕ)) (s : Submission) (a : Audited) (r : Reduced) (n : ℕ) → IsAudited (terms accepted assumed) es s a → IsReducedUnder other es s a r
    → n ≡ needless_of a.is_batch r.uses.items → HasNeedless (terms accepted other) es s n
reaudited accepted assumed other es s a r n is u e = (
  record a { audit = record a.audit { reduced = r } },
  record {
    is_batch = is.is_batch;
    is_head_fenced = is.is_head_fenced;
    is_head_misaligned = is.is_head_misaligned;
    fences = is.fences;
    members = is.members;
    fallible = u.fallible;
    visible = u.visible;
    are_fallible = u.are_fallible;
    are_visible = u.are_visible;
    actions = is.actions;
    operands = is.operands;
    shared = is.shared;
    flaws = is.flaws;
    audit = record {
      repeated = is.audit.repeated;
      unaccepted = is.audit.unaccepted;
      accepted = is.audit.accepted;
      corrected = is.audit.corrected;
      lasts = is.audit.lasts;
      all = is.audit.all;
      reduced = u.reduced;
    };
  },
  e,
)

-- ---- how many findings of a submission are needless fences

apart_counted : (xs ys : List Finding) → needless_count (xs ++ ys) ≡ needless_count xs + needless_count ys
apart_counted xs ys = sum_by-append (λ (f : Finding). cond (is_needless f.kind) 1 0) xs ys

-- one if it is, else none
abbrev one_of : Option (FindingKind ℕ) → ℕ
one_of None = 0
one_of (Some kind) = cond (is_needless kind) 1 0

one_found : (number : ℕ) (place : Place) (kind : Option (FindingKind ℕ)) → needless_count (finding_of number place kind) ≡ one_of kind
one_found number place None = refl
one_found number place (Some kind) = omega arith

abbrev all_of : List (Option (FindingKind ℕ)) → ℕ
all_of [] = 0
all_of (kind ∷ kinds) = one_of kind + all_of kinds

all_counted : (number : ℕ) (place : Place) (kinds : List (Option (FindingKind ℕ))) → needless_count (all_found number place kinds) ≡ all_of kinds
all_counted number place [] = refl
all_counted number place (kind ∷ kinds) =
    let apart : needless_count (finding_of number place kind ++ all_found number place kinds) ≡ needless_count (finding_of number place kind) + needless_count (all_found number place kinds)
    = apart_counted (finding_of number place kind) (all_found number place kinds) in
    let one : needless_count (finding_of number place kind) ≡ one_of kind = one_found number place kind in
    let rest : needless_count (all_found number place kinds) ≡ all_of kinds = all_counted number place kinds in
    omega (arith, apart, one, rest)

flaw_none : (flaw : Flaw) (b : Bool) → one_of (flaw_kind flaw b) ≡ 0
flaw_none flaw true = refl
flaw_none flaw false = refl

unseen_none : (m : KnownMember) → one_of (unseen_kind m) ≡ 0
unseen_none (member.Known touched) = refl
unseen_none (member.Unknown why) = refl

shared_none : (o : Option ℕ) → one_of (shared_kind o) ≡ 0
shared_none None = refl
shared_none (Some k) = refl

repeated_none : (o : Option ℕ) → one_of (repeated_kind o) ≡ 0
repeated_none None = refl
repeated_none (Some k) = refl

missing_none : (p : FencePlace) → one_of (missing_kind p) ≡ 0
missing_none fence_place.NoFence = refl
missing_none fence_place.Given = refl
missing_none (fence_place.Missing i) = refl

accepted_none : (o : Option ℕ) → one_of (accepted_kind o) ≡ 0
accepted_none None = refl
accepted_none (Some k) = refl

-- a fence of a batch is a needless one
abbrev use_of : Bool → FenceUse → ℕ
use_of is_batch u = if is_batch then (if is_needless_use u then 1 else 0) else 0

use_one : (b : Bool) (u : FenceUse) → one_of (use_kind b u) ≡ use_of b u
use_one true fence_use.NoFence = refl
use_one true fence_use.Needless = refl
use_one true (fence_use.Guarding m) = refl
use_one true (fence_use.Signalling j) = refl
use_one true (fence_use.GuardingAndSignalling m j) = refl
use_one true (fence_use.Needed i j) = refl
use_one true fence_use.Held = refl
use_one false fence_use.NoFence = refl
use_one false fence_use.Needless = refl
use_one false (fence_use.Guarding m) = refl
use_one false (fence_use.Signalling j) = refl
use_one false (fence_use.GuardingAndSignalling m j) = refl
use_one false (fence_use.Needed i j) = refl
use_one false fence_use.Held = refl

member_counted : (number : ℕ) (a : Audited) (k : ℕ) → needless_count (all_found number (Member k) (member_kinds a k)) ≡ use_of a.is_batch (get_or a.audit.reduced.uses.items k fence_use.NoFence)
member_counted number a k =
    let all : needless_count (all_found number (Member k) (member_kinds a k)) ≡ all_of (member_kinds a k) = all_counted number (Member k) (member_kinds a k) in
    let unseen : one_of (unseen_kind (get_or a.members.items k (member.Unknown Operation))) ≡ 0 = unseen_none (get_or a.members.items k (member.Unknown Operation)) in
    let shared : one_of (shared_kind (get_or a.shared.items k None)) ≡ 0 = shared_none (get_or a.shared.items k None) in
    let first : one_of (flaw_kind OverwritesBatch (get_or a.flaws.items k no_flaws).overwrites_batch) ≡ 0 = flaw_none OverwritesBatch (get_or a.flaws.items k no_flaws).overwrites_batch in
    let second : one_of (flaw_kind DataOverRecord (get_or a.flaws.items k no_flaws).data_over_record) ≡ 0 = flaw_none DataOverRecord (get_or a.flaws.items k no_flaws).data_over_record in
    let third : one_of (flaw_kind MisalignedRecord (get_or a.flaws.items k no_flaws).misaligned_record) ≡ 0 = flaw_none MisalignedRecord (get_or a.flaws.items k no_flaws).misaligned_record in
    let fourth : one_of (flaw_kind ReservedBytes (get_or a.flaws.items k no_flaws).reserved_bytes) ≡ 0 = flaw_none ReservedBytes (get_or a.flaws.items k no_flaws).reserved_bytes in
    let repeated : one_of (repeated_kind (get_or a.audit.repeated.items k None)) ≡ 0 = repeated_none (get_or a.audit.repeated.items k None) in
    let accepted : one_of (accepted_kind (get_or a.audit.accepted.items k None)) ≡ 0 = accepted_none (get_or a.audit.accepted.items k None) in
    let missing : one_of (missing_kind (get_or a.audit.corrected.places.items k fence_place.NoFence)) ≡ 0 = missing_none (get_or a.audit.corrected.places.items k fence_place.NoFence) in
    let used : one_of (use_kind a.is_batch (get_or a.audit.reduced.uses.items k fence_use.NoFence)) ≡ use_of a.is_batch (get_or a.audit.reduced.uses.items k fence_use.NoFence)
    = use_one a.is_batch (get_or a.audit.reduced.uses.items k fence_use.NoFence) in
    all ∙ omega (arith, unseen, shared, first, second, third, fourth, repeated, accepted, missing, used)

head_counted : (number : ℕ) (a : Audited) (b : Bool) → needless_count (if b then all_found number Head (head_kinds a) else []) ≡ 0
head_counted number a false = refl
head_counted number a true =
    let all : needless_count (all_found number Head (head_kinds a)) ≡ all_of (head_kinds a) = all_counted number Head (head_kinds a) in
    let size : one_of (flaw_kind (SmallBatch (length a.members.items)) (nat_lt (length a.members.items) 2)) ≡ 0 = flaw_none (SmallBatch (length a.members.items)) (nat_lt (length a.members.items) 2) in
    let record_is : one_of (flaw_kind MisalignedRecord a.is_head_misaligned) ≡ 0 = flaw_none MisalignedRecord a.is_head_misaligned in
    let fence : one_of (flaw_kind FenceWithoutEffect a.is_head_fenced) ≡ 0 = flaw_none FenceWithoutEffect a.is_head_fenced in
    all ∙ omega (arith, size, record_is, fence)

-- one more use
needless_more : (us : List FenceUse) (k : ℕ) → k < length us → (b : Bool) → needless_of b (take (k + 1) us) ≡ needless_of b (take k us) + use_of b (get_or us k fence_use.NoFence)
needless_more us k lt false = refl
needless_more us k lt true = by_use (is_needless_use (get_or us k fence_use.NoFence)) refl where
  by_use : (y : Bool) → is_needless_use (get_or us k fence_use.NoFence) ≡ y
      → count_by is_needless_use (take (k + 1) us) ≡ count_by is_needless_use (take k us) + (if is_needless_use (get_or us k fence_use.NoFence) then 1 else 0)
  by_use true e = count_by_more_yes is_needless_use us k fence_use.NoFence lt e ∙ ap (λ (z : Bool). count_by is_needless_use (take k us) + (if z then 1 else 0)) (sym e)
  by_use false e =
      let same : count_by is_needless_use (take (k + 1) us) ≡ count_by is_needless_use (take k us) = count_by_more_no is_needless_use us k fence_use.NoFence lt e in
      let more : count_by is_needless_use (take k us) ≡ count_by is_needless_use (take k us) + 0 = omega arith in
      same ∙ (more ∙ ap (λ (z : Bool). count_by is_needless_use (take k us) + (if z then 1 else 0)) (sym e))

members_counted : (number : ℕ) (a : Audited) (k : ℕ) → k ≤ length a.audit.reduced.uses.items → needless_count (findings_upto number a k) ≡ needless_of a.is_batch (take k a.audit.reduced.uses.items)
members_counted number a zero le = none a.is_batch where
  none : (b : Bool) → 0 ≡ needless_of b (take 0 a.audit.reduced.uses.items)
  none true = refl
  none false = refl
members_counted number a (suc k) le =
    let us : List FenceUse = a.audit.reduced.uses.items in
    let apart : needless_count (findings_upto number a (suc k)) ≡ needless_count (findings_upto number a k) + needless_count (all_found number (Member k) (member_kinds a k))
    = apart_counted (findings_upto number a k) (all_found number (Member k) (member_kinds a k)) in
    let before : needless_count (findings_upto number a k) ≡ needless_of a.is_batch (take k us) = members_counted number a k (omega (arith, le)) in
    let here : needless_count (all_found number (Member k) (member_kinds a k)) ≡ use_of a.is_batch (get_or us k fence_use.NoFence) = member_counted number a k in
    let more : needless_of a.is_batch (take (k + 1) us) ≡ needless_of a.is_batch (take k us) + use_of a.is_batch (get_or us k fence_use.NoFence) = needless_more us k (omega (arith, le)) a.is_batch in
    let next : suc k ≡ k + 1 = omega arith in
    let sum : needless_count (findings_upto number a (suc k)) ≡ needless_of a.is_batch (take (k + 1) us) = omega (arith, apart, before, here, more) in
    sum ∙ ap (λ (i : ℕ). needless_of a.is_batch (take i us)) (sym next)

submission_counted : (number : ℕ) (a : Audited) → HasAll a → needless_count (submission_findings number a) ≡ needless_of a.is_batch a.audit.reduced.uses.items
submission_counted number a has =
    let us : List FenceUse = a.audit.reduced.uses.items in
    let size : length us ≡ length a.members.items = has.uses in
    let apart : needless_count (submission_findings number a) ≡ needless_count (head_findings number a) + needless_count (findings_upto number a (length a.members.items))
    = apart_counted (head_findings number a) (findings_upto number a (length a.members.items)) in
    let head : needless_count (head_findings number a) ≡ 0 = head_counted number a a.is_batch in
    let members : needless_count (findings_upto number a (length a.members.items)) ≡ needless_of a.is_batch (take (length a.members.items) us)
    = members_counted number a (length a.members.items) (omega (arith, size)) in
    let whole : take (length a.members.items) us ≡ us = take_all (length a.members.items) us (omega (arith, size)) in
    let sum : needless_count (submission_findings number a) ≡ needless_of a.is_batch (take (length a.members.items) us) = omega (arith, apart, head, members) in
    sum ∙ ap (needless_of a.is_batch) whole

-- ---- a submission without fences

-- a list has what f says of each place
listed : (n : ℕ) (f : ℕ → Bool) → (xs : List Bool) × (length xs ≡ n) × ((k : ℕ) → k < n → get_or xs k false ≡ f k)
listed zero f = ([], refl, λ k lt. absurd (omega (arith, lt)))
listed (suc n) f = one (listed n (λ k. f (suc k))) where
  one : (xs : List Bool) × (length xs ≡ n) × ((k : ℕ) → k < n → get_or xs k false ≡ f (suc k)) → (xs : List Bool) × (length xs ≡ suc n) × ((k : ℕ) → k < suc n → get_or xs k false ≡ f k)
  one (xs, size, each) = (f 0 ∷ xs, omega (arith, size), at) where
    at : (k : ℕ) → k < suc n → get_or (f 0 ∷ xs) k false ≡ f k
    at zero lt = refl
    at (suc k) lt = each k (omega (arith, lt))

set_more : (b : Bool) (g : List Bool) → count_by (λ (x : Bool). x) (b ∷ g) ≡ cond b 1 0 + count_by (λ (x : Bool). x) g
set_more b g = sum_by-cons (λ (x : Bool). cond x 1 0) b g

none_set : (g : List Bool) (k : ℕ) → count_by (λ (b : Bool). b) g ≡ 0 → ¬ HasFence g k
none_set [] k none h = absurd cc
none_set (true ∷ g) k none h =
    let more : count_by (λ (x : Bool). x) (true ∷ g) ≡ 1 + count_by (λ (x : Bool). x) g = set_more true g in
    absurd (omega (arith, none, more))
none_set (false ∷ g) zero none h = absurd cc
none_set (false ∷ g) (suc k) none h =
    let more : count_by (λ (x : Bool). x) (false ∷ g) ≡ 0 + count_by (λ (x : Bool). x) g = set_more false g in
    none_set g k (omega (arith, none, more)) h

use_unset : (C : ℕ → ℕ → Type 0) (bs vs bs' vs' ks : List Bool) (g h : List Bool) (k : ℕ) (u : FenceUse) → ¬ HasFence g k → UseHolds C bs vs ks g h k u → UseHolds C bs' vs' ks g h k u × (is_needless_use u ≡ false)
use_unset C bs vs bs' vs' ks g h k fence_use.NoFence none is = (is, refl)
use_unset C bs vs bs' vs' ks g h k fence_use.Needless none is = absurd (none is.0)
use_unset C bs vs bs' vs' ks g h k fence_use.Held none is = absurd (none is.0.given)
use_unset C bs vs bs' vs' ks g h k (fence_use.Guarding m) none is = absurd (none is.0.given)
use_unset C bs vs bs' vs' ks g h k (fence_use.Signalling j) none is = absurd (none is.0.given)
use_unset C bs vs bs' vs' ks g h k (fence_use.GuardingAndSignalling m j) none is = absurd (none is.0.given)
use_unset C bs vs bs' vs' ks g h k (fence_use.Needed i j) none is = absurd (none is.given)

-- where there is no fence, whatever can fail and shows, there is none to reduce
reduced_unset : (C : ℕ → ℕ → Type 0) (bs vs bs' vs' ks : List Bool) (g h : List Bool) (us : List FenceUse) → count_by (λ (b : Bool). b) g ≡ 0 → IsReduced C bs vs ks g us h → IsReduced C bs' vs' ks g us h
reduced_unset C bs vs bs' vs' ks g h us none is =
    let whole : fence_count h ≤ fence_count g
    = is.least g (record { same_length = refl; fences = λ k f. f }) (λ a b lt later c sep. sep) (λ m b can lt sep. sep) (λ a b shows lt sep. sep) (λ k held f. f) in
    record {
      less = is.less;
      separates = is.separates;
      guards = λ m b can lt sep. absurd (none_set g sep.at none sep.fence);
      signals = λ a b shows lt sep. absurd (none_set g sep.at none sep.fence);
      holds = is.holds;
      least = λ other less sep guards signals holds. omega (arith, whole, none);
      count = is.count;
      each = λ k lt. (use_unset C bs vs bs' vs' ks g h k (get_or us k fence_use.NoFence) (none_set g k none) (is.each k lt)).0;
    }

uses_unset : (C : ℕ → ℕ → Type 0) (bs vs ks g h : List Bool) (us : List FenceUse) → count_by (λ (b : Bool). b) g ≡ 0 → IsReduced C bs vs ks g us h → (b : Bool) → needless_of b us ≡ 0
uses_unset C bs vs ks g h us none is false = refl
uses_unset C bs vs ks g h us none is true = ap (count_by is_needless_use) (sym (take_all (length us) us (omega arith))) ∙ upto (length us) (omega arith) where
  upto : (k : ℕ) → k ≤ length us → count_by is_needless_use (take k us) ≡ 0
  upto zero le = refl
  upto (suc k) le =
      let size : length us ≡ length g = is.count in
      let here = use_unset C bs vs bs vs ks g h k (get_or us k fence_use.NoFence) (none_set g k none) (is.each k (omega (arith, size, le))) in
      let same : count_by is_needless_use (take (k + 1) us) ≡ count_by is_needless_use (take k us) = count_by_more_no is_needless_use us k fence_use.NoFence (omega (arith, le)) here.1 in
      let next : suc k ≡ k + 1 = omega arith in
      ap (λ (i : ℕ). count_by is_needless_use (take i us)) next ∙ (same ∙ upto k (omega (arith, le)))

-- a submission without fences, of which none is missing, has no needless one under any assumptions
pub unfenced : (accepted : Accepted) (assumed other : Assumptions) (es : List (List ℕ)) (s : Submission) (a : Audited) → IsAudited (terms accepted assumed) es s a
    → count_by (λ (b : Bool). b) a.audit.unaccepted.fences.items ≡ 0 → count_by (λ (b : Bool). b) a.audit.corrected.fences.items ≡ 0 → HasNeedless (terms accepted other) es s 0
unfenced accepted assumed other es s a is before none =
    let ms : List KnownMember = a.members.items in
    let own : List (List ℕ) = members_in es s in
    let head : List ℕ = slice_index_or es (head_at s) [] in
    let u = is.audit.reduced in
    let failing = listed (length own) (λ (k : ℕ). can_fail other (get_or ms k (member.Unknown Operation)) (get_or own k [])) in
    let showing = listed (length own) (λ (k : ℕ). can_show other head (get_or ms k (member.Unknown Operation)) (get_or own k [])) in
    reaudited accepted assumed other es s a a.audit.reduced 0 is (record {
      fallible = failing.0;
      visible = showing.0;
      are_fallible = record { count = failing.1; each = failing.2 };
      are_visible = record { count = showing.1; each = showing.2 };
      reduced = record {
        uses_before = u.uses_before;
        stay = u.stay;
        needed = reduced_unset (PossibleConflict ms) is.fallible is.visible failing.0 showing.0 []
            a.audit.unaccepted.fences.items u.stay u.uses_before before u.needed;
        held = u.held;
        are_held = u.are_held;
        reduced = reduced_unset (PossibleConflict ms) is.fallible is.visible failing.0 showing.0 u.held
            a.audit.corrected.fences.items a.audit.reduced.fences.items a.audit.reduced.uses.items none u.reduced;
      };
    }) (sym (uses_unset (PossibleConflict ms) is.fallible is.visible u.held a.audit.corrected.fences.items a.audit.reduced.fences.items a.audit.reduced.uses.items none u.reduced a.is_batch))

-- ---- submission by submission

-- of no submission there is none
pub needless_none : (assumed : Terms) (es : List (List ℕ)) (ss : List Submission) → AreNeedless assumed es (take 0 ss) 0
needless_none assumed es ss = ([], tt, refl)

-- with those of one more
pub needless_next : (assumed : Terms) (es : List (List ℕ)) (ss : List Submission) (i n m : ℕ) (d : Submission) → i < length ss → AreNeedless assumed es (take i ss) n
    → HasNeedless assumed es (get_or ss i d) m → AreNeedless assumed es (take (i + 1) ss) (n + m)
needless_next assumed es ss i n m d lt (audits, all, sum) (a, is, more) =
    let next : AreAudited assumed es (take (i + 1) ss) (audits ++ a ∷ []) = audit_pushed assumed es ss i d audits (audits ++ a ∷ []) a all lt is refl in
    let number : ℕ = length audits + 0 in
    let joined : recording_findings 0 (audits ++ a ∷ []) ≡ recording_findings 0 audits ++ recording_findings number (a ∷ []) = findings_joined 0 audits (a ∷ []) in
    let apart : needless_count (recording_findings 0 audits ++ recording_findings number (a ∷ [])) ≡ needless_count (recording_findings 0 audits) + needless_count (recording_findings number (a ∷ []))
    = apart_counted (recording_findings 0 audits) (recording_findings number (a ∷ [])) in
    let last : needless_count (recording_findings number (a ∷ [])) ≡ needless_count (submission_findings number a) + 0
    = apart_counted (submission_findings number a) [] in
    let one : needless_count (submission_findings number a) ≡ needless_of a.is_batch a.audit.reduced.uses.items = submission_counted number a (has_all assumed es (get_or ss i d) a is) in
    let total : n + m ≡ needless_count (recording_findings 0 audits ++ recording_findings number (a ∷ [])) = omega (arith, sum, more, apart, last, one) in
    (audits ++ a ∷ [], next, total ∙ ap needless_count (sym joined))

-- of all
pub needless_all : (assumed : Terms) (es : List (List ℕ)) (ss : List Submission) (i n : ℕ) → length ss ≤ i → AreNeedless assumed es (take i ss) n → AreNeedless assumed es ss n
needless_all assumed es ss i n le all = subst (λ (z : List Submission). AreNeedless assumed es z n) (take_all i ss le) all

-- there is an audit of each submission
pub as_many : (assumed : Terms) (es : List (List ℕ)) (ss : List Submission) (audits : List Audited) → AreAudited assumed es ss audits → length audits ≡ length ss
as_many assumed es [] [] all = refl
as_many assumed es (s ∷ ss) (a ∷ audits) (first, all) =
    let rest : length audits ≡ length ss = as_many assumed es ss audits all in
    omega (arith, rest)
as_many assumed es [] (a ∷ audits) all = absurd all
as_many assumed es (s ∷ ss) [] all = absurd all

-- each is of its submission
pub audit_at : (assumed : Terms) (es : List (List ℕ)) (ss : List Submission) (audits : List Audited) (i : ℕ) (d : Submission) (e : Audited) → AreAudited assumed es ss audits → i < length ss
    → IsAudited assumed es (get_or ss i d) (get_or audits i e)
audit_at assumed es [] [] i d e all lt = absurd (omega (arith, lt))
audit_at assumed es (s ∷ ss) (a ∷ audits) zero d e (first, all) lt = first
audit_at assumed es (s ∷ ss) (a ∷ audits) (suc i) d e (first, all) lt = audit_at assumed es ss audits i d e all (omega (arith, lt))
audit_at assumed es [] (a ∷ audits) i d e all lt = absurd all
audit_at assumed es (s ∷ ss) [] i d e all lt = absurd all

-- the same of what was found at a place of both lists
pub audited_there : (assumed : Terms) (es : List (List ℕ)) (ss : List Submission) (audits : List Audited) (k : ℕ) (s : Submission) (a : Audited) → AreAudited assumed es ss audits → k < length ss
    → s ≡ get_or ss k s → a ≡ get_or audits k a → IsAudited assumed es s a
audited_there assumed es ss audits k s a all lt one other = rw (one, other) (audit_at assumed es ss audits k s a all lt)
