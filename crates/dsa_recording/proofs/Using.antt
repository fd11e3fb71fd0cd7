-- Which keys are used.
use Rattle.std.proofs.Common.{◌≡◌, ◌↔◌, ◌⊎◌, ℕ, zero, suc, ◌+◌, ◌<◌, ◌≤◌, get_or, drop, inl, inr, Bool, true, false, cond, List, [], ◌∷◌, length, subst, sym, ap, refl, ◌∙◌, arith}
use Rattle.std.specs.Prelude.{◌||◌, Result, Ok, Err, OnOk, String, string_bytes}
use Rattle.std.specs.Global.{Global}
use Rattle.std.specs.Str.{bytes_eq}
use Rattle.std.specs.List.{AllByRecursion, list_any}
use Rattle.std.specs.Set.{IsUnion}
use Rattle.std.specs.Ordering.{eq_by_cmp}
use Rattle.std.specs.String.{string_cmp}
use Rattle.dsa_settings.specs.Plan.{Group}
use Rattle.dsa_audit.specs.declared.missing.FencePlace.{FencePlace}
use Rattle.dsa_audit.specs.declared.missing.FencePlace.TheVariants as fence_place
use Rattle.dsa_audit.specs.Audits.{HasFence, IsCorrected, IsSeparated, PlaceHolds}
use Rattle.dsa_audit.specs.Members.{AreHazardsBetween}
use Rattle.dsa_audit.specs.Repeats.{OrderMatters}
use Rattle.std.proofs.lemmas.Slice.Eq.{bytes_eq-Decides}
use Rattle.dsa_audit.specs.declared.hazard.Hazards.{Hazards}
use Rattle.dsa_recording.specs.declared.accepted.Accepted.{Accepted}
use Rattle.dsa_recording.specs.declared.answer.AuditOptions.{AuditOptions}
use Rattle.dsa_recording.specs.declared.detail.Detail.{Detail}
use Rattle.dsa_recording.specs.declared.findings.Finding.{Finding}
use Rattle.dsa_recording.specs.declared.stream.Submission.{Submission}
use Rattle.dsa_recording.specs.declared.submission.Audited.{Audited}
use Rattle.dsa_recording.specs.Submissions.{members_in}
use Rattle.dsa_recording.specs.Details.{IsDetail, IsRight}
use Rattle.dsa_recording.specs.EntryKeys.{fence_key}
use Rattle.dsa_recording.specs.Keys.{key_words}
use Rattle.dsa_recording.specs.Pairs.{has_key}
use Rattle.dsa_recording.specs.Reports.{Reported}
use Rattle.dsa_recording.specs.Uses.{AddsKeys, Excuses, ExcusesSome, NeedFence, TakesAcceptedOut, TakesOut, TakesSomeOut}
use Rattle.dsa_recording.proofs.Fronts.{Matches, found_text}
use Rattle.dsa_recording.proofs.Keyed.{one_hazards, one_key}

-- ---- sets of keys

-- nothing is added
pub adds_none : (P : List ℕ → Type 0) (used : Accepted) → ((key : List ℕ) → ¬ P key) → AddsKeys P used used
adds_none P used never key = (
  λ has. inl has,
  λ either. elim either [
    | inl there ↦ there
    | inr p ↦ absurd (never key p)
  ],
)

-- one key is added
pub adds_line : (P : List ℕ → Type 0) (line : List ℕ) (old new : Accepted) → ((other : List ℕ) → has_key new other ≡ cond (bytes_eq line other) true (has_key old other)) → P line
    → AddsKeys (λ key. (key ≡ line) × P key) old new
adds_line P line old new is p key = by (bytes_eq line key) refl where
  by : (b : Bool) → bytes_eq line key ≡ b → (has_key new key ≡ true) ↔ ((has_key old key ≡ true) ⊎ ((key ≡ line) × P key))
  by true e =
      let same : line ≡ key = (bytes_eq-Decides line key).0 e in
      let here : has_key new key ≡ true = is key ∙ ap (λ (b : Bool). cond b true (has_key old key)) e in
      (λ _. inr (sym same, subst P same p), λ _. here)
  by false e =
      let kept : has_key new key ≡ has_key old key = is key ∙ ap (λ (b : Bool). cond b true (has_key old key)) e in (
        λ has. inl (sym kept ∙ has),
        λ either. elim either [
          | inl there ↦ kept ∙ there
          | inr both ↦ let yes : bytes_eq line key ≡ true = (bytes_eq-Decides line key).1 (sym both.0) in absurd cc
        ],
      )

-- a key that is there already
pub adds_there : (P : List ℕ → Type 0) (line : List ℕ) (used : Accepted) → has_key used line ≡ true → AddsKeys (λ key. (key ≡ line) × P key) used used
adds_there P line used there key = (
  λ has. inl has,
  λ either. elim either [
    | inl has ↦ has
    | inr both ↦ ap (has_key used) both.0 ∙ there
  ],
)

-- the same keys in other words
pub adds_same : (P Q : List ℕ → Type 0) (old new : Accepted) → ((key : List ℕ) → P key ↔ Q key) → AddsKeys P old new → AddsKeys Q old new
adds_same P Q old new same adds key = (
  λ has. elim ((adds key).0 has) [
    | inl there ↦ inl there
    | inr p ↦ inr ((same key).0 p)
  ],
  λ either. elim either [
    | inl there ↦ (adds key).1 (inl there)
    | inr q ↦ (adds key).1 (inr ((same key).1 q))
  ],
)

-- what adds the keys of two kinds adds those of either
pub adds_both : (P Q R : List ℕ → Type 0) (old middle new : Accepted) → AddsKeys P old middle → AddsKeys Q middle new → ((key : List ℕ) → R key ↔ (P key ⊎ Q key))
    → AddsKeys R old new
adds_both P Q R old middle new first second is key = (
  λ has. elim ((second key).0 has) [
    | inl before ↦ elim ((first key).0 before) [
      | inl there ↦ inl there
      | inr p ↦ inr ((is key).1 (inl p))
    ]
    | inr q ↦ inr ((is key).1 (inr q))
  ],
  λ either. elim either [
    | inl there ↦ (second key).1 (inl ((first key).1 (inl there)))
    | inr r ↦ elim ((is key).0 r) [
      | inl p ↦ (second key).1 (inl ((first key).1 (inr p)))
      | inr q ↦ (second key).1 (inr q)
    ]
  ],
)

-- the keys that are there, and those that are still to come
abbrev pub LeftKeys : (List ℕ → Type 0) → Accepted → List ℕ → Type 0
LeftKeys R used key = (has_key used key ≡ true) ⊎ R key

-- those of one more are there
pub left_next : (P R S : List ℕ → Type 0) (old new : Accepted) → AddsKeys P old new → ((key : List ℕ) → S key ↔ (P key ⊎ R key)) → (key : List ℕ) → LeftKeys R new key ↔ LeftKeys S old key
left_next P R S old new adds is key = (
  λ left. elim left [
    | inl has ↦ elim ((adds key).0 has) [
      | inl there ↦ inl there
      | inr p ↦ inr ((is key).1 (inl p))
    ]
    | inr r ↦ inr ((is key).1 (inr r))
  ],
  λ left. elim left [
    | inl there ↦ inl ((adds key).1 (inl there))
    | inr s ↦ elim ((is key).0 s) [
      | inl p ↦ inl ((adds key).1 (inr p))
      | inr r ↦ inr r
    ]
  ],
)

pub left_chain : (P Q R : List ℕ → Type 0) (one two three : Accepted) → ((key : List ℕ) → LeftKeys P three key ↔ LeftKeys Q two key) → ((key : List ℕ) → LeftKeys Q two key ↔ LeftKeys R one key)
    → (key : List ℕ) → LeftKeys P three key ↔ LeftKeys R one key
left_chain P Q R one two three second first key = (λ left. (first key).0 ((second key).0 left), λ left. (second key).1 ((first key).1 left))

-- nothing is still to come
pub left_none : (P R : List ℕ → Type 0) (old new : Accepted) → ((key : List ℕ) → ¬ P key) → ((key : List ℕ) → LeftKeys P new key ↔ LeftKeys R old key) → AddsKeys R old new
left_none P R old new never left key = (
  λ has. (left key).0 (inl has),
  λ either. elim ((left key).1 either) [
    | inl has ↦ has
    | inr p ↦ absurd (never key p)
  ],
)

-- ---- the keys of two sets

either_true : (a b : Bool) → (a || b) ≡ true → (a ≡ true) ⊎ (b ≡ true)
either_true true b e = inl refl
either_true false b e = inr e

from_either : (a b : Bool) → (a ≡ true) ⊎ (b ≡ true) → (a || b) ≡ true
from_either true b either = refl
from_either false b (inl never) = let end : false ≡ true = never in absurd cc
from_either false b (inr e) = e

-- a set with the keys of two has their texts
pub union_texts : (xs ys zs : List (String Global)) → IsUnion (eq_by_cmp string_cmp) xs ys zs
    → (bs : List ℕ) → (list_any (Matches bs) zs ≡ true) ↔ ((list_any (Matches bs) xs ≡ true) ⊎ (list_any (Matches bs) ys ≡ true))
union_texts xs ys zs union bs = (
  λ there. either_true (list_any (Matches bs) xs) (list_any (Matches bs) ys) (sym (same (found_text bs zs there)) ∙ there),
  λ either. elim either [
    | inl there ↦ same (found_text bs xs there) ∙ from_either (list_any (Matches bs) xs) (list_any (Matches bs) ys) (inl there)
    | inr there ↦ same (found_text bs ys there) ∙ from_either (list_any (Matches bs) xs) (list_any (Matches bs) ys) (inr there)
  ],
) where
  same : (k : String Global) × (bs ≡ string_bytes k) → list_any (Matches bs) zs ≡ (list_any (Matches bs) xs || list_any (Matches bs) ys)
  same (k, e) = subst (λ (w : List ℕ). list_any (Matches w) zs ≡ (list_any (Matches w) xs || list_any (Matches w) ys)) (sym e) (union k)

-- ---- what a key is used for

-- those that a key takes out do
pub takes_needed : (es : List (List ℕ)) (a : Audited) (key : List ℕ) (earlier later : ℕ) (t : TakesOut es a key) → t.earlier ≡ earlier → t.later ≡ later → NeedFence a earlier later
takes_needed es a key earlier later t first second =
    subst (λ (i : ℕ). NeedFence a i later) first (subst (λ (j : ℕ). NeedFence a t.earlier j) second (t.before, t.within, t.matters, t.unseparated))

-- and the key is that of the two
pub takes_own : (es : List (List ℕ)) (a : Audited) (key : List ℕ) (earlier later : ℕ) (hs : Hazards) (t : TakesOut es a key) → t.earlier ≡ earlier → t.later ≡ later
    → AreHazardsBetween a.operands.items earlier later hs → key ≡ fence_key es earlier later hs
takes_own es a key earlier later hs t first second are =
    let own : AreHazardsBetween a.operands.items earlier later t.hazards =
    subst (λ (i : ℕ). AreHazardsBetween a.operands.items i later t.hazards) first (subst (λ (j : ℕ). AreHazardsBetween a.operands.items t.earlier j t.hazards) second t.are) in
    t.key_is ∙ (ap (λ (i : ℕ). fence_key es i t.later t.hazards) first ∙ (ap (λ (j : ℕ). fence_key es earlier j t.hazards) second
    ∙ ap (fence_key es earlier later) (one_hazards a.operands.items earlier later t.hazards hs own are)))

-- no fence is missing at any place
right_at : (places : List FencePlace) → AllByRecursion IsRight places → (k : ℕ) → IsRight (get_or places k fence_place.NoFence)
right_at [] all k = tt
right_at (p ∷ ps) all zero = all.0
right_at (p ∷ ps) all (suc k) = right_at ps all.1 k

given_by : (C : ℕ → ℕ → Type 0) (g h : Group) (k : ℕ) (p : FencePlace) → IsRight p → PlaceHolds C g h k p → HasFence h k → HasFence g k
given_by C g h k fence_place.NoFence right holds fence = absurd (holds.1 fence)
given_by C g h k fence_place.Given right holds fence = holds.0
given_by C g h k (fence_place.Missing i) right holds fence = absurd right

-- so the recorded fences separate all conflicts, and no key takes a pair out
pub takes_none : (es : List (List ℕ)) (a : Audited)
    → IsCorrected (OrderMatters a.actions.items a.operands.items) a.fences.items a.audit.unaccepted.places.items a.audit.unaccepted.fences.items
    → length a.fences.items ≡ length a.operands.items → AllByRecursion IsRight a.audit.unaccepted.places.items → (key : List ℕ) → ¬ TakesOut es a key
takes_none es a is known right key t =
    let C = OrderMatters a.actions.items a.operands.items in
    let g = a.fences.items in
    let h = a.audit.unaccepted.fences.items in
    let long = is.more.same_length in
    let apart : IsSeparated h t.earlier t.later = is.separates t.earlier t.later t.before (omega (arith, t.within, known, long)) t.matters in
    let holds : PlaceHolds C g h apart.at (get_or a.audit.unaccepted.places.items apart.at fence_place.NoFence) =
    is.each apart.at (omega (arith, apart.up_to, t.within, known)) in
    let fence : HasFence g apart.at =
    given_by C g h apart.at (get_or a.audit.unaccepted.places.items apart.at fence_place.NoFence) (right_at a.audit.unaccepted.places.items right apart.at) holds apart.fence in
    t.unseparated apart.at apart.after apart.up_to fence

-- what is so of a success is so of it in other words
pub on_ok : {E : Type 0} (r : Result Unit E) (P Q : Type 0) → (P → Q) → OnOk r P → OnOk r Q
on_ok (Ok x) P Q f p = f p
on_ok (Err e) P Q f p = tt

-- a finding has one key
pub excuses_one : (options : AuditOptions) (es : List (List ℕ)) (r : Reported) (f : Finding) (d : Detail) (key : List ℕ) → IsDetail es r f d → Excuses options es r f key → key ≡ key_words es d
excuses_one options es r f d key is (harmful, (e, there, same)) = same ∙ one_key es r f e d there is

-- ---- loops over submissions and findings

-- one more finding
pub finding_next : (options : AuditOptions) (es : List (List ℕ)) (r : Reported) (f : Finding) (after : List Finding) (old new : Accepted)
    → AddsKeys (λ key. (has_key options.accepted.now key ≡ true) × Excuses options es r f key) old new
    → (key : List ℕ) → LeftKeys (λ key. (has_key options.accepted.now key ≡ true) × ExcusesSome options es r after key) new key
    ↔ LeftKeys (λ key. (has_key options.accepted.now key ≡ true) × ExcusesSome options es r (f ∷ after) key) old key
finding_next options es r f after old new adds =
    left_next (λ key. (has_key options.accepted.now key ≡ true) × Excuses options es r f key) (λ key. (has_key options.accepted.now key ≡ true) × ExcusesSome options es r after key)
    (λ key. (has_key options.accepted.now key ≡ true) × ExcusesSome options es r (f ∷ after) key) old new adds
    (λ key. (
      λ here. elim here.1 [
        | inl first ↦ inl (here.0, first)
        | inr more ↦ inr (here.0, more)
      ],
      λ either. elim either [
        | inl first ↦ (first.0, inl first.1)
        | inr more ↦ (more.0, inr more.1)
      ],
    ))

-- a list that is cut before an element
pub drop_next : {X : Type 0} (xs : List X) (k : ℕ) (d : X) → k < length xs → drop k xs ≡ get_or xs k d ∷ drop (k + 1) xs
drop_next [] k d lt = absurd (omega (arith, lt))
drop_next (x ∷ xs) zero d lt = refl
drop_next (x ∷ xs) (suc k) d lt =
    let next : suc k + 1 ≡ suc (k + 1) = omega arith in
    drop_next xs k d (omega (arith, lt)) ∙ ap (λ n. get_or xs k d ∷ drop n (x ∷ xs)) (sym next)

-- nothing comes after the last element
pub drop_past : {X : Type 0} (xs : List X) (k : ℕ) → length xs ≤ k → drop k xs ≡ []
drop_past [] zero le = refl
drop_past [] (suc k) le = refl
drop_past (x ∷ xs) zero le = absurd (omega (arith, le))
drop_past (x ∷ xs) (suc k) le = drop_past xs k (omega (arith, le))

-- one more submission
pub submission_next : (accepted : Accepted) (es : List (List ℕ)) (s : Submission) (ss : List Submission) (a : Audited) (audits : List Audited) (old new : Accepted)
    → AddsKeys (TakesAcceptedOut accepted (members_in es s) a) old new
    → (key : List ℕ) → LeftKeys (λ key. (has_key accepted key ≡ true) × TakesSomeOut es ss audits key) new key
    ↔ LeftKeys (λ key. (has_key accepted key ≡ true) × TakesSomeOut es (s ∷ ss) (a ∷ audits) key) old key
submission_next accepted es s ss a audits old new adds =
    left_next (TakesAcceptedOut accepted (members_in es s) a) (λ key. (has_key accepted key ≡ true) × TakesSomeOut es ss audits key)
    (λ key. (has_key accepted key ≡ true) × TakesSomeOut es (s ∷ ss) (a ∷ audits) key) old new adds
    (λ key. (
      λ here. elim here.1 [
        | inl first ↦ inl (here.0, first)
        | inr more ↦ inr (here.0, more)
      ],
      λ either. elim either [
        | inl first ↦ (first.0, inl first.1)
        | inr more ↦ (more.0, inr more.1)
      ],
    ))
