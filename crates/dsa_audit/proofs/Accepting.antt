-- Accepted pairs, and what is missing and needed without them.
use Rattle.std.proofs.Common.{◌≡◌, ◌↔◌, ℕ, zero, suc, ◌+◌, ◌-◌, ◌<◌, ◌≤◌, inl, inr, Bool, true, false, List, [], length, get_or, Option, Some, None, sym, ◌∙◌, subst, arith, slice_get}
use Rattle.std.specs.Prelude.{MatchOption, if◌then◌else◌}
use Rattle.std.proofs.lemmas.Bool.{true≢false, cases_eq, cases_lt}
use Rattle.std.proofs.lemmas.Option.{slice_get-get_or}
use Rattle.dsa_conflicts.specs.Access.{IsGreatest}
use Rattle.dsa_settings.specs.Plan.{Group}
use Rattle.dsa_audit.specs.declared.audit.Audit.{Audit}
use Rattle.dsa_audit.specs.declared.member.Member.{Member}
use Rattle.dsa_audit.specs.declared.missing.FencePlace.{FencePlace}
use Rattle.dsa_audit.specs.declared.missing.FencePlace.TheVariants as fence_place
use Rattle.dsa_audit.specs.declared.needless.FenceUse.{FenceUse}
use Rattle.dsa_audit.specs.declared.needless.FenceUse.TheVariants as fence_use
use Rattle.dsa_audit.specs.declared.repeats.Action.{Action}
use Rattle.dsa_audit.specs.Accepted.{IsLeft}
use Rattle.dsa_audit.specs.Audits.{HasFence, IsCorrected, IsHeld, IsNeeded, IsReduced, IsSeparated, PlaceHolds, ShareEpoch, UseHolds}
use Rattle.dsa_audit.specs.Laws.{IsAudit}
use Rattle.dsa_audit.specs.Members.{PossibleConflict}
use Rattle.dsa_audit.specs.Repeats.{OrderMatters}
use Rattle.dsa_conflicts.specs.Last.{IsLastOf}
use Rattle.dsa_audit.specs.Steps.{AreLasts, IsLastFrom, IsLeftWithin, IsUnlisted, NoneFrom}
use Rattle.dsa_audit.proofs.Flags.{fence_within}
use Rattle.dsa_audit.proofs.Guards.{IsLastGiven, first_after, given_before, given_here}

-- ---- the last conflict of each member is enough

pub last_before : (C : ℕ → ℕ → Type 0) (lasts : List (Option ℕ)) (a b : ℕ) → AreLasts C lasts → IsLastOf lasts a b → a < b
last_before C lasts a b are last = (are b (Some a) last).0.0

place_by : (C D : ℕ → ℕ → Type 0) (g h : Group) (k : ℕ) (m : FencePlace) → ((a b : ℕ) → C a b → D a b) → PlaceHolds C g h k m → PlaceHolds D g h k m
place_by C D g h k fence_place.NoFence more is = is
place_by C D g h k fence_place.Given more is = is
place_by C D g h k (fence_place.Missing i) more is =
    record { before = is.before; conflict = more i k is.conflict; unseparated = is.unseparated; added = is.added; alone = is.alone }

separated_by : (C : ℕ → ℕ → Type 0) (lasts : List (Option ℕ)) (h : Group) (a b : ℕ) (o : Option ℕ) → AreLasts C lasts → slice_get lasts b ≡ Some o → a < b → C a b
    → ((l : ℕ) → IsLastOf lasts l b → IsSeparated h l b) → IsSeparated h a b
separated_by C lasts h a b None are at ordered conflict separates = absurd (are b None at a (ordered, conflict))
separated_by C lasts h a b (Some l) are at ordered conflict separates =
    let p = separates l at in
    record { at = p.at; after = omega (arith, p.after, (are b (Some l) at).1 a (ordered, conflict)); up_to = p.up_to; fence = p.fence }

pub corrected_of : (C : ℕ → ℕ → Type 0) (lasts : List (Option ℕ)) (g : Group) (places : List FencePlace) (h : Group) → length lasts ≡ length g → AreLasts C lasts
    → IsCorrected (IsLastOf lasts) g places h → IsCorrected C g places h
corrected_of C lasts g places h count are is =
    record {
      more = is.more;
      separates = λ a b ordered within conflict.
          separated_by C lasts h a b (get_or lasts b None) are (slice_get-get_or lasts b None (omega (arith, count, is.more.same_length, within))) ordered conflict
          (λ l last. is.separates l b (last_before C lasts l b are last) within last);
      least = λ other more separates. is.least other more (λ a b ordered within last. separates a b ordered within (are b (Some a) last).0.1);
      count = is.count;
      each = λ k below. place_by (IsLastOf lasts) C g h k (get_or places k fence_place.NoFence) (λ a b last. (are b (Some a) last).0.1) (is.each k below);
    }

-- ---- what recorded fences separate is separated

pub left_of : (C A : ℕ → ℕ → Type 0) (g : Group) (places : List FencePlace) (h : Group) → IsCorrected (IsLeftWithin C A g) g places h → IsCorrected (IsLeft C A g) g places h
left_of C A g places h is =
    record {
      more = is.more;
      separates = λ a b ordered within (conflict, unaccepted).
          elim (first_after g a b) [
            | inl q ↦ record { at = q.place; after = q.after; up_to = q.up_to; fence = is.more.fences q.place q.fence }
            | inr share ↦ is.separates a b ordered within ((conflict, λ lists. unaccepted (share, lists)), share)
          ];
      least = λ other more separates.
          is.least other more (λ a b ordered within left. separates a b ordered within (left.0.0, λ accepted. left.0.1 accepted.1));
      count = is.count;
      each = λ k below.
          place_by (IsLeftWithin C A g) (IsLeft C A g) g h k (get_or places k fence_place.NoFence) (λ a b left. (left.0.0, λ accepted. left.0.1 accepted.1))
          (is.each k below);
    }

-- the last conflict that is not listed, from the first member of an epoch on, is the last in the epoch
pub left_greatest : (C A : ℕ → ℕ → Type 0) (g : Group) (epoch at : ℕ) (o : Option ℕ) → IsLastGiven g (at + 1) epoch
    → MatchOption o (NoneFrom (IsUnlisted C A) epoch at at) (λ i. IsLastFrom (IsUnlisted C A) epoch at at i)
    → IsGreatest (λ a. (a < at) × IsLeftWithin C A g a at) o
left_greatest C A g epoch at o begun is = found o is where
  within : (a : ℕ) → ShareEpoch g a at → epoch ≤ a
  within a share =
      elim (cases_lt a epoch) [
        | inl before ↦
            let some : 0 < epoch = omega arith in
            let up_to : epoch < at + 1 = begun.below some in
            absurd (share epoch before (omega arith) (begun.starts some))
        | inr le ↦ le
      ]

  share : (a : ℕ) → epoch ≤ a → ShareEpoch g a at
  share a le k after up_to f = begun.open_after k (omega arith) (omega arith) f

  found : (p : Option ℕ) → MatchOption p (NoneFrom (IsUnlisted C A) epoch at at) (λ i. IsLastFrom (IsUnlisted C A) epoch at at i)
      → IsGreatest (λ a. (a < at) × IsLeftWithin C A g a at) p
  found None none = λ a (lt, left). none a (within a left.1) lt left.0
  found (Some i) last = (
    (last.ends, (last.conflict, share i last.begun)),
    λ a (lt, left).
        elim (cases_lt i a) [
          | inl later ↦ absurd (last.last a later lt left.0)
          | inr le ↦ le
        ],
  )

-- ---- the search for the last conflict that is left

-- no conflict that is left is after member i, which conflicts with `later`
pub record LeftFrom (C A : ℕ → ℕ → Type 0) (later i : ℕ) : Type 0 where
  pub before : i < later
  pub conflict : C i later
  pub apart : (x : ℕ) → i < x → x < later → ¬ IsUnlisted C A x later

pub left_start : (C A : ℕ → ℕ → Type 0) (later i : ℕ) → IsGreatest (λ a. (a < later) × C a later) (Some i) → LeftFrom C A later i
left_start C A later i last =
    record {
      before = last.0.0;
      conflict = last.0.1;
      apart = λ x after up_to left. omega (arith, after, last.1 x (up_to, left.0));
    }

pub left_none : (C A : ℕ → ℕ → Type 0) (epoch later : ℕ) → IsGreatest (λ a. (a < later) × C a later) None → NoneFrom (IsUnlisted C A) epoch later later
left_none C A epoch later none i begun ends left = none i (ends, left.0)

pub left_here : (C A : ℕ → ℕ → Type 0) (epoch later i : ℕ) → LeftFrom C A later i → epoch ≤ i → ¬ A i later → IsLastFrom (IsUnlisted C A) epoch later later i
left_here C A epoch later i s begun unlisted =
    record { begun = begun; ends = s.before; conflict = (s.conflict, unlisted); last = s.apart }

-- none is left from member i on, if that is listed
after_listed : (C A : ℕ → ℕ → Type 0) (later i x : ℕ) → LeftFrom C A later i → A i later → i ≤ x → x < later → ¬ IsUnlisted C A x later
after_listed C A later i x s listed from up_to left =
    elim (cases_lt i x) [
      | inl after ↦ s.apart x after up_to left
      | inr here ↦ let same : i ≡ x = omega (arith, from, here) in left.1 (subst (λ (z : ℕ). A z later) same listed)
    ]

pub left_next : (C A : ℕ → ℕ → Type 0) (later i next : ℕ) → LeftFrom C A later i → A i later → IsGreatest (λ a. (a < i) × C a later) (Some next) → LeftFrom C A later next
left_next C A later i next s listed last =
    record {
      before = omega (arith, last.0.0, s.before);
      conflict = last.0.1;
      apart = λ x after up_to left.
          elim (cases_lt x i) [
            | inl early ↦ omega (arith, after, last.1 x (early, left.0))
            | inr from ↦ after_listed C A later i x s listed from up_to left
          ];
    }

pub left_end : (C A : ℕ → ℕ → Type 0) (epoch later i : ℕ) → LeftFrom C A later i → A i later → IsGreatest (λ a. (a < i) × C a later) None → NoneFrom (IsUnlisted C A) epoch later later
left_end C A epoch later i s listed none x begun ends left =
    elim (cases_lt x i) [
      | inl early ↦ none x (early, left.0)
      | inr from ↦ after_listed C A later i x s listed from ends left
    ]

pub left_out : (C A : ℕ → ℕ → Type 0) (epoch later i : ℕ) → LeftFrom C A later i → i < epoch → NoneFrom (IsUnlisted C A) epoch later later
left_out C A epoch later i s low x begun ends left = s.apart x (omega (arith, low, begun)) ends left

-- ---- two that correct one batch have the same fences

module _ (C D : ℕ → ℕ → Type 0) (g : Group) where
  one_way : (places : List FencePlace) (h h' : Group) (k : ℕ) (m : FencePlace) → ((a b : ℕ) → C a b → D a b)
      → ((j : ℕ) → j < k → HasFence h' j → HasFence h j)
      → ((k : ℕ) → HasFence g k → HasFence h' k)
      → ((a b : ℕ) → a < b → b < length h' → D a b → IsSeparated h' a b) → k < length h' → PlaceHolds C g h k m → HasFence h k → HasFence h' k
  one_way places h h' k fence_place.NoFence more before given separates within is f = absurd (is.1 f)
  one_way places h h' k fence_place.Given more before given separates within is f = given k is.0
  one_way places h h' k (fence_place.Missing i) more before given separates within is f =
      let p = separates i k is.before within (more i k is.conflict) in
      elim (cases_lt p.at k) [
        | inl early ↦ absurd (is.alone p.at p.after early (before p.at early p.fence))
        | inr from ↦ let e : p.at ≡ k = omega (arith, p.up_to) in subst (HasFence h') e p.fence
      ]

pub same_corrected : (C D : ℕ → ℕ → Type 0) (g : Group) (places places' : List FencePlace) (h h' : Group) → ((a b : ℕ) → C a b → D a b) → ((a b : ℕ) → D a b → C a b)
    → IsCorrected C g places h → IsCorrected D g places' h' → (n k : ℕ) → k < n → HasFence h k ↔ HasFence h' k
same_corrected C D g places places' h h' more less is is' zero k lt = absurd (omega arith)
same_corrected C D g places places' h h' more less is is' (suc n) k lt =
    elim (cases_lt k n) [
      | inl below ↦ same_corrected C D g places places' h h' more less is is' n k below
      | inr last ↦
          let before : (j : ℕ) → j < k → HasFence h j ↔ HasFence h' j =
          λ j earlier. same_corrected C D g places places' h h' more less is is' n j (omega arith) in (
            (λ f.
                let w : k < length g = omega (arith, fence_within h k f, is.more.same_length) in
                one_way C D g places h h' k (get_or places k fence_place.NoFence) more (λ j earlier. (before j earlier).1) is'.more.fences is'.separates
                (omega (arith, w, is'.more.same_length)) (is.each k w) f),
            (λ f.
                let w : k < length g = omega (arith, fence_within h' k f, is'.more.same_length) in
                one_way D C g places' h' h k (get_or places' k fence_place.NoFence) less (λ j earlier. (before j earlier).0) is.more.fences is.separates
                (omega (arith, w, is.more.same_length)) (is'.each k w) f),
          )
    ]

-- ---- and so have two that reduce it

-- the fences of the one are those of the other
abbrev HaveSame : Group → Group → Type 0
HaveSame g g' = (k : ℕ) → HasFence g k ↔ HasFence g' k

module _ (C : ℕ → ℕ → Type 0) (bs vs ks ks' : List Bool) (g g' h h' : Group) (uses uses' : List FenceUse) (long : length g' ≡ length g) (same : HaveSame g g')
    (is : IsReduced C bs vs ks g uses h) (is' : IsReduced C bs vs ks' g' uses' h') (held : (k : ℕ) → IsHeld ks k → HasFence h' k) where
  needed_too : (k i j : ℕ) → ((p : ℕ) → p < k → HasFence h' p → HasFence h p) → IsNeeded C g h k i j → HasFence h' k
  needed_too k i j before n =
      let p = is'.separates i j (omega (arith, n.before, n.after)) (omega (arith, n.within, long)) n.conflict
      (record { at = k; after = n.before; up_to = n.after; fence = (same k).0 n.given }) in
      elim (cases_lt p.at k) [
        | inl early ↦ absurd (n.alone_before p.at p.after early (before p.at early p.fence))
        | inr from ↦
            elim (cases_eq p.at k) [
              | inl e ↦ subst (HasFence h') e p.fence
              | inr ne ↦ absurd (n.alone_after p.at (omega arith) p.up_to ((same p.at).1 (is'.less.fences p.at p.fence)))
            ]
      ]

  guard_too : (k m : ℕ) → HasFence g k → (m < k) → (get_or bs m false ≡ true) → ((n : ℕ) → m < n → n < k → ¬ HasFence g n) → HasFence h' k
  guard_too k m given before fails clear =
      let p = is'.guards m k fails (fence_within g' k ((same k).0 given)) (record { at = k; after = before; up_to = omega arith; fence = (same k).0 given }) in
      elim (cases_lt p.at k) [
        | inl early ↦ absurd (clear p.at p.after early ((same p.at).1 (is'.less.fences p.at p.fence)))
        | inr from ↦ let e : p.at ≡ k = omega (arith, p.up_to) in subst (HasFence h') e p.fence
      ]

  signal_too : (k j : ℕ) → HasFence g k → 0 < k → k ≤ j → j < length g → (get_or vs j false ≡ true) → ShareEpoch g k j → HasFence h' k
  signal_too k j given later from within shows clear =
      let p = is'.signals (k - 1) j shows (omega (arith, within, long)) (record { at = k; after = omega (arith, later); up_to = from; fence = (same k).0 given }) in
      elim (cases_lt k p.at) [
        | inl after ↦ absurd (clear p.at after p.up_to ((same p.at).1 (is'.less.fences p.at p.fence)))
        | inr up_to ↦ let e : p.at ≡ k = omega (arith, p.after, later) in subst (HasFence h') e p.fence
      ]

  kept_too : (k : ℕ) (u : FenceUse) → ((p : ℕ) → p < k → HasFence h' p → HasFence h p) → UseHolds C bs vs ks g h k u → HasFence h k → HasFence h' k
  kept_too k fence_use.NoFence before what f = absurd (what.1 f)
  kept_too k fence_use.Needless before what f = absurd (what.1 f)
  kept_too k fence_use.Held before what f = held k what.3
  kept_too k (fence_use.Guarding m) before what f =
      let q = what.1.guard in guard_too k m what.0.given q.before q.fails q.open_between
  kept_too k (fence_use.Signalling j) before what f =
      let q = what.2.signal in signal_too k j what.0.given q.later q.from q.within q.shows q.open_between
  kept_too k (fence_use.GuardingAndSignalling m j) before what f =
      let q = what.1.guard in guard_too k m what.0.given q.before q.fails q.open_between
  kept_too k (fence_use.Needed i j) before what f = needed_too k i j before what

pub same_reduced : (C : ℕ → ℕ → Type 0) (bs vs ks ks' : List Bool) (g g' h h' : Group) (uses uses' : List FenceUse) → length g' ≡ length g → HaveSame g g'
    → IsReduced C bs vs ks g uses h → IsReduced C bs vs ks' g' uses' h' → ((k : ℕ) → IsHeld ks k → HasFence h' k) → ((k : ℕ) → IsHeld ks' k → HasFence h k)
    → (n k : ℕ) → k < n → HasFence h k ↔ HasFence h' k
same_reduced C bs vs ks ks' g g' h h' uses uses' long same is is' held held' zero k lt = absurd (omega arith)
same_reduced C bs vs ks ks' g g' h h' uses uses' long same is is' held held' (suc n) k lt =
    elim (cases_lt k n) [
      | inl below ↦ same_reduced C bs vs ks ks' g g' h h' uses uses' long same is is' held held' n k below
      | inr last ↦
          let before : (j : ℕ) → j < k → HasFence h j ↔ HasFence h' j =
          λ j earlier. same_reduced C bs vs ks ks' g g' h h' uses uses' long same is is' held held' n j (omega arith) in (
            (λ f.
                let w : k < length g = fence_within g k (is.less.fences k f) in
                kept_too C bs vs ks ks' g g' h h' uses uses' long same is is' held k (get_or uses k fence_use.NoFence) (λ j earlier. (before j earlier).1) (is.each k w) f),
            (λ f.
                let w : k < length g' = fence_within g' k (is'.less.fences k f) in
                kept_too C bs vs ks' ks g' g h' h uses' uses (sym long) (λ j. ((same j).1, (same j).0)) is' is held' k (get_or uses' k fence_use.NoFence)
                (λ j earlier. (before j earlier).0) (is'.each k w) f),
          )
    ]

none_held : (k : ℕ) → IsHeld [] k → ⊥
none_held k h = true≢false (sym h)

pub frees_none : (A : ℕ → ℕ → Type 0) (acts : List Action) (ds ms : List Member) (bs vs : List Bool) (g : Group) (a b : Audit) → IsAudit (λ i j. ⊥) acts ds ms bs vs g a
    → IsAudit A acts ds ms bs vs g b → (k : ℕ) → HasFence g k → HasFence a.reduced.fences.items k → HasFence b.reduced.fences.items k
frees_none A acts ds ms bs vs g a b is_a is_b k given f =
    let K : ℕ → ℕ → Type 0 = OrderMatters acts ds in
    let P : ℕ → ℕ → Type 0 = PossibleConflict ms in
    let L : ℕ → ℕ → Type 0 = IsLeft K (λ i j. ⊥) g in
    let ra = is_a.reduced in
    let rb = is_b.reduced in
    let first : HaveSame a.unaccepted.fences.items b.unaccepted.fences.items =
    λ j. same_corrected K K g a.unaccepted.places.items b.unaccepted.places.items a.unaccepted.fences.items b.unaccepted.fences.items (λ i l c. c) (λ i l c. c)
    is_a.unaccepted is_b.unaccepted (suc j) j (omega arith) in
    let other : HaveSame a.corrected.fences.items b.unaccepted.fences.items =
    λ j. same_corrected L K g a.corrected.places.items b.unaccepted.places.items a.corrected.fences.items b.unaccepted.fences.items (λ i l c. c.0) (λ i l c. (c, λ accepted. accepted.1))
    is_a.corrected is_b.unaccepted (suc j) j (omega arith) in
    let long : length b.unaccepted.fences.items ≡ length a.unaccepted.fences.items = omega (arith, is_a.unaccepted.more.same_length, is_b.unaccepted.more.same_length) in
    let long' : length b.unaccepted.fences.items ≡ length a.corrected.fences.items = omega (arith, is_a.corrected.more.same_length, is_b.unaccepted.more.same_length) in
    let stays : HaveSame ra.stay rb.stay =
    λ j. same_reduced P bs vs [] [] a.unaccepted.fences.items b.unaccepted.fences.items ra.stay rb.stay ra.uses_before rb.uses_before long first ra.needed rb.needed
    (λ i h. absurd (none_held i h)) (λ i h. absurd (none_held i h)) (suc j) j (omega arith) in
    let kept : HasFence rb.stay k =
    (same_reduced P bs vs ra.held [] a.corrected.fences.items b.unaccepted.fences.items a.reduced.fences.items rb.stay a.reduced.uses.items rb.uses_before long' other ra.reduced rb.needed
    (λ i h. (stays i).0 ((ra.are_held i).0 h).1) (λ i h. absurd (none_held i h)) (suc k) k (omega arith)).0 f in
    rb.reduced.holds k ((rb.are_held k).1 (given, kept)) (is_b.corrected.more.fences k given)

-- ---- the epochs as recorded

pub epoch_next : (g : Group) (at last next : ℕ) (b : Bool) → b ≡ get_or g at false → next ≡ (if b then at else last) → IsLastGiven g at last → IsLastGiven g (at + 1) next
epoch_next g at last next true fenced is begun =
    subst (IsLastGiven g (at + 1)) (sym is) (given_here g at (sym fenced))
epoch_next g at last next false fenced is begun =
    subst (IsLastGiven g (at + 1)) (sym is) (given_before g at last begun (λ f. let no : false ≡ true = fenced ∙ f in absurd cc))
