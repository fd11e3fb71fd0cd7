-- Last conflicts of the members of a batch.
use Rattle.std.proofs.Common.{◌≡◌, ℕ, zero, suc, ◌+◌, ◌<◌, ◌≤◌, ◌⊎◌, inl, inr, List, [], ◌∷◌, ◌++◌, length, get_or, Option, Some, None, refl, sym, ap, subst, ◌∙◌, arith}
use Rattle.std.specs.Prelude.{slice_get}
use Rattle.std.proofs.lemmas.Bool.{cases_eq}
use Rattle.std.proofs.lemmas.Option.{same_Some, slice_get-get_or, slice_get_within}
use Rattle.dsa_ranges.specs.declared.span.Touched.{Touched}
use Rattle.dsa_ranges.specs.Ranges.{SpansConflict}
use Rattle.dsa_conflicts.specs.Access.{IsGreatest, later}
use Rattle.dsa_conflicts.proofs.Greatest.{greatest_either, greatest_same}
use Rattle.dsa_conflicts.specs.Sweep.{Segment, SpansStandAgainst}
use Rattle.dsa_conflicts.proofs.Lasts.{AreSwept, ConflictsAt, each_more, found_before}
use Rattle.dsa_audit.specs.declared.looks.Look.{Look}
use Rattle.dsa_audit.specs.declared.member.Member.{Member}
use Rattle.dsa_audit.specs.declared.member.Member.TheVariants.{Known, Unknown}
use Rattle.dsa_audit.specs.declared.member.Unseen.{Unseen}
use Rattle.dsa_audit.specs.Members.{AreKnownToConflict, CanConflict, IsUnknownAt, KnownConflict, PossibleConflict, reads_of, writes_of}
use Rattle.dsa_conflicts.specs.Last.{IsLastOf}
use Rattle.dsa_audit.specs.Steps.{AreLasts, AreLooks, IsLastFrom, NoneFrom}

-- ---- one more last conflict

pub more_lasts : (C : ℕ → ℕ → Type 0) (lasts : List (Option ℕ)) (k : ℕ) (o : Option ℕ) → length lasts ≡ k → AreLasts C lasts → IsGreatest (λ a. (a < k) × C a k) o → AreLasts C (lasts ++ o ∷ [])
more_lasts C lasts k o count have here =
    each_more (λ b last. IsGreatest (λ a. (a < b) × C a b) last) lasts o have (subst (λ (n : ℕ). IsGreatest (λ a. (a < n) × C a n) o) (sym count) here)

pub no_lasts : (C : ℕ → ℕ → Type 0) → AreLasts C []
no_lasts C b last at = absurd cc

-- ---- the one that a member has in a list, as one of a part

pub none_of : (lasts : List (Option ℕ)) (epoch at later : ℕ) → slice_get lasts later ≡ Some None → NoneFrom (IsLastOf lasts) epoch at later
none_of lasts epoch at later here i begun ends last = cc

pub early_of : (lasts : List (Option ℕ)) (epoch at later l : ℕ) → slice_get lasts later ≡ Some (Some l) → l < epoch → NoneFrom (IsLastOf lasts) epoch at later
early_of lasts epoch at later l here low i begun ends last = let same : l ≡ i = cc in omega (arith, low, begun, same)

pub late_of : (lasts : List (Option ℕ)) (epoch at later l : ℕ) → slice_get lasts later ≡ Some (Some l) → at ≤ l → NoneFrom (IsLastOf lasts) epoch at later
late_of lasts epoch at later l here high i begun ends last = let same : l ≡ i = cc in omega (arith, high, ends, same)

pub one_of : (lasts : List (Option ℕ)) (epoch at later l : ℕ) → slice_get lasts later ≡ Some (Some l) → epoch ≤ l → l < at → IsLastFrom (IsLastOf lasts) epoch at later l
one_of lasts epoch at later l here begun ends =
    record { begun = begun; ends = ends; conflict = here; last = λ k after up_to last. let same : l ≡ k = cc in omega (arith, after, same) }

-- ---- known conflicts are those of the spans that are known

conflict_of : (m n : Member) → SpansConflict (reads_of m) (writes_of m) (reads_of n) (writes_of n) → AreKnownToConflict m n
conflict_of (Known t) (Known u) h = h
conflict_of (Known t) (Unknown why) (inl (a, x, inl y)) = y
conflict_of (Known t) (Unknown why) (inl (a, x, inr y)) = y
conflict_of (Known t) (Unknown why) (inr (a, x, y)) = x
conflict_of (Unknown why) (Known u) (inl (a, x, y)) = x
conflict_of (Unknown why) (Known u) (inr (a, x, inl y)) = y
conflict_of (Unknown why) (Known u) (inr (a, x, inr y)) = y
conflict_of (Unknown why) (Unknown other) (inl (a, x, y)) = x
conflict_of (Unknown why) (Unknown other) (inr (a, x, y)) = x

spans_of_conflict : (m n : Member) → AreKnownToConflict m n → SpansConflict (reads_of m) (writes_of m) (reads_of n) (writes_of n)
spans_of_conflict (Known t) (Known u) h = h
spans_of_conflict (Known t) (Unknown why) h = absurd h
spans_of_conflict (Unknown why) (Known u) h = absurd h
spans_of_conflict (Unknown why) (Unknown other) h = absurd h

pub known_before : (ms : List Member) (x k : ℕ) (o : Option ℕ) → IsGreatest (λ a. (a < x) × ConflictsAt reads_of writes_of ms a k) o → IsGreatest (λ a. (a < x) × KnownConflict ms a k) o
known_before ms x k o h =
    greatest_same (λ a. (a < x) × ConflictsAt reads_of writes_of ms a k) (λ a. (a < x) × KnownConflict ms a k) o
    (λ a (lt, (m, n, at_m, at_n, c)). (lt, (m, n, at_m, at_n, conflict_of m n c)))
    (λ a (lt, (m, n, at_m, at_n, c)). (lt, (m, n, at_m, at_n, spans_of_conflict m n c)))
    h

-- ---- what is looked for

pub look_more : (P : Look → Type 0) (xs : List Look) (x : Look) → ((k : ℕ) (y : Look) → slice_get xs k ≡ Some y → P y) → P x → (k : ℕ) (y : Look) → slice_get (xs ++ x ∷ []) k ≡ Some y → P y
look_more P [] x each here zero y e = subst P (same_Some x y e) here
look_more P [] x each here (suc k) y e = cc
look_more P (z ∷ xs) x each here zero y e = each zero y e
look_more P (z ∷ xs) x each here (suc k) y e = look_more P xs x (λ j w f. each (suc j) w f) here k y e

pub no_looks : (ms : List Member) → AreLooks ms []
no_looks ms j l at = absurd cc

pub look_there : (ls : List Look) (k : ℕ) (l : Look) → k < length ls → l ≡ get_or ls k l → slice_get ls k ≡ Some l
look_there ls k l lt read = slice_get-get_or ls k l lt ∙ ap Some (sym read)

pub look_of : (ms : List Member) (l : Look) (before later : ℕ) → l.before ≡ before → l.later ≡ later → IsGreatest (λ a. (a < l.before) × KnownConflict ms a l.later) l.last
    → IsGreatest (λ a. (a < before) × KnownConflict ms a later) l.last
look_of ms l before later e f h =
    subst (λ (n : ℕ). IsGreatest (λ a. (a < n) × KnownConflict ms a later) l.last) e (subst (λ (n : ℕ). IsGreatest (λ a. (a < l.before) × KnownConflict ms a n) l.last) f h)

pub look_found : (ms : List Member) (x k : ℕ) (m : Member) (segments : List Segment) (o : Option ℕ) → slice_get ms k ≡ Some m → AreSwept reads_of writes_of ms x segments
    → IsGreatest (SpansStandAgainst (reads_of m) (writes_of m) segments) o → IsGreatest (λ a. (a < x) × KnownConflict ms a k) o
look_found ms x k m segments o at swept found = known_before ms x k o (found_before reads_of writes_of ms x k m at segments swept o found)

-- ---- conflicts that are not ruled out

known_can : (m n : Member) → AreKnownToConflict m n → CanConflict m n
known_can (Known t) (Known u) h = h
known_can (Known t) (Unknown why) h = absurd h
known_can (Unknown why) (Known u) h = absurd h
known_can (Unknown why) (Unknown other) h = absurd h

-- what can conflict with a known member is one of which nothing is known, or is known to
either_way : (ms : List Member) (a k : ℕ) (m n : Member) → slice_get ms a ≡ Some m → slice_get ms k ≡ Some n → (IsUnknownAt ms k → ⊥) → CanConflict m n → IsUnknownAt ms a ⊎ KnownConflict ms a k
either_way ms a k (Known t) (Known u) at_m at_n known can = inr (Known t, Known u, at_m, at_n, can)
either_way ms a k (Known t) (Unknown why) at_m at_n known can = absurd (known (why, at_n))
either_way ms a k (Unknown why) n at_m at_n known can = inl (why, at_m)

unknown_can : (m n : Member) → AreKnownToConflict m n ⊎ ((why : Unseen) × (m ≡ Unknown why)) → CanConflict m n
unknown_can m n (inl h) = known_can m n h
unknown_can m (Known u) (inr (why, is)) = subst (λ (x : Member). CanConflict x (Known u)) (sym is) tt
unknown_can m (Unknown other) (inr (why, is)) = subst (λ (x : Member). CanConflict x (Unknown other)) (sym is) tt

pub last_of_known : (ms : List Member) (end k : ℕ) (n : Member) (unknown known : Option ℕ) → slice_get ms k ≡ Some n → (IsUnknownAt ms k → ⊥) →
    IsGreatest (λ a. (a < end) × IsUnknownAt ms a) unknown → IsGreatest (λ a. (a < end) × KnownConflict ms a k) known → IsGreatest (λ a. (a < end) × PossibleConflict ms a k) (later unknown known)
last_of_known ms end k n unknown known at_k seen by_unknown by_known =
    greatest_same (λ a. ((a < end) × IsUnknownAt ms a) ⊎ ((a < end) × KnownConflict ms a k)) (λ a. (a < end) × PossibleConflict ms a k) (later unknown known)
    (λ a h. elim h [
      | inl (lt, (why, at)) ↦ (lt, (Unknown why, n, at, at_k, unknown_can (Unknown why) n (inr (why, refl))))
      | inr (lt, (m, o, at_m, at_o, c)) ↦ (lt, (m, o, at_m, at_o, known_can m o c))
    ])
    (λ a (lt, (m, o, at_m, at_o, c)). elim (either_way ms a k m o at_m at_o seen c) [
      | inl why ↦ inl (lt, why)
      | inr conflict ↦ inr (lt, conflict)
    ])
    (greatest_either (λ a. (a < end) × IsUnknownAt ms a) (λ a. (a < end) × KnownConflict ms a k) unknown known by_unknown by_known)

can_unknown : (m : Member) (why : Unseen) → CanConflict m (Unknown why)
can_unknown (Known t) why = tt
can_unknown (Unknown other) why = tt

-- one of which nothing is known can conflict with each before it
pub last_of_unknown : (ms : List Member) (end k : ℕ) (why : Unseen) (o : Option ℕ) → end ≤ k → slice_get ms k ≡ Some (Unknown why) → IsGreatest (λ a. a < end) o → IsGreatest (λ a. (a < end) × PossibleConflict ms a k) o
last_of_unknown ms end k why o le at_k h =
    greatest_same (λ a. a < end) (λ a. (a < end) × PossibleConflict ms a k) o
    (λ a lt.
    let m : Member = get_or ms a (Unknown why) in
    let there : slice_get ms a ≡ Some m = slice_get-get_or ms a (Unknown why) (omega (arith, lt, le, slice_get_within ms k (Unknown why) at_k)) in
    (lt, (m, Unknown why, there, at_k, can_unknown m why)))
    (λ a (lt, rest). lt)
    h

-- the last of which nothing is known, one member further
pub still_unknown : (ms : List Member) (k : ℕ) (o : Option ℕ) → (IsUnknownAt ms k → ⊥) → IsGreatest (λ a. (a < k) × IsUnknownAt ms a) o → IsGreatest (λ a. (a < k + 1) × IsUnknownAt ms a) o
still_unknown ms k o seen h =
    greatest_same (λ a. (a < k) × IsUnknownAt ms a) (λ a. (a < k + 1) × IsUnknownAt ms a) o
    (λ a (lt, at). (omega (arith, lt), at))
    (λ a (lt, at). elim (cases_eq a k) [
      | inl same ↦ absurd (seen (subst (λ (x : ℕ). IsUnknownAt ms x) same at))
      | inr apart ↦ (omega (arith, lt, apart), at)
    ])
    h

pub seen_known : (ms : List Member) (k : ℕ) (t : Touched) → slice_get ms k ≡ Some (Known t) → IsUnknownAt ms k → ⊥
seen_known ms k t at (why, other) = cc

pub now_unknown : (ms : List Member) (k : ℕ) → IsUnknownAt ms k → IsGreatest (λ a. (a < k + 1) × IsUnknownAt ms a) (Some k)
now_unknown ms k at = ((omega arith, at), λ other h. omega (arith, h.0))

-- the member that was read at a place is that one
pub member_there : (ms : List Member) (k : ℕ) (m n : Member) → k < length ms → m ≡ get_or ms k m → m ≡ n → slice_get ms k ≡ Some n
member_there ms k m n lt read is = slice_get-get_or ms k m lt ∙ ap Some (sym read ∙ is)
