-- Repeats, and the last members whose order matters.
use Rattle.std.proofs.Common.{◌≡◌, ℕ, ◌<◌, inl, inr, List, Option, Some, None, refl, sym, ap, subst, ◌∙◌, arith, slice_get, Bool, true, false, ◌==◌, ◌&&◌, not}
use Rattle.std.proofs.lemmas.Bool.{cases_eq}
use Rattle.std.specs.Bool.{Decides}
use Rattle.std.proofs.lemmas.Bool.Decides.{Decides-eqb}
use Rattle.dsa_descriptor.specs.declared.span.Span.{Span}
use Rattle.dsa_descriptor.specs.Spans.{InSome}
use Rattle.dsa_ranges.specs.declared.span.Touched.{Touched}
use Rattle.dsa_conflicts.specs.Access.{IsGreatest}
use Rattle.dsa_audit.specs.declared.member.Member.{Member}
use Rattle.dsa_audit.specs.declared.member.Member.TheVariants.{Known, Unknown}
use Rattle.dsa_audit.specs.declared.repeats.Action.{Action}
use Rattle.dsa_audit.specs.Members.{AreKnownToConflict, KnownConflict, reads_of, writes_of}
use Rattle.dsa_audit.specs.Repeats.{IsRepeated, IsLastKnown, OrderMatters, RepeatsLast, may_repeat_at}

-- what conflicts with one conflicts with another that reads and writes the same
conflict_moves : (m : Member) (t u : Touched) → t.reads.items ≡ u.reads.items → t.writes.items ≡ u.writes.items → AreKnownToConflict m (Known t) → AreKnownToConflict m (Known u)
conflict_moves (Known s) t u reads writes (inl (a, w, inl r)) = inl (a, w, inl (subst (λ x. InSome x a) reads r))
conflict_moves (Known s) t u reads writes (inl (a, w, inr v)) = inl (a, w, inr (subst (λ x. InSome x a) writes v))
conflict_moves (Known s) t u reads writes (inr (a, v, there)) = inr (a, subst (λ x. InSome x a) writes v, there)
conflict_moves (Unknown why) t u reads writes h = absurd h

known_moves : (ms : List Member) (i k l : ℕ) (t u : Touched) → slice_get ms k ≡ Some (Known t) → slice_get ms l ≡ Some (Known u) → t.reads.items ≡ u.reads.items → t.writes.items ≡ u.writes.items
    → KnownConflict ms i k → KnownConflict ms i l
known_moves ms i k l t u at_k at_l reads writes (m, n, at_m, at_n, c) =
    let same : n ≡ Known t = cc in
    (m, Known u, at_m, at_l, conflict_moves m t u reads writes (subst (AreKnownToConflict m) same c))

known_reads : (t u : Touched) → Known t ≡ Known u → t.reads.items ≡ u.reads.items
known_reads t u same = ap reads_of same

known_writes : (t u : Touched) → Known t ≡ Known u → t.writes.items ≡ u.writes.items
known_writes t u same = ap writes_of same

-- a repeat of l conflicts with just those that l conflicts with, and repeats just those that l repeats
repeat_of : (acts : List Action) (ms : List Member) (i l k : ℕ) → IsRepeated acts ms l k → IsRepeated acts ms i l → IsRepeated acts ms i k
repeat_of acts ms i l k r q =
    let same : Known q.second ≡ Known r.first = cc in
    let reads : q.second.reads.items ≡ r.first.reads.items = known_reads q.second r.first same in
    let writes : q.second.writes.items ≡ r.first.writes.items = known_writes q.second r.first same in
    record {
      first = q.first;
      second = r.second;
      there = q.there;
      here = r.here;
      action = q.action ∙ r.action;
      may_repeat = q.may_repeat;
      reads = q.reads ∙ reads ∙ r.reads;
      writes = q.writes ∙ writes ∙ r.writes;
      apart = λ a read wrote. q.apart a read (subst (λ x. InSome x a) (sym (writes ∙ r.writes)) wrote);
    }

repeated_by : (acts : List Action) (ms : List Member) (i l k : ℕ) → IsRepeated acts ms l k → IsRepeated acts ms i k → IsRepeated acts ms i l
repeated_by acts ms i l k r q =
    let same : Known q.second ≡ Known r.second = cc in
    let reads : q.second.reads.items ≡ r.second.reads.items = known_reads q.second r.second same in
    let writes : q.second.writes.items ≡ r.second.writes.items = known_writes q.second r.second same in
    record {
      first = q.first;
      second = r.first;
      there = q.there;
      here = r.there;
      action = q.action ∙ sym r.action;
      may_repeat = q.may_repeat;
      reads = q.reads ∙ reads ∙ sym r.reads;
      writes = q.writes ∙ writes ∙ sym r.writes;
      apart = λ a read wrote. q.apart a read (subst (λ x. InSome x a) (r.writes ∙ sym writes) wrote);
    }

matters_more : (acts : List Action) (ms : List Member) (i l k : ℕ) → IsRepeated acts ms l k → OrderMatters acts ms i l → OrderMatters acts ms i k
matters_more acts ms i l k r (conflict, unlike) =
    (known_moves ms i l k r.first r.second r.there r.here r.reads r.writes conflict, λ q. unlike (repeated_by acts ms i l k r q))

matters_less : (acts : List Action) (ms : List Member) (i l k : ℕ) → IsRepeated acts ms l k → OrderMatters acts ms i k → OrderMatters acts ms i l
matters_less acts ms i l k r (conflict, unlike) =
    (known_moves ms i k l r.second r.first r.here r.there (sym r.reads) (sym r.writes) conflict, λ q. unlike (repeat_of acts ms i l k r q))

-- what matters to member k is before the last one that conflicts with it, if it repeats that
before_repeated : (acts : List Action) (ms : List Member) (i l end k : ℕ) → IsGreatest (λ a. (a < end) × KnownConflict ms a k) (Some l) → IsRepeated acts ms l k → i < end → OrderMatters acts ms i k → i < l
before_repeated acts ms i l end k last r lt (conflict, unlike) =
    elim (cases_eq i l) [
      | inl same ↦ absurd (unlike (subst (λ x. IsRepeated acts ms x k) (sym same) r))
      | inr apart ↦ omega (arith, apart, last.1 i (lt, conflict))
    ]

pub last_of_repeat : (acts : List Action) (ms : List Member) (l end k : ℕ) (o : Option ℕ) → IsGreatest (λ a. (a < end) × KnownConflict ms a k) (Some l) → IsRepeated acts ms l k
    → IsGreatest (λ a. (a < l) × OrderMatters acts ms a l) o → IsGreatest (λ a. (a < end) × OrderMatters acts ms a k) o
last_of_repeat acts ms l end k None last r none = λ i (lt, matters).
    none i (before_repeated acts ms i l end k last r lt matters, matters_less acts ms i l k r matters)
last_of_repeat acts ms l end k (Some i) last r is = (
  (omega (arith, is.0.0, last.0.0), matters_more acts ms i l k r is.0.1),
  λ other (lt, matters). is.1 other (before_repeated acts ms other l end k last r lt matters, matters_less acts ms other l k r matters),
)

pub last_of_none : (acts : List Action) (ms : List Member) (end k : ℕ) → IsGreatest (λ a. (a < end) × KnownConflict ms a k) None → IsGreatest (λ a. (a < end) × OrderMatters acts ms a k) None
last_of_none acts ms end k none = λ i (lt, matters). none i (lt, matters.0)

pub last_of_unlike : (acts : List Action) (ms : List Member) (l end k : ℕ) → IsGreatest (λ a. (a < end) × KnownConflict ms a k) (Some l) → (IsRepeated acts ms l k → ⊥)
    → IsGreatest (λ a. (a < end) × OrderMatters acts ms a k) (Some l)
last_of_unlike acts ms l end k last unlike = ((last.0.0, (last.0.1, unlike)), λ other (lt, matters). last.1 other (lt, matters.0))

pub last_of_other : (acts : List Action) (ms : List Member) (k : ℕ) (o : Option ℕ) → IsLastKnown ms k o → RepeatsLast acts ms k None → IsGreatest (λ a. (a < k) × OrderMatters acts ms a k) o
last_of_other acts ms k None none unlike = last_of_none acts ms k k none
last_of_other acts ms k (Some i) last unlike = last_of_unlike acts ms i k k last (unlike i last)

-- what is_repeated tests, where both members are known
pub tested : (acts : List Action) (ms : List Member) (i j : ℕ) (t u : Touched) → slice_get ms i ≡ Some (Known t) → slice_get ms j ≡ Some (Known u) → IsRepeated acts ms i j
    → (slice_get acts i ≡ slice_get acts j) × (t.reads.items ≡ u.reads.items) × (t.writes.items ≡ u.writes.items)
    × (((address : ℕ) × InSome t.reads.items address × InSome u.writes.items address) → ⊥)
tested acts ms i j t u at_i at_j r =
    let first : Known t ≡ Known r.first = cc in
    let second : Known u ≡ Known r.second = cc in (
      r.action,
      known_reads t r.first first ∙ r.reads ∙ sym (known_reads u r.second second),
      known_writes t r.first first ∙ r.writes ∙ sym (known_writes u r.second second),
      λ (a, read, wrote). r.apart a (subst (λ x. InSome x a) (known_reads t r.first first) read) (subst (λ x. InSome x a) (known_writes u r.second second) wrote),
    )

pub repeated : (acts : List Action) (ms : List Member) (i j : ℕ) (t u : Touched) → slice_get ms i ≡ Some (Known t) → slice_get ms j ≡ Some (Known u)
    → slice_get acts i ≡ slice_get acts j → may_repeat_at (slice_get acts i) ≡ true → t.reads.items ≡ u.reads.items → t.writes.items ≡ u.writes.items
    → (((address : ℕ) × InSome t.reads.items address × InSome u.writes.items address) → ⊥) → IsRepeated acts ms i j
repeated acts ms i j t u at_i at_j action may reads writes apart =
    record { first = t; second = u; there = at_i; here = at_j; action = action; may_repeat = may; reads = reads; writes = writes; apart = λ a read wrote. apart (a, read, wrote) }

and_true : (x y : Bool) → (x && y) ≡ true → (x ≡ true) × (y ≡ true)
and_true true y h = (refl, h)
and_true false y h = absurd cc

true_and : (x y : Bool) → x ≡ true → y ≡ true → (x && y) ≡ true
true_and true y x_is y_is = y_is
true_and false y x_is y_is = absurd cc

-- whether two spans are equal is decided by their fields
pub span_decides : (a b : Span) → Decides ((a.first == b.first) && (a.len == b.len)) (a ≡ b)
span_decides a b = (
  (λ h.
      let both = and_true (a.first == b.first) (a.len == b.len) h in
      let first : a.first ≡ b.first = (Decides-eqb a.first b.first).0 both.0 in
      let len : a.len ≡ b.len = (Decides-eqb a.len b.len).0 both.1 in
      λ i. record { first = first i; len = len i }),
  (λ e. subst (λ z. ((a.first == z.first) && (a.len == z.len)) ≡ true) e (true_and (a.first == a.first) (a.len == a.len) ((Decides-eqb a.first a.first).1 refl) ((Decides-eqb a.len a.len).1 refl))),
)

pub unlike_last : (acts : List Action) (ms : List Member) (k i : ℕ) → IsLastKnown ms k (Some i) → (IsRepeated acts ms i k → ⊥) → RepeatsLast acts ms k None
unlike_last acts ms k i last unlike j other r =
    let same : j ≡ i = omega (arith, last.1 j other.0, other.1 i last.0) in
    unlike (subst (λ x. IsRepeated acts ms x k) same r)

pub none_last : (acts : List Action) (ms : List Member) (k : ℕ) (o : Option ℕ) → IsLastKnown ms k o → ((i : ℕ) → o ≡ Some i → ⊥) → RepeatsLast acts ms k None
none_last acts ms k None none other i last r = absurd (none i last.0)
none_last acts ms k (Some j) last other i last' r = absurd (other j refl)

pub not_true : (x : Bool) → not x ≡ true → x ≡ true → ⊥
not_true true h e = absurd cc
not_true false h e = absurd cc

pub not_false : (x : Bool) → not x ≡ false → x ≡ true
not_false true h = refl
not_false false h = absurd cc

pub so_not : (x : Bool) → (x ≡ true → ⊥) → not x ≡ true
so_not true h = absurd (h refl)
so_not false h = refl

pub meet_moves : (xs ys zs ws : List Span) → xs ≡ zs → ys ≡ ws → ((a : ℕ) × InSome xs a × InSome ys a) → ((a : ℕ) × InSome zs a × InSome ws a)
meet_moves xs ys zs ws first second (a, in_x, in_y) = (a, subst (λ x. InSome x a) first in_x, subst (λ y. InSome y a) second in_y)
