-- What is left of a planned list can be planned.
use Rattle.std.proofs.Common.{◌≡◌, ◌≢◌, ◌⊎◌, inl, inr, ℕ, zero, suc, ◌+◌, ◌*◌, ◌<◌, ◌≤◌, Bool, true, false, List, [], ◌∷◌, ◌++◌, drop, length, get_or, map, refl, sym, ap, ◌∙◌, subst, arith}
use Rattle.std.specs.Prelude.{Some, cond, replicate, slice_get, option_map}
use Rattle.std.specs.List.{All, AllPairs, list_any}
use Rattle.std.proofs.lemmas.Bool.{cases_order}
use Rattle.std.proofs.lemmas.List.{length-append, length-drop, length-map, length-replicate}
use Rattle.std.proofs.lemmas.Option.{same_Some, slice_get-get_or, slice_get-map, slice_get_within, get_or_from_slice_get}
use Rattle.dsa_descriptor.specs.declared.descriptor.Descriptor.{Descriptor}
use Rattle.dsa_descriptor.specs.Descriptors.{fields}
use Rattle.dsa_descriptor.specs.Fences.{after_first, set_marks}
use Rattle.dsa_descriptor.specs.Fields.{Fields}
use Rattle.dsa_descriptor.specs.Spans.{InSpan, span}
use Rattle.dsa_ranges.specs.Ranges.{Touches}
use Rattle.dsa_settings.specs.Barriers.{IsBarrier}
use Rattle.dsa_emission.specs.Emission.{staging_span}
use Rattle.dsa_settings.specs.Settings.{Limits}
use Rattle.dsa_splitter.specs.Rules.{AreWhole, IsClear, IsSplit}
use Rattle.dsa_splitter.proofs.AsTheyStand.{whole_split}
use Rattle.dsa_splitter.proofs.OneFault.{split_no_fault}
use Rattle.dsa_splitter.proofs.OnePiece.{whole_pieces}
use Rattle.dsa_calls.specs.Planned.{CanBePlanned}
use Rattle.dsa_resume.specs.declared.status.Ended.{Ended}
use Rattle.dsa_resume.specs.declared.left.LeftOrder.{LeftOrder}
use Rattle.dsa_resume.specs.Barriers.{IsFront, NoneStops}
use Rattle.dsa_resume.specs.Rest.{IsLeftOver, IsRest, Remainder, goes_on, is_last, left_before, stops_there}
use Rattle.dsa_resume.specs.Resumed.{CanBePlannedAgain}
use Rattle.dsa_resume.proofs.Places.{rest_at}
use Rattle.dsa_resume.proofs.Short.{rest_few, some_before}

-- ---- what is left are pieces of the list

abbrev pub IsIn : {X : Type 0} → List X → X → Type 0
IsIn xs x = (k : ℕ) × (slice_get xs k ≡ Some x)

pub rest_in : {P : Type 0} (order : LeftOrder) (ps : List P) (barriers : List Bool) (ends : List Ended) (front : ℕ) (rest : Remainder P) → IsRest order ps barriers ends front rest
    → (p : P) (q : ℕ) → slice_get rest.pieces q ≡ Some p → IsIn ps p
rest_in order ps barriers ends front rest is_rest p q there =
    let (j, (at, _)) = rest_at order ps barriers ends front rest q p is_rest there in
    (j, at)

-- the same of what each has
pub mapped : {P Q : Type 0} (h : P → Q) (ps : List P) (q : ℕ) (f : Q) → slice_get (map h ps) q ≡ Some f → (p : P) × (slice_get ps q ≡ Some p) × (h p ≡ f)
mapped h [] q f there = absurd cc
mapped h (p ∷ ps) zero f there = (p, refl, same_Some (h p) f there)
mapped h (p ∷ ps) (suc q) f there = mapped h ps q f there

pub mapped_in : {P Q : Type 0} (h : P → Q) (ps rs : List P) → ((p : P) (q : ℕ) → slice_get rs q ≡ Some p → IsIn ps p)
    → (f : Q) (q : ℕ) → slice_get (map h rs) q ≡ Some f → IsIn (map h ps) f
mapped_in h ps rs are f q there =
    let (p, at_q, is) = mapped h rs q f there in
    let (j, at) = are p q at_q in
    (j, slice_get-map h ps j ∙ ap (option_map h) at ∙ ap Some is)

-- ---- so they keep what all pieces keep

pub all_in : {X : Type 0} (P : X → Type 0) (xs : List X) (x : X) → All P xs → IsIn xs x → P x
all_in P xs x all (k, there) = subst P (get_or_from_slice_get xs k x x there) (all k x (slice_get_within xs k x there))

all_kept : {X : Type 0} (P : X → Type 0) (xs ys : List X) → All P xs → ((y : X) (q : ℕ) → slice_get ys q ≡ Some y → IsIn xs y) → All P ys
all_kept P xs ys all are i d within = all_in P xs (get_or ys i d) all (are (get_or ys i d) i (slice_get-get_or ys i d within))

-- what holds of any two, in either order and of one with itself, holds of any two that are left
module _ {X : Type 0} (R : X → X → Type 0) (itself : (x : X) → R x x) (back : (x y : X) → R x y → R y x) where
  before : (xs : List X) (x y : X) → AllPairs R xs → (i j : ℕ) → i < j → slice_get xs i ≡ Some x → slice_get xs j ≡ Some y → R x y
  before xs x y all i j less at_i at_j =
      let same = all i j x less (slice_get_within xs j y at_j) in
      let second : get_or xs j x ≡ y = get_or_from_slice_get xs j y x at_j in
      subst (λ (a : X). R a y) (get_or_from_slice_get xs i x x at_i) (subst (λ (b : X). R (get_or xs i x) b) second same)

  both : (xs : List X) (x y : X) → AllPairs R xs → IsIn xs x → IsIn xs y → R x y
  both xs x y all (i, at_i) (j, at_j) =
      elim (cases_order i j) [
        | inl same ↦ let is : x ≡ y = same_Some x y (sym at_i ∙ ap (slice_get xs) same ∙ at_j) in subst (λ (b : X). R x b) is (itself x)
        | inr (inl less) ↦ before xs x y all i j less at_i at_j
        | inr (inr more) ↦ back y x (before xs y x all j i more at_j at_i)
      ]

  pub pairs_kept : (xs ys : List X) → AllPairs R xs → ((y : X) (q : ℕ) → slice_get ys q ≡ Some y → IsIn xs y) → AllPairs R ys
  pairs_kept xs ys all are i j d less within =
      both xs (get_or ys i d) (get_or ys j d) all (are (get_or ys i d) i (slice_get-get_or ys i d (omega (arith, less, within)))) (are (get_or ys j d) j (slice_get-get_or ys j d within))

-- ---- its barriers

-- barriers of which one after the first is set stay as they are
one_set : (marks : List Bool) (k : ℕ) → slice_get marks k ≡ Some true → list_any (λ mark. mark) marks ≡ true
one_set [] k at = absurd cc
one_set (b ∷ bs) zero at = rw (same_Some b true at) refl
one_set (true ∷ bs) (suc k) at = refl
one_set (false ∷ bs) (suc k) at = one_set bs k at

some_kept : (b : Bool) (marks : List Bool) → b ≡ true → cond b marks [] ≡ marks
some_kept true marks is = refl
some_kept false marks is = absurd cc

pub marks_kept : (marks : List Bool) (k : ℕ) → slice_get marks k ≡ Some true → set_marks (after_first (false ∷ marks)) ≡ false ∷ marks
marks_kept marks k at = some_kept (list_any (λ mark. mark) marks) (false ∷ marks) (one_set marks k at)

-- those from the front on begin with the one that holds
pub first_dropped : (barriers : List Bool) (front : ℕ) → IsBarrier barriers front → slice_get (drop front barriers) 0 ≡ Some true
first_dropped [] zero is = absurd cc
first_dropped [] (suc front) is = absurd cc
first_dropped (b ∷ bs) zero is = is
first_dropped (b ∷ bs) (suc front) is = first_dropped bs front is

appended : (n : ℕ) (marks : List Bool) (k : ℕ) → slice_get marks k ≡ Some true → slice_get (replicate n false ++ marks) (n + k) ≡ Some true
appended zero marks k at = let same : 0 + k ≡ k = omega arith in ap (slice_get marks) same ∙ at
appended (suc n) marks k at = let step : suc n + k ≡ suc (n + k) = omega arith in ap (slice_get (false ∷ (replicate n false ++ marks))) step ∙ appended n marks k at

after_kept : (n : ℕ) (marks : List Bool) → 0 < n → slice_get marks 0 ≡ Some true → set_marks (after_first (replicate n false ++ marks)) ≡ replicate n false ++ marks
after_kept zero marks some at = absurd (omega (arith, some))
after_kept (suc n) marks some at = marks_kept (replicate n false ++ marks) (n + 0) (appended n marks 0 at)

pub rest_kept : {P : Type 0} (order : LeftOrder) (ds : List P) (barriers : List Bool) (ends : List Ended) (front : ℕ) (rest : Remainder P)
    → IsFront barriers ends front → length ends ≡ length ds → (NoneStops ends front → front < length ds → 0 < length (left_before order ds ends front))
    → IsRest order ds barriers ends front rest → set_marks (after_first rest.barriers) ≡ rest.barriers
rest_kept {P} order ds barriers ends front rest is_front count some (is_last end is) =
    subst (λ (marks : List Bool). set_marks (after_first marks) ≡ marks) (sym (ap (λ (r : Remainder P). r.barriers) is)) refl
rest_kept {P} order ds barriers ends front rest is_front count some (stops_there i inside stop is) =
    subst (λ (marks : List Bool). set_marks (after_first marks) ≡ marks) (sym (ap (λ (r : Remainder P). r.barriers) is)) refl
rest_kept {P} order ds barriers ends front rest is_front count some (goes_on inside none is) =
    let (i, holds) = is_front.holds (omega (arith, inside, count)) in
    subst (λ (marks : List Bool). set_marks (after_first marks) ≡ marks) (sym (ap (λ (r : Remainder P). r.barriers) is))
    (after_kept (length (left_before order ds ends front)) (drop front barriers) (some none inside) (first_dropped barriers front holds.barrier))

pub rest_count : {P : Type 0} (order : LeftOrder) (ds : List P) (barriers : List Bool) (ends : List Ended) (front : ℕ) (rest : Remainder P)
    → (front < length ds → length barriers ≡ length ds)
    → IsRest order ds barriers ends front rest → (rest.barriers ≡ []) ⊎ (length rest.barriers ≡ length rest.pieces)
rest_count {P} order ds barriers ends front rest marks (is_last end is) = inl (ap (λ (r : Remainder P). r.barriers) is)
rest_count {P} order ds barriers ends front rest marks (stops_there i inside stop is) = inl (ap (λ (r : Remainder P). r.barriers) is)
rest_count {P} order ds barriers ends front rest marks (goes_on inside none is) =
    let before : List P = left_before order ds ends front in
    inr
    (ap (λ (r : Remainder P). length r.barriers) is
    ∙ omega (
      arith,
      length-append (replicate (length before) false) (drop front barriers),
      length-replicate (length before) false,
      length-drop front barriers,
      marks inside,
      length-append before (drop front ds),
      length-drop front ds,
    )
    ∙ ap (λ (r : Remainder P). length r.pieces) (sym is))

some_barrier : (barriers : List Bool) (k : ℕ) → IsBarrier barriers k → barriers ≢ []
some_barrier [] k is none = absurd cc
some_barrier (b ∷ bs) k is none = absurd cc

-- the barriers of what is left are those of a list: none, or one for each piece, and of these one after the first is set
pub left_barriers : {P : Type 0} (order : LeftOrder) (ps : List P) (barriers : List Bool) (ends : List Ended) (rest : Remainder P)
    → (barriers ≢ [] → length barriers ≡ length ps) → length ends ≡ length ps → IsLeftOver order ps barriers ends rest
    → ((rest.barriers ≡ []) ⊎ (length rest.barriers ≡ length rest.pieces)) × (set_marks (after_first rest.barriers) ≡ rest.barriers)
left_barriers order ps barriers ends rest marked count left = (
  rest_count order ps barriers ends left.front rest
      (λ inside. let (i, holds) = left.is_front.holds (omega (arith, inside, count)) in marked (some_barrier barriers left.front holds.barrier)) left.is_rest,
  rest_kept order ps barriers ends left.front rest left.is_front count (some_before order ps barriers ends left.front left.is_front count) left.is_rest,
)

-- ---- and it can be planned

-- fewer pieces of those that can be planned can be planned
fewer_can : (s : Limits) (fs gs : List Fields) → CanBePlanned s fs → length gs ≤ length fs → ((g : Fields) (q : ℕ) → slice_get gs q ≡ Some g → IsIn fs g) → CanBePlanned s gs
fewer_can s fs gs can fewer are = record {
  few = omega (arith, can.few, fewer);
  one_owner = pairs_kept (λ (d e : Fields). (d.pasid ≡ e.pasid) × (d.privileged ≡ e.privileged)) (λ d. (refl, refl)) (λ d e (p, q). (sym p, sym q)) fs gs can.one_owner are;
  short = all_kept (λ (d : Fields). d.size ≤ s.greatest_transfer) fs gs can.short are;
  clear = λ i d within address (first, last) touches.
      all_kept (λ (e : Fields). (a : ℕ) → InSpan (staging_span s fs) a → ¬ Touches e a) fs gs can.clear are i d within address (first, omega (arith, last, fewer)) touches;
}

-- pieces that can be planned are their own pieces, and planning refuses them for no cause
pub can_again : (s : Limits) (rest : Remainder Descriptor) → CanBePlanned s (map fields rest.pieces) → (rest.barriers ≡ []) ⊎ (length rest.barriers ≡ length rest.pieces)
    → set_marks (after_first rest.barriers) ≡ rest.barriers → CanBePlannedAgain s rest
can_again s rest can count kept =
    let fs : List Fields = map fields rest.pieces in
    let whole : AreWhole rest.pieces s.greatest_transfer =
    λ i d there. all_in (λ (e : Fields). e.size ≤ s.greatest_transfer) fs (fields d) can.short (i, slice_get-map fields rest.pieces i ∙ ap (option_map fields) there) in
    let clear : IsClear (span s.staging (96 * length rest.pieces)) fs =
    λ q f there (address, (first, last), touches).
    all_in (λ (e : Fields). (a : ℕ) → InSpan (staging_span s fs) a → ¬ Touches e a) fs f can.clear (q, there) address (first, omega (arith, last, length-map rest.pieces fields)) touches in
    let split : IsSplit s.greatest_transfer s.staging fs = whole_split rest.pieces s.greatest_transfer s.staging whole (omega (arith, can.few, length-map rest.pieces fields)) clear in
    record {
      one_owner = can.one_owner;
      count = count;
      kept = kept;
      whole = whole;
      split = split;
      own = sym (whole_pieces rest.pieces s.greatest_transfer whole);
      accepted = λ fault (cause, other, first, is). other (split_no_fault s.greatest_transfer s.staging fs cause split first);
    }

pub left_again : (s : Limits) (order : LeftOrder) (ds : List Descriptor) (barriers : List Bool) (ends : List Ended) (rest : Remainder Descriptor) → CanBePlanned s (map fields ds)
    → (barriers ≢ [] → length barriers ≡ length ds) → length ends ≡ length ds → IsLeftOver order ds barriers ends rest → CanBePlannedAgain s rest
left_again s order ds barriers ends rest can marked count left =
    let (counted, kept) = left_barriers order ds barriers ends rest marked count left in
    let fewer : length rest.pieces ≤ length ds = rest_few order ds barriers ends left.front rest left.is_rest in
    can_again s rest
    (fewer_can s (map fields ds) (map fields rest.pieces) can (omega (arith, fewer, length-map ds fields, length-map rest.pieces fields))
    (mapped_in fields ds rest.pieces (rest_in order ds barriers ends left.front rest left.is_rest))) counted kept
