-- Where in the list the pieces are that are left.
use Rattle.std.proofs.Common.{◌≡◌, ◌⊎◌, inl, inr, ℕ, zero, suc, ◌+◌, ◌<◌, ◌≤◌, Bool, true, false, List, [], ◌∷◌, ◌++◌, drop, length, refl, sym, ap, ◌∙◌, take, arith}
use Rattle.std.specs.Prelude.{Some, slice_get}
use Rattle.std.proofs.lemmas.Bool.{cases_lt}
use Rattle.std.proofs.lemmas.Option.{slice_get_within}
use Rattle.dsa_resume.specs.declared.status.Ended.{Ended}
use Rattle.dsa_resume.specs.declared.status.Ended.TheVariants.{Waiting, Finished, Unexpected, Failed, GivenUp}
use Rattle.dsa_resume.specs.declared.left.LeftOrder.{LeftOrder}
use Rattle.dsa_resume.specs.declared.left.LeftOrder.TheVariants.{AsListed, FailedFirst}
use Rattle.dsa_resume.specs.Barriers.{HasEnded, IsFront, IsReached, NonePassed, NoneStops}
use Rattle.dsa_resume.specs.Ended.{has_begun, has_failed, is_left, is_open, is_waiting, stops}
use Rattle.dsa_resume.specs.Laws.{LeftIsReached}
use Rattle.dsa_resume.specs.Left.{those, left_of}
use Rattle.dsa_resume.specs.Rest.{IsRest, Remainder, goes_on, is_last, left_before, stops_there}

-- ---- items of lists

pub taken : {X : Type 0} (n : ℕ) (xs : List X) (k : ℕ) (x : X) → slice_get (take n xs) k ≡ Some x → (k < n) × (slice_get xs k ≡ Some x)
taken zero [] k x at = absurd cc
taken zero (y ∷ ys) k x at = absurd cc
taken (suc n) [] k x at = absurd cc
taken (suc n) (y ∷ ys) zero x at = (omega arith, at)
taken (suc n) (y ∷ ys) (suc k) x at = let (less, there) = taken n ys k x at in (omega (arith, less), there)

pub skipped : {X : Type 0} (n : ℕ) (xs : List X) (k : ℕ) (x : X) → slice_get (drop n xs) k ≡ Some x → slice_get xs (n + k) ≡ Some x
skipped zero xs k x at = let same : 0 + k ≡ k = omega arith in ap (slice_get xs) same ∙ at
skipped (suc n) [] k x at = absurd cc
skipped (suc n) (y ∷ ys) k x at = let step : suc n + k ≡ suc (n + k) = omega arith in ap (slice_get (y ∷ ys)) step ∙ skipped n ys k x at

pub joined : {X : Type 0} (xs ys : List X) (i : ℕ) (x : X) → slice_get (xs ++ ys) i ≡ Some x → (slice_get xs i ≡ Some x) ⊎ ((j : ℕ) × (slice_get ys j ≡ Some x))
joined [] ys i x at = inr (i, at)
joined (w ∷ xs) ys zero x at = inl at
joined (w ∷ xs) ys (suc i) x at = joined xs ys i x at

-- ---- pieces that have ended so

-- the piece is one of these, and has ended so
abbrev pub IsAt : {X : Type 0} → (Ended → Bool) → List X → List Ended → X → Type 0
IsAt wanted ys rs x = (k : ℕ) × (slice_get ys k ≡ Some x) × HasEnded wanted rs k

cons_at : {X : Type 0} (wanted : Ended → Bool) (y : X) (ys zs : List X) (r : Ended) (rs : List Ended) (x : X) → wanted r ≡ true
    → ((j : ℕ) → slice_get zs j ≡ Some x → IsAt wanted ys rs x) → (i : ℕ) → slice_get (y ∷ zs) i ≡ Some x → IsAt wanted (y ∷ ys) (r ∷ rs) x
cons_at wanted y ys zs r rs x is further zero there = (0, there, (r, refl, is))
cons_at wanted y ys zs r rs x is further (suc i) there = let (k, at, ended) = further i there in (suc k, at, ended)

those_by : {X : Type 0} (b : Bool) (wanted : Ended → Bool) (y : X) (ys : List X) (r : Ended) (rs : List Ended) (x : X) → wanted r ≡ b
    → ((j : ℕ) → slice_get (those wanted ys rs) j ≡ Some x → IsAt wanted ys rs x) → (i : ℕ) → slice_get (those wanted (y ∷ ys) (r ∷ rs)) i ≡ Some x
    → IsAt wanted (y ∷ ys) (r ∷ rs) x
those_by true wanted y ys r rs x e further i = rw e (cons_at wanted y ys (those wanted ys rs) r rs x e further i)
those_by false wanted y ys r rs x e further i = rw e (λ (there : slice_get (those wanted ys rs) i ≡ Some x). let (k, at, ended) = further i there in (suc k, at, ended))

those_at : {X : Type 0} (wanted : Ended → Bool) (ys : List X) (rs : List Ended) (x : X) (i : ℕ) → slice_get (those wanted ys rs) i ≡ Some x → IsAt wanted ys rs x
those_at wanted [] rs x i there = absurd cc
those_at wanted (y ∷ ys) [] x i there = absurd cc
those_at wanted (y ∷ ys) (r ∷ rs) x i there = those_by (wanted r) wanted y ys r rs x refl (those_at wanted ys rs x) i there

failed_left : (e : Ended) → has_failed e ≡ true → is_left e ≡ true
failed_left Waiting h = refl
failed_left Finished h = h
failed_left Unexpected h = h
failed_left Failed h = refl
failed_left GivenUp h = h

waiting_left : (e : Ended) → is_waiting e ≡ true → is_left e ≡ true
waiting_left Waiting h = refl
waiting_left Finished h = h
waiting_left Unexpected h = h
waiting_left Failed h = refl
waiting_left GivenUp h = h

pub left_at : {X : Type 0} (order : LeftOrder) (ys : List X) (rs : List Ended) (x : X) (i : ℕ) → slice_get (left_of order ys rs) i ≡ Some x → IsAt is_left ys rs x
left_at AsListed ys rs x i there = those_at is_left ys rs x i there
left_at FailedFirst ys rs x i there =
    elim (joined (those has_failed ys rs) (those is_waiting ys rs) i x there) [
      | inl failed ↦ let (k, at, (e, at_e, is)) = those_at has_failed ys rs x i failed in (k, at, (e, at_e, failed_left e is))
      | inr (j, waits) ↦ let (k, at, (e, at_e, is)) = those_at is_waiting ys rs x j waits in (k, at, (e, at_e, waiting_left e is))
    ]

-- ---- what is left of a list with barriers

-- a piece before the front that is left, or one after it, which no piece before it stops
abbrev pub IsPlaced : {P : Type 0} → List P → List Ended → ℕ → P → ℕ → Type 0
IsPlaced ds ends front d j = (slice_get ds j ≡ Some d) × (((j < front) × HasEnded is_left ends j) ⊎ ((front ≤ j) × (front < length ds) × NoneStops ends front))

pub before_at : {P : Type 0} (order : LeftOrder) (ds : List P) (ends : List Ended) (front : ℕ) (d : P) (t : ℕ)
    → slice_get (left_before order ds ends front) t ≡ Some d → (j : ℕ) × IsPlaced ds ends front d j
before_at order ds ends front d t there =
    let (j, at, (e, at_e, is)) = left_at order (take front ds) (take front ends) d t there in
    let (less, here) = taken front ds j d at in
    let (_, ended) = taken front ends j e at_e in
    (j, (here, inl (less, (e, ended, is))))

pub rest_at : {P : Type 0} (order : LeftOrder) (ds : List P) (barriers : List Bool) (ends : List Ended) (front : ℕ) (rest : Remainder P) (t : ℕ) (d : P)
    → IsRest order ds barriers ends front rest → slice_get rest.pieces t ≡ Some d → (j : ℕ) × IsPlaced ds ends front d j
rest_at {P} order ds barriers ends front rest t d (is_last end is) there =
    before_at order ds ends front d t (sym (ap (λ (r : Remainder P). slice_get r.pieces t) is) ∙ there)
rest_at {P} order ds barriers ends front rest t d (stops_there i inside stop is) there =
    before_at order ds ends front d t (sym (ap (λ (r : Remainder P). slice_get r.pieces t) is) ∙ there)
rest_at {P} order ds barriers ends front rest t d (goes_on inside none is) there =
    elim (joined (left_before order ds ends front) (drop front ds) t d (sym (ap (λ (r : Remainder P). slice_get r.pieces t) is) ∙ there)) [
      | inl before ↦ before_at order ds ends front d t before
      | inr (k, after) ↦ (front + k, (skipped front ds k d after, inr (omega arith, inside, none)))
    ]

-- ---- all of them wait from the front on

stops_open : (e : Ended) → stops e ≡ true → is_open e ≡ true
stops_open Waiting h = refl
stops_open Finished h = h
stops_open Unexpected h = refl
stops_open Failed h = refl
stops_open GivenUp h = refl

stops_begun : (e : Ended) → stops e ≡ true → has_begun e ≡ true
stops_begun Waiting h = h
stops_begun Finished h = refl
stops_begun Unexpected h = refl
stops_begun Failed h = refl
stops_begun GivenUp h = refl

not_begun : (e : Ended) → (has_begun e ≡ true → ⊥) → e ≡ Waiting
not_begun Waiting none = refl
not_begun Finished none = absurd (none refl)
not_begun Unexpected none = absurd (none refl)
not_begun Failed none = absurd (none refl)
not_begun GivenUp none = absurd (none refl)

module _ (barriers : List Bool) (ends : List Ended) (front : ℕ) (none : NonePassed barriers ends) (is : IsFront barriers ends front) where
  pub none_begun : (j : ℕ) → front ≤ j → HasEnded has_begun ends j → ⊥
  none_begun j from (e, at, begun) =
      let (i, holds) = is.holds (omega (arith, slice_get_within ends j e at, from)) in
      none i j (front, holds, from, (e, at, begun))

  pub waits : (j : ℕ) (e : Ended) → front ≤ j → slice_get ends j ≡ Some e → e ≡ Waiting
  waits j e from at = not_begun e (λ begun. none_begun j from (e, at, begun))

  reached_before : (j : ℕ) → j < front → IsReached barriers ends j
  reached_before j less i k barrier before inside (e, at, stop) =
      is.none i k (omega (arith, less, inside)) (record { barrier = barrier; before = before; is_open = (e, at, stops_open e stop) })

  reached_after : (j : ℕ) → NoneStops ends front → IsReached barriers ends j
  reached_after j quiet i k barrier before inside (e, at, stop) =
      elim (cases_lt i front) [
        | inl less ↦ quiet i less (e, at, stop)
        | inr more ↦ none_begun i more (e, at, stops_begun e stop)
      ]

some_end : (ends : List Ended) (j : ℕ) → j < length ends → (e : Ended) × (slice_get ends j ≡ Some e)
some_end [] j less = absurd (omega (arith, less))
some_end (e ∷ es) zero less = (e, refl)
some_end (e ∷ es) (suc j) less = some_end es j (omega (arith, less))

pub left_is_reached : (P : Type 0) → LeftIsReached P
left_is_reached P order ds barriers ends rest t d left count there =
    let (j, (at, place)) = rest_at order ds barriers ends left.front rest t d left.is_rest there in
    elim place [
      | inl (less, ended) ↦ (j, at, ended, reached_before barriers ends left.front left.none_passed left.is_front j less)
      | inr (from, inside, quiet) ↦
          let (e, at_e) = some_end ends j (omega (arith, slice_get_within ds j d at, count)) in
          let waiting : e ≡ Waiting = waits barriers ends left.front left.none_passed left.is_front j e from at_e in
          (j, at, (e, at_e, ap is_left waiting), reached_after barriers ends left.front left.none_passed left.is_front j quiet)
    ]
