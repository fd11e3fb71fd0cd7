-- What is left is no longer than the list of all pieces.
use Rattle.std.proofs.Common.{◌≡◌, ℕ, zero, suc, ◌+◌, ◌<◌, ◌≤◌, Bool, true, false, cond, List, [], ◌∷◌, drop, length, refl, take, ap, ◌∙◌, arith}
use Rattle.std.specs.Prelude.{Some, slice_get}
use Rattle.std.proofs.lemmas.Option.{same_Some}
use Rattle.std.proofs.lemmas.List.{length-append, length-drop, length-take-le}
use Rattle.dsa_resume.specs.declared.status.Ended.{Ended}
use Rattle.dsa_resume.specs.declared.status.Ended.TheVariants.{Waiting, Finished, Unexpected, Failed, GivenUp}
use Rattle.dsa_resume.specs.declared.left.LeftOrder.{LeftOrder}
use Rattle.dsa_resume.specs.declared.left.LeftOrder.TheVariants.{AsListed, FailedFirst}
use Rattle.dsa_resume.specs.Barriers.{HasEnded, IsFront, NoneStops}
use Rattle.dsa_resume.specs.Ended.{is_left, has_failed, is_open, is_waiting, stops}
use Rattle.dsa_resume.specs.Left.{those, left_of}
use Rattle.dsa_resume.specs.Rest.{IsRest, Remainder, goes_on, is_last, left_before, stops_there}
use Rattle.dsa_resume.specs.Laws.{LeftIsShort}

-- those of one piece more
length_by : {P : Type 0} (b : Bool) (wanted : Ended → Bool) (d : P) (ds : List P) (r : Ended) (rs : List Ended) → wanted r ≡ b
    → length (those wanted (d ∷ ds) (r ∷ rs)) ≡ cond b 1 0 + length (those wanted ds rs)
length_by true wanted d ds r rs e = rw e (omega arith)
length_by false wanted d ds r rs e = rw e (omega arith)

-- a piece is left once at most, and has not both failed and waited
left_once : (e : Ended) → cond (is_left e) 1 0 ≤ 1
left_once Waiting = omega arith
left_once Finished = omega arith
left_once Unexpected = omega arith
left_once Failed = omega arith
left_once GivenUp = omega arith

one_part : (e : Ended) → cond (has_failed e) 1 0 + cond (is_waiting e) 1 0 ≤ 1
one_part Waiting = omega arith
one_part Finished = omega arith
one_part Unexpected = omega arith
one_part Failed = omega arith
one_part GivenUp = omega arith

left_few : {P : Type 0} (ds : List P) (rs : List Ended) → length (those is_left ds rs) ≤ length ds
left_few [] rs = omega arith
left_few (d ∷ ds) [] = omega arith
left_few (d ∷ ds) (r ∷ rs) = omega (arith, length_by (is_left r) is_left d ds r rs refl, left_once r, left_few ds rs)

both_few : {P : Type 0} (ds : List P) (rs : List Ended) → length (those has_failed ds rs) + length (those is_waiting ds rs) ≤ length ds
both_few [] rs = omega arith
both_few (d ∷ ds) [] = omega arith
both_few (d ∷ ds) (r ∷ rs) =
    omega (
      arith,
      length_by (has_failed r) has_failed d ds r rs refl,
      length_by (is_waiting r) is_waiting d ds r rs refl,
      one_part r,
      both_few ds rs,
    )

pub few_left : {P : Type 0} (order : LeftOrder) (ds : List P) (rs : List Ended) → length (left_of order ds rs) ≤ length ds
few_left AsListed ds rs = left_few ds rs
few_left FailedFirst ds rs = omega (arith, length-append (those has_failed ds rs) (those is_waiting ds rs), both_few ds rs)

-- the pieces before the front that are left, and those after it
before_few : {P : Type 0} (order : LeftOrder) (ds : List P) (ends : List Ended) (front : ℕ) → front ≤ length ds → length (left_before order ds ends front) ≤ front
before_few order ds ends front within = omega (arith, few_left order (take front ds) (take front ends), length-take-le front ds within)

pub rest_few : {P : Type 0} (order : LeftOrder) (ds : List P) (barriers : List Bool) (ends : List Ended) (front : ℕ) (rest : Remainder P)
    → IsRest order ds barriers ends front rest → length rest.pieces ≤ length ds
rest_few {P} order ds barriers ends front rest (is_last end is) =
    omega (arith, ap (λ (r : Remainder P). length r.pieces) is, before_few order ds ends front (omega (arith, end)), end)
rest_few {P} order ds barriers ends front rest (goes_on inside none is) =
    omega (
      arith,
      ap (λ (r : Remainder P). length r.pieces) is,
      length-append (left_before order ds ends front) (drop front ds),
      before_few order ds ends front (omega (arith, inside)),
      length-drop front ds,
      inside,
    )
rest_few {P} order ds barriers ends front rest (stops_there i inside stop is) =
    omega (arith, ap (λ (r : Remainder P). length r.pieces) is, before_few order ds ends front (omega (arith, inside)), inside)

pub left_is_short : (P : Type 0) → LeftIsShort P
left_is_short P order ds barriers ends rest left = rest_few order ds barriers ends left.front rest left.is_rest

-- ---- something is left before a barrier that holds, if nothing stops the list

those_some_by : {P : Type 0} (b : Bool) (wanted : Ended → Bool) (d : P) (ds : List P) (r : Ended) (rs : List Ended) → wanted r ≡ b → 0 < length (those wanted ds rs)
    → 0 < length (those wanted (d ∷ ds) (r ∷ rs))
those_some_by true wanted d ds r rs e some = rw e (omega arith)
those_some_by false wanted d ds r rs e some = rw e some

those_some : {P : Type 0} (wanted : Ended → Bool) (ds : List P) (rs : List Ended) (i : ℕ) → i < length ds → HasEnded wanted rs i → 0 < length (those wanted ds rs)
those_some wanted [] rs i less ended = absurd (omega (arith, less))
those_some wanted (d ∷ ds) [] i less (e, at, is) = absurd cc
those_some wanted (d ∷ ds) (r ∷ rs) zero less (e, at, is) = rw (ap wanted (same_Some r e at) ∙ is) (omega arith)
those_some wanted (d ∷ ds) (r ∷ rs) (suc i) less ended = those_some_by (wanted r) wanted d ds r rs refl (those_some wanted ds rs i (omega (arith, less)) ended)

left_some : {P : Type 0} (order : LeftOrder) (ds : List P) (rs : List Ended) (i : ℕ) → i < length ds → (e : Ended) → slice_get rs i ≡ Some e → is_open e ≡ true → (stops e ≡ true → ⊥)
    → 0 < length (left_of order ds rs)
left_some AsListed ds rs i less Waiting at undone quiet = those_some is_left ds rs i less (Waiting, at, refl)
left_some AsListed ds rs i less Finished at undone quiet = absurd cc
left_some AsListed ds rs i less Unexpected at undone quiet = absurd (quiet refl)
left_some AsListed ds rs i less Failed at undone quiet = those_some is_left ds rs i less (Failed, at, refl)
left_some AsListed ds rs i less GivenUp at undone quiet = absurd (quiet refl)
left_some FailedFirst ds rs i less Waiting at undone quiet =
    omega (arith, length-append (those has_failed ds rs) (those is_waiting ds rs), those_some is_waiting ds rs i less (Waiting, at, refl))
left_some FailedFirst ds rs i less Finished at undone quiet = absurd cc
left_some FailedFirst ds rs i less Unexpected at undone quiet = absurd (quiet refl)
left_some FailedFirst ds rs i less Failed at undone quiet =
    omega (arith, length-append (those has_failed ds rs) (those is_waiting ds rs), those_some has_failed ds rs i less (Failed, at, refl))
left_some FailedFirst ds rs i less GivenUp at undone quiet = absurd (quiet refl)

in_front : (n : ℕ) (ends : List Ended) (i : ℕ) (e : Ended) → i < n → slice_get ends i ≡ Some e → slice_get (take n ends) i ≡ Some e
in_front zero ends i e less at = absurd (omega (arith, less))
in_front (suc n) [] i e less at = absurd cc
in_front (suc n) (r ∷ rs) zero e less at = at
in_front (suc n) (r ∷ rs) (suc i) e less at = in_front n rs i e (omega (arith, less)) at

pub some_before : {P : Type 0} (order : LeftOrder) (ds : List P) (barriers : List Bool) (ends : List Ended) (front : ℕ) → IsFront barriers ends front → length ends ≡ length ds
    → NoneStops ends front → front < length ds → 0 < length (left_before order ds ends front)
some_before order ds barriers ends front is_front count quiet inside =
    let (i, holds) = is_front.holds (omega (arith, inside, count)) in
    let (e, at, undone) = holds.is_open in
    left_some order (take front ds) (take front ends) i (omega (arith, holds.before, length-take-le front ds (omega (arith, inside)))) e (in_front front ends i e holds.before at) undone
    (λ stop. quiet i holds.before (e, at, stop))
