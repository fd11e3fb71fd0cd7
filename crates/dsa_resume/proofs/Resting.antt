-- Doing what is left of a list with barriers leaves what executing it one by one leaves.
use Rattle.std.proofs.Common.{◌≡◌, ℕ, zero, suc, ◌≤◌, Bool, true, false, List, [], ◌∷◌, ◌++◌, drop, refl, sym, ap, ◌∙◌, take, arith}
use Rattle.std.specs.Prelude.{Some, slice_get}
use Rattle.std.specs.List.{AllByRecursion}
use Rattle.std.proofs.lemmas.List.{append-nil, drop_all}
use Rattle.dsa_image.specs.Memory.{Memory}
use Rattle.dsa_resume.specs.declared.status.Ended.{Ended}
use Rattle.dsa_resume.specs.declared.status.Ended.TheVariants.{Waiting}
use Rattle.dsa_resume.specs.declared.left.LeftOrder.{LeftOrder}
use Rattle.dsa_resume.specs.declared.left.LeftOrder.TheVariants.{AsListed, FailedFirst}
use Rattle.dsa_resume.specs.Ended.{has_failed, has_finished, is_kept, is_left, is_waiting}
use Rattle.dsa_resume.specs.Laws.{MayBeDone, MayComeFirst, RestLeavesWhole, executed_pieces}
use Rattle.dsa_resume.specs.Left.{left_of, those}
use Rattle.dsa_resume.specs.Rest.{IsRest, Remainder, goes_on, is_last, left_before, stops_there}
use Rattle.dsa_resume.specs.Work.{HoldsWork, Work, in_order}
use Rattle.dsa_resume.proofs.Parting.{in_order-append, left_leaves, may_clash}
use Rattle.dsa_resume.proofs.Places.{taken, waits}
use Rattle.dsa_resume.proofs.Redone.{redone}
use Rattle.dsa_resume.proofs.Working.{ClashAt, IsWork, one_by_one}

-- ---- the first pieces of a list

-- what has finished is before the front, if all pieces after it wait
none_finished : {P : Type 0} (ps : List P) (rs : List Ended) → ((j : ℕ) (e : Ended) → slice_get rs j ≡ Some e → e ≡ Waiting) → those has_finished ps rs ≡ []
none_finished [] rs wait = refl
none_finished (p ∷ ps) [] wait = refl
none_finished (p ∷ ps) (r ∷ rs) wait = rw (wait 0 r refl) (none_finished ps rs (λ j e at. wait (suc j) e at))

finished_by : {P : Type 0} (b : Bool) (p : P) (ps : List P) (r : Ended) (rs : List Ended) (n : ℕ) → has_finished r ≡ b
    → those has_finished ps rs ≡ those has_finished (take n ps) (take n rs) → those has_finished (p ∷ ps) (r ∷ rs) ≡ those has_finished (p ∷ take n ps) (r ∷ take n rs)
finished_by true p ps r rs n e so_far = rw e (ap (λ (fs : List _). p ∷ fs) so_far)
finished_by false p ps r rs n e so_far = rw e so_far

finished_before : {P : Type 0} (n : ℕ) (ps : List P) (rs : List Ended) → ((j : ℕ) (e : Ended) → n ≤ j → slice_get rs j ≡ Some e → e ≡ Waiting)
    → those has_finished ps rs ≡ those has_finished (take n ps) (take n rs)
finished_before zero ps rs wait = none_finished ps rs (λ j e at. wait j e (omega arith) at) ∙ none_taken ps rs
  where
    none_taken : {P : Type 0} (ps : List P) (rs : List Ended) → [] ≡ those has_finished (take 0 ps) (take 0 rs)
    none_taken [] rs = refl
    none_taken (p ∷ ps) rs = refl
finished_before (suc n) [] rs wait = refl
finished_before (suc n) (p ∷ ps) [] wait = refl
finished_before (suc n) (p ∷ ps) (r ∷ rs) wait =
    finished_by (has_finished r) p ps r rs n refl (finished_before n ps rs (λ j e from at. wait (suc j) e (omega (arith, from)) at))

-- what may come first of all may come first of these
first_of : {P : Type 0} (work : Work P) (first second : Ended → Bool) (ps : List P) (rs : List Ended) (n : ℕ) → MayComeFirst first second (ClashAt work ps) rs
    → MayComeFirst first second (ClashAt work (take n ps)) (take n rs)
first_of work first second ps rs n may i j less (e, at_i, is) (f, at_j, was) (d, g, at_d, at_g, conflict) =
    may i j less (e, (taken n rs i e at_i).1, is) (f, (taken n rs j f at_j).1, was) (d, g, (taken n ps i d at_d).1, (taken n ps j g at_g).1, conflict)

done_of : {P : Type 0} (work : Work P) (order : LeftOrder) (ps : List P) (rs : List Ended) (n : ℕ) → MayBeDone order (ClashAt work ps) rs → MayBeDone order (ClashAt work (take n ps)) (take n rs)
done_of work AsListed ps rs n may = first_of work has_finished is_left ps rs n may
done_of work FailedFirst ps rs n (may, may') = (first_of work has_finished is_left ps rs n may, first_of work has_failed is_waiting ps rs n may')

held_taken : {P : Type 0} (work : Work P) (n : ℕ) (m : Memory) (ps : List P) → AllByRecursion (HoldsWork work m) ps → AllByRecursion (HoldsWork work m) (take n ps)
held_taken work zero m [] held = tt
held_taken work zero m (p ∷ ps) held = tt
held_taken work (suc n) m [] held = tt
held_taken work (suc n) m (p ∷ ps) (here, held) = (here, held_taken work n m ps held)

-- ---- what is left, and what executing one by one does

-- the pieces that follow those before the front, in both
parts : {P : Type 0} (order : LeftOrder) (ps : List P) (barriers : List Bool) (ends : List Ended) (front : ℕ) (rest : Remainder P) → IsRest order ps barriers ends front rest
    → (more : List P) × (rest.pieces ≡ left_before order ps ends front ++ more) × (executed_pieces ps ends front rest.left_out ≡ those is_kept (take front ps) (take front ends) ++ more)
parts {P} order ps barriers ends front rest (is_last end is) = (
  [],
  ap (λ (r : Remainder P). r.pieces) is ∙ sym (append-nil (left_before order ps ends front)),
  ap (λ (r : Remainder P). executed_pieces ps ends front r.left_out) is ∙ ap (λ (xs : List P). those is_kept (take front ps) (take front ends) ++ xs) (drop_all front ps (omega (arith, end))),
)
parts {P} order ps barriers ends front rest (goes_on inside none is) =
    (drop front ps, ap (λ (r : Remainder P). r.pieces) is, ap (λ (r : Remainder P). executed_pieces ps ends front r.left_out) is)
parts {P} order ps barriers ends front rest (stops_there i inside stop is) = (
  [],
  ap (λ (r : Remainder P). r.pieces) is ∙ sym (append-nil (left_before order ps ends front)),
  ap (λ (r : Remainder P). executed_pieces ps ends front r.left_out) is ∙ sym (append-nil (those is_kept (take front ps) (take front ends))),
)

pub rest_leaves_whole : {P : Type 0} (work : Work P) → IsWork work → RestLeavesWhole work
rest_leaves_whole {P} work is order ps barriers ends rest m n left recorded may has_left =
    let front : ℕ = left.front in
    let before : List P = take front ps in
    let ended : List Ended = take front ends in
    let (more, rest_is, executed_is) = parts order ps barriers ends front rest left.is_rest in
    let held : AllByRecursion (HoldsWork work m) before = held_taken work front m ps (one_by_one work ps m recorded.holds) in
    let same : those has_finished ps ends ≡ those has_finished before ended =
    finished_before front ps ends (λ j e from at. waits barriers ends front left.none_passed left.is_front j e from at) in
    redone work is rest.pieces (in_order work (those has_finished ps ends) m) n has_left
    ∙ ap (λ (xs : List P). in_order work xs (in_order work (those has_finished ps ends) m)) rest_is
    ∙ in_order-append work (left_of order before ended) more (in_order work (those has_finished ps ends) m)
    ∙ ap (λ (xs : List P). in_order work more (in_order work (left_of order before ended) (in_order work xs m))) same
    ∙ ap (λ (x : Memory). in_order work more x) (left_leaves work is order before ended m held (done_of work order ps ends front (may_clash work is order ps ends may)))
    ∙ sym (in_order-append work (those is_kept before ended) more m)
    ∙ ap (λ (xs : List P). in_order work xs m) (sym executed_is)
