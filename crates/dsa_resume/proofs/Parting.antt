-- Some pieces of a list done before others.
use Rattle.std.proofs.Common.{◌≡◌, ℕ, suc, Bool, true, false, List, [], ◌∷◌, ◌++◌, Some, slice_get, refl, ap, ◌∙◌, arith}
use Rattle.std.specs.List.{AllByRecursion}
use Rattle.dsa_image.specs.Memory.{Memory}
use Rattle.dsa_resume.specs.declared.status.Ended.{Ended}
use Rattle.dsa_resume.specs.declared.status.Ended.TheVariants.{Waiting, Finished, Unexpected, Failed, GivenUp}
use Rattle.dsa_resume.specs.declared.left.LeftOrder.{LeftOrder}
use Rattle.dsa_resume.specs.declared.left.LeftOrder.TheVariants.{AsListed, FailedFirst}
use Rattle.dsa_resume.specs.Barriers.{HasEnded}
use Rattle.dsa_resume.specs.Ended.{has_finished, is_left, has_failed, is_kept, is_waiting}
use Rattle.dsa_resume.specs.Laws.{MayBeDone, MayComeFirst, NoneGivenUp, ResumesInOrder}
use Rattle.dsa_resume.specs.Left.{left_of, those}
use Rattle.dsa_resume.specs.Work.{HoldsWork, Work, in_order}
use Rattle.dsa_resume.proofs.Fine.{passed}
use Rattle.dsa_resume.proofs.Redone.{redone}
use Rattle.dsa_resume.proofs.Working.{Clash, ClashAt, IsWork, all_still, clash_at, one_by_one}

-- of all of these, each is one of the first or one of the second, and no other is
abbrev pub Splits : Bool → Bool → Bool → Type 0
Splits false false false = Unit {0}
Splits false false true = ⊥
Splits false true false = ⊥
Splits false true true = ⊥
Splits true false false = ⊥
Splits true false true = Unit {0}
Splits true true false = Unit {0}
Splits true true true = ⊥

-- if none is given up, these are all
pub none_given_up : (P : Type 0) → NoneGivenUp P
none_given_up P [] rs count kept = refl
none_given_up P (p ∷ ps) [] count kept = absurd (omega arith)
none_given_up P (p ∷ ps) (r ∷ rs) count kept =
    rw (kept 0 r refl) (ap (λ (qs : List P). p ∷ qs) (none_given_up P ps rs (omega arith) (λ i e there. kept (suc i) e there)))

finished_or_left : (e : Ended) → Splits (is_kept e) (has_finished e) (is_left e)
finished_or_left Waiting = tt
finished_or_left Finished = tt
finished_or_left Unexpected = tt
finished_or_left Failed = tt
finished_or_left GivenUp = tt

pub failed_or_waiting : (e : Ended) → Splits (is_left e) (has_failed e) (is_waiting e)
failed_or_waiting Waiting = tt
failed_or_waiting Finished = tt
failed_or_waiting Unexpected = tt
failed_or_waiting Failed = tt
failed_or_waiting GivenUp = tt

-- pieces one after another, in two parts
pub in_order-append : {P : Type 0} (work : Work P) (ps qs : List P) (m : Memory) → in_order work (ps ++ qs) m ≡ in_order work qs (in_order work ps m)
in_order-append work [] qs m = refl
in_order-append work (p ∷ ps) qs m = in_order-append work ps qs (work.done p m)

module _ {P : Type 0} (work : Work P) where
  -- what holds of all holds of those that have ended so
  held_by : (b : Bool) (wanted : Ended → Bool) (m : Memory) (p : P) (ps : List P) (r : Ended) (rs : List Ended) → wanted r ≡ b → HoldsWork work m p
      → AllByRecursion (HoldsWork work m) (those wanted ps rs) → AllByRecursion (HoldsWork work m) (those wanted (p ∷ ps) (r ∷ rs))
  held_by true wanted m p ps r rs e here all = rw e (here, all)
  held_by false wanted m p ps r rs e here all = rw e all

  pub those_held : (wanted : Ended → Bool) (m : Memory) (ps : List P) (rs : List Ended) → AllByRecursion (HoldsWork work m) ps → AllByRecursion (HoldsWork work m) (those wanted ps rs)
  those_held wanted m [] rs all = tt
  those_held wanted m (p ∷ ps) [] all = tt
  those_held wanted m (p ∷ ps) (r ∷ rs) (here, all) = held_by (wanted r) wanted m p ps r rs refl here (those_held wanted m ps rs all)

  -- a piece that conflicts with none of the later ones that have ended so
  clear_by : (b : Bool) (wanted : Ended → Bool) (p q : P) (ps : List P) (r : Ended) (rs : List Ended) → wanted r ≡ b
      → (wanted r ≡ true → Clash work p q → ⊥) → AllByRecursion (λ (e : P). Clash work p e → ⊥) (those wanted ps rs)
      → AllByRecursion (λ (e : P). Clash work p e → ⊥) (those wanted (q ∷ ps) (r ∷ rs))
  clear_by true wanted p q ps r rs e here all = rw e (here e, all)
  clear_by false wanted p q ps r rs e here all = rw e all

  pub clear_of : (wanted : Ended → Bool) (p : P) (ps : List P) (rs : List Ended)
      → ((j : ℕ) (e : P) → HasEnded wanted rs j → slice_get ps j ≡ Some e → Clash work p e → ⊥) → AllByRecursion (λ (e : P). Clash work p e → ⊥) (those wanted ps rs)
  clear_of wanted p [] rs apart = tt
  clear_of wanted p (q ∷ ps) [] apart = tt
  clear_of wanted p (q ∷ ps) (r ∷ rs) apart =
      clear_by (wanted r) wanted p q ps r rs refl (λ e. apart 0 q (r, refl, e) refl) (clear_of wanted p ps rs (λ j e ended there. apart (suc j) e ended there))

  -- the condition on the later pieces
  pub later : (first second : Ended → Bool) (p : P) (ps : List P) (r : Ended) (rs : List Ended) → MayComeFirst first second (ClashAt work (p ∷ ps)) (r ∷ rs)
      → MayComeFirst first second (ClashAt work ps) rs
  later first second p ps r rs may i j less one two (d, e, at, there, conflict) = may (suc i) (suc j) (omega arith) one two (d, e, at, there, conflict)

module _ {P : Type 0} (work : Work P) (is : IsWork work) where
  -- those that have finished keep all else
  pub held_after : (es ps : List P) (m : Memory) → AllByRecursion (HoldsWork work m) es → AllByRecursion (HoldsWork work m) ps → AllByRecursion (HoldsWork work (in_order work es m)) ps
  held_after [] ps m held all = all
  held_after (e ∷ es) ps m (here, held) all = held_after es ps (work.done e m) (all_still work is e es m here held) (all_still work is e ps m here all)

  -- a first piece, by its part
  part_by : (a b c : Bool) (all first second : Ended → Bool) (p : P) (ps : List P) (r : Ended) (rs : List Ended) (m : Memory)
      → all r ≡ a → first r ≡ b → second r ≡ c → Splits a b c → HoldsWork work m p → AllByRecursion (HoldsWork work m) ps
      → (second r ≡ true → AllByRecursion (λ (e : P). Clash work p e → ⊥) (those first ps rs))
      → ((n : Memory) → AllByRecursion (HoldsWork work n) ps → in_order work (those second ps rs) (in_order work (those first ps rs) n) ≡ in_order work (those all ps rs) n)
      → in_order work (those second (p ∷ ps) (r ∷ rs)) (in_order work (those first (p ∷ ps) (r ∷ rs)) m) ≡ in_order work (those all (p ∷ ps) (r ∷ rs)) m
  part_by false false false all first second p ps r rs m ea eb ec splits here held clear so_far = rw (ea, eb, ec) (so_far m held)
  part_by false false true all first second p ps r rs m ea eb ec splits here held clear so_far = absurd splits
  part_by false true false all first second p ps r rs m ea eb ec splits here held clear so_far = absurd splits
  part_by false true true all first second p ps r rs m ea eb ec splits here held clear so_far = absurd splits
  part_by true false false all first second p ps r rs m ea eb ec splits here held clear so_far = absurd splits
  part_by true false true all first second p ps r rs m ea eb ec splits here held clear so_far =
      rw (ea, eb, ec) (ap (λ (n : Memory). in_order work (those second ps rs) n) (passed work is p (those first ps rs) m here (those_held work first m ps rs held) (clear ec))
      ∙ so_far (work.done p m) (all_still work is p ps m here held))
  part_by true true false all first second p ps r rs m ea eb ec splits here held clear so_far = rw (ea, eb, ec) (so_far (work.done p m) (all_still work is p ps m here held))
  part_by true true true all first second p ps r rs m ea eb ec splits here held clear so_far = absurd splits

  -- the pieces of one part, and then those of the other, leave what all leave in order
  parted : (all first second : Ended → Bool) (ps : List P) (rs : List Ended) (m : Memory) → ((e : Ended) → Splits (all e) (first e) (second e))
      → AllByRecursion (HoldsWork work m) ps → MayComeFirst first second (ClashAt work ps) rs
      → in_order work (those second ps rs) (in_order work (those first ps rs) m) ≡ in_order work (those all ps rs) m
  parted all first second [] rs m splits held may = refl
  parted all first second (p ∷ ps) [] m splits held may = refl
  parted all first second (p ∷ ps) (r ∷ rs) m splits (here, held) may =
      part_by (all r) (first r) (second r) all first second p ps r rs m refl refl refl (splits r) here held
      (λ was. clear_of work first p ps rs (λ j e ended there conflict. may 0 (suc j) (omega arith) (r, refl, was) ended (p, e, refl, there, conflict)))
      (λ n all_n. parted all first second ps rs n splits all_n (later work first second p ps r rs may))

  -- ---- the parts of what is left

  -- what is left after the finished pieces leaves what all that are kept leave
  left_whole : (ps : List P) (rs : List Ended) (m : Memory) → AllByRecursion (HoldsWork work m) ps → MayComeFirst has_finished is_left (ClashAt work ps) rs
      → in_order work (those is_left ps rs) (in_order work (those has_finished ps rs) m) ≡ in_order work (those is_kept ps rs) m
  left_whole ps rs m held may = parted is_kept has_finished is_left ps rs m finished_or_left held may

  -- in either order
  pub left_leaves : (order : LeftOrder) (ps : List P) (rs : List Ended) (m : Memory) → AllByRecursion (HoldsWork work m) ps → MayBeDone order (ClashAt work ps) rs
      → in_order work (left_of order ps rs) (in_order work (those has_finished ps rs) m) ≡ in_order work (those is_kept ps rs) m
  left_leaves AsListed ps rs m held may = left_whole ps rs m held may
  left_leaves FailedFirst ps rs m held (may, may') =
      let finished : Memory = in_order work (those has_finished ps rs) m in
      in_order-append work (those has_failed ps rs) (those is_waiting ps rs) finished
      ∙ parted is_left has_failed is_waiting ps rs finished failed_or_waiting (held_after (those has_finished ps rs) ps m (those_held work has_finished m ps rs held) held) may'
      ∙ left_whole ps rs m held may

  -- the same by the conflicts of the kind
  clashes : (first second : Ended → Bool) (ps : List P) (rs : List Ended) → MayComeFirst first second (work.conflict ps) rs → MayComeFirst first second (ClashAt work ps) rs
  clashes first second ps rs may i j less one two conflict = may i j less one two (clash_at work is ps i j conflict)

  pub may_clash : (order : LeftOrder) (ps : List P) (rs : List Ended) → MayBeDone order (work.conflict ps) rs → MayBeDone order (ClashAt work ps) rs
  may_clash AsListed ps rs may = clashes has_finished is_left ps rs may
  may_clash FailedFirst ps rs (may, may') = (clashes has_finished is_left ps rs may, clashes has_failed is_waiting ps rs may')

  pub resumes_in_order : ResumesInOrder work
  resumes_in_order order ps rs m n recorded may left =
      redone work is (left_of order ps rs) (in_order work (those has_finished ps rs) m) n left ∙ left_leaves order ps rs m (one_by_one work ps m recorded.holds) (may_clash order ps rs may)
