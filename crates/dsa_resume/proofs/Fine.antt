-- Pieces that don't conflict can change places.
use Rattle.std.proofs.Common.{◌≡◌, List, [], ◌∷◌, refl, ap, ◌∙◌}
use Rattle.std.specs.List.{AllByRecursion}
use Rattle.dsa_image.specs.Memory.{Memory}
use Rattle.dsa_resume.specs.Work.{HoldsWork, Work, in_order}
use Rattle.dsa_resume.proofs.Working.{Clash, IsWork, all_still, still}

-- one that conflicts with none of a list may be done before it
pub passed : {P : Type 0} (work : Work P) (is : IsWork work) (p : P) (qs : List P) (m : Memory) → HoldsWork work m p → AllByRecursion (HoldsWork work m) qs
    → AllByRecursion (λ (q : P). Clash work p q → ⊥) qs → work.done p (in_order work qs m) ≡ in_order work qs (work.done p m)
passed work is p [] m held all clear = refl
passed work is p (q ∷ qs) m held (here, all) (apart, clear) =
    passed work is p qs (work.done q m) (still work is q p m here held) (all_still work is q qs m here all) clear
    ∙ ap (λ (n : Memory). in_order work qs n) (is.swapped p q m held here apart)
