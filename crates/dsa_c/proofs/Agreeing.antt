-- Marks and plans spell each other.
use Rattle.std.proofs.Common.{◌≡◌, ℕ, zero, suc, ◌<◌, ◌++◌, Bool, true, false, List, [], ◌∷◌, map, length, refl, sym, ap, ◌∙◌, append_assoc, append-nil, length-append, fold, arith}
use Rattle.std.specs.List.{AllByRecursion}
use Rattle.std.proofs.lemmas.List.{length-map, map-append}
use Rattle.std.proofs.lemmas.List.Sums.{fold-append, sum_by-cons}
use Rattle.std.proofs.lemmas.List.Concat.{flat_map-append}
use Rattle.std.proofs.lemmas.List.Elements.{recursion_from_All}
use Rattle.dsa_settings.specs.Plan.{Group, Plan, piece_count}
use Rattle.dsa_c.specs.Marks.{mark, group_marks, marks_of, State, next, closed, plan_of}
use Rattle.dsa_c.specs.Laws.{MarksSpellPlans, AreMarks, PlansSpellMarks}

-- ---- from plans to marks and back

-- the marks of the further pieces of a group make it longer
rest_added : (gs : Plan) (x : Bool) (g xs : List Bool) → ◌≡◌ {A = State} (fold next (gs, x ∷ g) (map (mark false) xs)) (gs, x ∷ (g ++ xs))
rest_added gs x g [] = ap (λ (y : List Bool). (gs, x ∷ y)) (sym (append-nil g))
rest_added gs x g (true ∷ xs) = rest_added gs x (g ++ (true ∷ [])) xs ∙ ap (λ (y : List Bool). (gs, x ∷ y)) (append_assoc g (true ∷ []) xs)
rest_added gs x g (false ∷ xs) = rest_added gs x (g ++ (false ∷ [])) xs ∙ ap (λ (y : List Bool). (gs, x ∷ y)) (append_assoc g (false ∷ []) xs)

-- those of a whole group close the group before it
group_added : (gs : Plan) (g : Group) (x : Bool) (xs : List Bool) → ◌≡◌ {A = State} (fold next (gs, g) (group_marks (x ∷ xs))) (closed (gs, g), x ∷ xs)
group_added gs [] true xs = rest_added gs true [] xs
group_added gs [] false xs = rest_added gs false [] xs
group_added gs (y ∷ g) true xs = rest_added (gs ++ ((y ∷ g) ∷ [])) true [] xs
group_added gs (y ∷ g) false xs = rest_added (gs ++ ((y ∷ g) ∷ [])) false [] xs

-- those of a plan add its groups
plan_added : (plan gs : Plan) (g : Group) → AllByRecursion (λ (x : Group). 0 < length x) plan → closed (fold next (gs, g) (marks_of plan)) ≡ closed (gs, g) ++ plan
plan_added [] gs g all = sym (append-nil (closed (gs, g)))
plan_added ([] ∷ plan) gs g all = absurd (omega (arith, all.0))
plan_added ((x ∷ xs) ∷ plan) gs g all =
    ap closed (fold-append next (gs, g) (group_marks (x ∷ xs)) (marks_of plan))
    ∙ ap (λ (s : State). closed (fold next s (marks_of plan))) (group_added gs g x xs)
    ∙ plan_added plan (closed (gs, g)) (x ∷ xs) all.1
    ∙ append_assoc (closed (gs, g)) ((x ∷ xs) ∷ []) plan

-- a group has as many marks as pieces, and so has a plan
group_count : (g : Group) → length (group_marks g) ≡ length g
group_count [] = refl
group_count (x ∷ xs) = ap (λ (n : ℕ). suc n) (length-map xs (mark false))

pub marks_count : (plan : Plan) → length (marks_of plan) ≡ piece_count plan
marks_count [] = refl
marks_count (g ∷ plan) =
    length-append (group_marks g) (marks_of plan) ∙ omega (arith, group_count g, marks_count plan, sum_by-cons length g plan)

pub marks_spell_plans : MarksSpellPlans
marks_spell_plans plan full = record {
  spell = plan_added plan [] [] (recursion_from_All (λ (x : Group). 0 < length x) plan full);
  count = marks_count plan;
}

-- ---- from marks to plans and back

-- the marks of the last group are at the end
last_marks : (gs : Plan) (g : Group) → marks_of (gs ++ (g ∷ [])) ≡ marks_of gs ++ group_marks g
last_marks gs g = flat_map-append group_marks gs (g ∷ []) ∙ ap (λ (l : List ℕ). marks_of gs ++ l) (append-nil (group_marks g))

-- a piece more at the end of the last group
one_longer : (gs : Plan) (y x : Bool) (g : List Bool) → marks_of (gs ++ ((y ∷ (g ++ (x ∷ []))) ∷ [])) ≡ marks_of (gs ++ ((y ∷ g) ∷ [])) ++ (mark false x ∷ [])
one_longer gs y x g =
    let tail : map (mark false) (g ++ (x ∷ [])) ≡ map (mark false) g ++ (mark false x ∷ []) = map-append (mark false) g (x ∷ []) in
    last_marks gs (y ∷ (g ++ (x ∷ [])))
    ∙ ap (λ (l : List ℕ). marks_of gs ++ (mark true y ∷ l)) tail
    ∙ sym (append_assoc (marks_of gs) (mark true y ∷ map (mark false) g) (mark false x ∷ []))
    ∙ ap (λ (l : List ℕ). l ++ (mark false x ∷ [])) (sym (last_marks gs (y ∷ g)))

-- a group of one piece more
group_more : (gs : Plan) (x : Bool) → marks_of (gs ++ ((x ∷ []) ∷ [])) ≡ marks_of gs ++ (mark true x ∷ [])
group_more gs x = last_marks gs (x ∷ [])

-- the marks after an open group come after its marks
marks_kept : (marks : List ℕ) (gs : Plan) (y : Bool) (g : List Bool) → AllByRecursion (λ (m : ℕ). m < 4) marks
    → marks_of (closed (fold next (gs, y ∷ g) marks)) ≡ marks_of (gs ++ ((y ∷ g) ∷ [])) ++ marks
marks_kept [] gs y g all = sym (append-nil (marks_of (gs ++ ((y ∷ g) ∷ []))))
marks_kept (zero ∷ marks) gs y g all =
    marks_kept marks gs y (g ++ (false ∷ [])) all.1
    ∙ ap (λ (l : List ℕ). l ++ marks) (one_longer gs y false g)
    ∙ append_assoc (marks_of (gs ++ ((y ∷ g) ∷ []))) (0 ∷ []) marks
marks_kept (suc zero ∷ marks) gs y g all =
    marks_kept marks (gs ++ ((y ∷ g) ∷ [])) false [] all.1
    ∙ ap (λ (l : List ℕ). l ++ marks) (group_more (gs ++ ((y ∷ g) ∷ [])) false)
    ∙ append_assoc (marks_of (gs ++ ((y ∷ g) ∷ []))) (1 ∷ []) marks
marks_kept (suc (suc zero) ∷ marks) gs y g all =
    marks_kept marks gs y (g ++ (true ∷ [])) all.1
    ∙ ap (λ (l : List ℕ). l ++ marks) (one_longer gs y true g)
    ∙ append_assoc (marks_of (gs ++ ((y ∷ g) ∷ []))) (2 ∷ []) marks
marks_kept (suc (suc (suc zero)) ∷ marks) gs y g all =
    marks_kept marks (gs ++ ((y ∷ g) ∷ [])) true [] all.1
    ∙ ap (λ (l : List ℕ). l ++ marks) (group_more (gs ++ ((y ∷ g) ∷ [])) true)
    ∙ append_assoc (marks_of (gs ++ ((y ∷ g) ∷ []))) (3 ∷ []) marks
marks_kept (suc (suc (suc (suc m))) ∷ marks) gs y g all = absurd (omega (arith, all.0))

first_kept : (first : ℕ) (rest : List ℕ) → AreMarks (first ∷ rest) → AllByRecursion (λ (m : ℕ). m < 4) (first ∷ rest) → marks_of (plan_of (first ∷ rest)) ≡ first ∷ rest
first_kept zero rest are all = absurd (cc)
first_kept (suc zero) rest are all = marks_kept rest [] false [] all.1
first_kept (suc (suc zero)) rest are all = absurd (cc)
first_kept (suc (suc (suc zero))) rest are all = marks_kept rest [] true [] all.1
first_kept (suc (suc (suc (suc m)))) rest are all = absurd (omega (arith, all.0))

pub plans_spell_marks : PlansSpellMarks
plans_spell_marks [] are = refl
plans_spell_marks (first ∷ rest) are = first_kept first rest are (recursion_from_All (λ (m : ℕ). m < 4) (first ∷ rest) are.1)
