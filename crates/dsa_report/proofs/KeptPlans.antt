-- What is kept of a plan has as many pieces, and the same first fault.
use Rattle.std.proofs.Common.{◌≡◌, ◌≢◌, ◌⊎◌, inl, inr, ℕ, zero, suc, ◌<◌, ◌≤◌, Bool, true, false, None, IsTrue, ◌↔◌, List, [], ◌∷◌, ◌++◌, length, map, take, drop, Some, length-append, length-drop, append-nil, refl, sym, ap, subst, ◌∙◌, arith}
use Rattle.std.specs.List.{flat_map, slice_get}
use Rattle.std.proofs.lemmas.Bool.{cases_lt}
use Rattle.std.proofs.lemmas.List.{drop_all, drop-append-le, length-take-le, take_all, take-append-le}
use Rattle.std.proofs.lemmas.List.Concat.{flat_map-append, length-flat_map}
use Rattle.std.proofs.lemmas.List.Sums.{sum_by-cons}
use Rattle.std.proofs.lemmas.Option.{slice_get_within}
use Rattle.serde_json.specs.Data.{Data, null, boolean, number, string, array, object, Items, no_items, item}
use Rattle.serde_json.specs.View.{items_of}
use Rattle.dsa_settings.specs.declared.legal.LegalFault.{LegalFault}
use Rattle.dsa_settings.specs.declared.legal.LegalFault.TheVariants.{Count, GroupSize, FirstFence, Unfenced}
use Rattle.dsa_settings.specs.Plan.{Group, Plan, piece_count}
use Rattle.dsa_settings.specs.Legal.{IsLegal}
use Rattle.dsa_settings.specs.LegalFaults.{IsFirstLegalFault}
use Rattle.dsa_tokens.specs.Said.{AddsArray}
use Rattle.dsa_tokens.specs.Spelled.{Reads}
use Rattle.dsa_tokens.proofs.Items.{after, array_spelled, no_array_spelled}
use Rattle.dsa_report.specs.Groups.{AreGroups}
use Rattle.dsa_report.specs.Plan.{group_value, joined, kept_groups, most_groups, plan_value}
use Rattle.dsa_report.specs.declared.plan.Groups.{Groups}

-- ---- what is kept

joined_some : (groups : Plan) → 0 < length groups → joined groups ≡ flat_map (λ flags. flags) groups ∷ []
joined_some [] some = absurd (omega arith)
joined_some (g ∷ gs) some = refl

kept_few : (most : ℕ) (plan : Plan) → length plan ≤ most → kept_groups most plan ≡ plan
kept_few most plan few =
    ap (λ p. p ++ joined (drop most plan)) (take_all most plan few)
    ∙ ap (λ p. plan ++ joined p) (drop_all most plan few)
    ∙ append-nil plan

-- all later groups have as many pieces as the group that they make
joined_count : (groups : Plan) → piece_count (joined groups) ≡ piece_count groups
joined_count [] = refl
joined_count (g ∷ gs) =
    let all = length-flat_map (λ (flags : Group). flags) (g ∷ gs) in
    omega (arith, sum_by-cons length (flat_map (λ (flags : Group). flags) (g ∷ gs)) [], all)

kept_count : (most : ℕ) (plan : Plan) → piece_count (kept_groups most plan) ≡ piece_count plan
kept_count zero plan = joined_count plan
kept_count (suc m) [] = refl
kept_count (suc m) (g ∷ gs) =
    let rest = kept_count m gs in
    omega (arith, rest, sum_by-cons length g (kept_groups m gs), sum_by-cons length g gs)

kept_get : (most : ℕ) (plan : Plan) (k : ℕ) → k < most → slice_get plan k ≡ slice_get (kept_groups most plan) k
kept_get zero plan k less = absurd (omega arith)
kept_get (suc m) [] k less = refl
kept_get (suc m) (g ∷ gs) zero less = refl
kept_get (suc m) (g ∷ gs) (suc k) less = kept_get m gs k (omega arith)

kept_many : (most : ℕ) (plan : Plan) → most < length plan → most < length (kept_groups most plan)
kept_many zero [] many = absurd (omega arith)
kept_many zero (g ∷ gs) many = omega arith
kept_many (suc m) [] many = absurd (omega arith)
kept_many (suc m) (g ∷ gs) many = let rest = kept_many m gs (omega arith) in omega (arith, rest)

-- ---- plans that are alike

-- the plans have as many pieces and the same first groups, and if one has no more than those it is the other
pub record AreAlike (most : ℕ) (p q : Plan) : Type 0 where
  pub count : piece_count p ≡ piece_count q
  pub get : (k : ℕ) → k < most → slice_get p k ≡ slice_get q k
  pub few : length p ≤ most → p ≡ q
  pub few_other : length q ≤ most → q ≡ p

pub alike_kept : (most : ℕ) (plan : Plan) → AreAlike most plan (kept_groups most plan)
alike_kept most plan = record {
  count = sym (kept_count most plan);
  get = kept_get most plan;
  few = λ few. sym (kept_few most plan few);
  few_other = λ few. other few (cases_lt most (length plan));
}
  where
    other : length (kept_groups most plan) ≤ most → (most < length plan) ⊎ (length plan ≤ most) → kept_groups most plan ≡ plan
    other few (inr le) = kept_few most plan le
    other few (inl many) = let more = kept_many most plan many in absurd (omega (arith, more))

pub alike_other : (most : ℕ) (p q : Plan) → AreAlike most p q → AreAlike most q p
alike_other most p q alike = record {
  count = sym alike.count;
  get = λ k less. sym (alike.get k less);
  few = alike.few_other;
  few_other = alike.few;
}

-- groups that are not empty have as many pieces at least
not_empty : (plan : Plan) (k : ℕ) → k ≤ length plan → ((i : ℕ) (g : Group) → i < k → slice_get plan i ≡ Some g → 0 < length g) → k ≤ piece_count plan
not_empty plan zero within some = omega arith
not_empty [] (suc k) within some = absurd (omega arith)
not_empty (g ∷ gs) (suc k) within some =
    let here = some 0 g (omega arith) refl in
    let rest = not_empty gs k (omega arith) (λ i h less is. some (suc i) h (omega arith) is) in
    omega (arith, here, rest, sum_by-cons length g gs)

module _ (C : ℕ → ℕ → Type 0) (greatest_batch most n : ℕ) (few : n < most) (p q : Plan) (alike : AreAlike most p q) where
  -- a legal plan is the other
  pub legal_same : IsLegal C greatest_batch n p → p ≡ q
  legal_same legal =
      let pieces = not_empty p (length p) (omega arith) (λ i g less is. (legal.groups i g is).size.nonempty) in
      alike.few (omega (arith, pieces, legal.covers, few))

  -- the first fault of one is that of the other
  pub fault_same : (fault : LegalFault) → IsFirstLegalFault C greatest_batch n p fault → IsFirstLegalFault C greatest_batch n q fault
  fault_same Count other = λ e. other (alike.count ∙ e)
  fault_same (GroupSize place) (count, first) =
      let within = slice_get_within p place first.group first.is_group in
      let pieces = not_empty p place (omega (arith, within)) (λ i g less is. (first.before i g less is).size.nonempty) in
      let early : place < most = omega (arith, pieces, count, few) in (
        sym alike.count ∙ count,
        record {
          before = λ i g less is. first.before i g less (alike.get i (omega (arith, less, early)) ∙ is);
          group = first.group;
          is_group = sym (alike.get place early) ∙ first.is_group;
          wrong = first.wrong;
        },
      )
  fault_same (FirstFence place) (count, first) =
      let within = slice_get_within p place first.group first.is_group in
      let pieces = not_empty p place (omega (arith, within)) (λ i g less is. (first.before i g less is).size.nonempty) in
      let early : place < most = omega (arith, pieces, count, few) in (
        sym alike.count ∙ count,
        record {
          before = λ i g less is. first.before i g less (alike.get i (omega (arith, less, early)) ∙ is);
          group = first.group;
          is_group = sym (alike.get place early) ∙ first.is_group;
          size = first.size;
          wrong = first.wrong;
        },
      )
  fault_same (Unfenced i j) (count, shapes, first) =
      let pieces = not_empty p (length p) (omega arith) (λ k g less is. (shapes k g is).size.nonempty) in
      let same = alike.few (omega (arith, pieces, count, few)) in
      subst (λ (x : Plan). IsFirstLegalFault C greatest_batch n x (Unfenced i j)) same (count, shapes, first)

-- ---- groups one after another

single : (group : Group) → flat_map (λ (flags : Group). flags) (group ∷ []) ≡ group
single group = append-nil group

module _ (most : ℕ) (plan : Plan) (group : Group) where
  within : length (take most plan) < most → length plan < most
  within less = go (cases_lt (length plan) most)
    where
      go : (length plan < most) ⊎ (most ≤ length plan) → length plan < most
      go (inl lt) = lt
      go (inr le) = absurd (omega (arith, less, length-take-le most plan le))

  -- a group among the first
  pub first_more : length (take most plan) < most → (take most (plan ++ group ∷ []) ≡ take most plan ++ group ∷ []) × (drop most (plan ++ group ∷ []) ≡ drop most plan)
  first_more less =
      let lt = within less in
      let count = length-append plan (group ∷ []) in (
        take_all most (plan ++ group ∷ []) (omega (arith, lt, count)) ∙ ap (λ (p : Plan). p ++ group ∷ []) (sym (take_all most plan (omega (arith, lt)))),
        drop_all most (plan ++ group ∷ []) (omega (arith, lt, count)) ∙ sym (drop_all most plan (omega (arith, lt))),
      )

  -- and one after them
  pub rest_more : most ≤ length plan → (take most (plan ++ group ∷ []) ≡ take most plan) × (flat_map (λ (flags : Group). flags) (drop most (plan ++ group ∷ [])) ≡ flat_map (λ (flags : Group). flags) (drop most plan) ++ group)
  rest_more le = (
    take-append-le most plan (group ∷ []) le,
    ap (flat_map (λ (flags : Group). flags)) (drop-append-le most plan (group ∷ []) le)
        ∙ flat_map-append (λ (flags : Group). flags) (drop most plan) (group ∷ [])
        ∙ ap (λ (l : Group). flat_map (λ (flags : Group). flags) (drop most plan) ++ l) (single group),
  )

length-take-most : {A : Type 0} (n : ℕ) (xs : List A) → length (take n xs) ≤ length xs
length-take-most zero xs = omega arith
length-take-most (suc n) [] = omega arith
length-take-most (suc n) (x ∷ xs) = omega (arith, length-take-most n xs)

-- the plan with all later groups as one, or without any
pub kept_rest : (most : ℕ) (plan : Plan) → most < length plan → kept_groups most plan ≡ take most plan ++ flat_map (λ (flags : Group). flags) (drop most plan) ∷ []
kept_rest most plan many = ap (λ (p : Plan). take most plan ++ p) (joined_some (drop most plan) (omega (arith, length-drop most plan)))

pub kept_whole : (most : ℕ) (plan : Plan) → length plan ≤ most → kept_groups most plan ≡ take most plan
kept_whole most plan few = kept_few most plan few ∙ sym (take_all most plan few)

-- where there are no later groups, there are few
pub few_groups : (most : ℕ) (plan : Plan) (has_rest : Bool) → IsTrue has_rest ↔ (most < length plan) → has_rest ≡ false → length plan ≤ most
few_groups most plan true tells e = absurd (cc)
few_groups most plan false tells e = go (cases_lt most (length plan))
  where
    go : (most < length plan) ⊎ (length plan ≤ most) → length plan ≤ most
    go (inl many) = let never : false ≡ true = tells.1 many in absurd (cc)
    go (inr few) = few

-- what is kept of no groups
pub no_groups : (g : Groups) → g.first.items ≡ [] → g.rest.items ≡ [] → g.has_rest ≡ false → AreGroups g []
no_groups g first rest none = record {
  first = first;
  rest = rest;
  has_rest = (λ some. let never : false ≡ true = sym none ∙ some in absurd (cc), λ many. absurd (omega arith));
}

-- what is kept of one group more, among the first or after them
pub one_first : (old new : Groups) (plan : Plan) (group : Group) → AreGroups old plan → length old.first.items < most_groups → new.first.items ≡ old.first.items ++ group ∷ [] → new.rest.items ≡ old.rest.items → new.has_rest ≡ old.has_rest
    → AreGroups new (plan ++ group ∷ [])
one_first old new plan group are less first rest flag =
    let lt : length (take most_groups plan) < most_groups = omega (arith, less, ap length are.first) in
    let few = within most_groups plan group lt in
    let more = first_more most_groups plan group lt in
    let count = length-append plan (group ∷ []) in
    record {
      first = first ∙ ap (λ (p : Plan). p ++ group ∷ []) are.first ∙ sym more.0;
      rest = rest ∙ are.rest ∙ ap (flat_map (λ (flags : Group). flags)) (sym more.1);
      has_rest = (λ some. let many = are.has_rest.0 (sym flag ∙ some) in absurd (omega (arith, many, few)), λ many. absurd (omega (arith, many, few, count)));
    }

pub one_later : (old new : Groups) (plan : Plan) (group : Group) → AreGroups old plan → most_groups ≤ length old.first.items → new.first.items ≡ old.first.items → new.rest.items ≡ old.rest.items ++ group → new.has_rest ≡ true
    → AreGroups new (plan ++ group ∷ [])
one_later old new plan group are full first rest flag =
    let le : most_groups ≤ length plan = omega (arith, full, ap length are.first, length-take-most most_groups plan) in
    let more = rest_more most_groups plan group le in
    let count = length-append plan (group ∷ []) in
    record {
      first = first ∙ are.first ∙ sym more.0;
      rest = rest ∙ ap (λ (l : Group). l ++ group) are.rest ∙ sym more.1;
      has_rest = (λ some. omega (arith, le, count), λ many. flag);
    }

-- among the first groups there are no later ones
pub no_rest : (g : Groups) (plan : Plan) → AreGroups g plan → length g.first.items < most_groups → g.rest.items ≡ []
no_rest g plan are less =
    let lt : length (take most_groups plan) < most_groups = omega (arith, less, ap length are.first) in
    let few = within most_groups plan [] lt in
    are.rest ∙ ap (flat_map (λ (flags : Group). flags)) (drop_all most_groups plan (omega (arith, few)))

-- of an array whose flags were added, the flags
pub added_flags : (old new : Group) (d : Data) → AddsArray (Reads {X = Bool} boolean (λ b. b)) None old new d true → (flags : Group) × (d ≡ group_value flags) × (new ≡ old ++ flags)
added_flags old new (array ds) (flags, each, is) = (flags, array_spelled {A = Bool} boolean (λ b. b) (array ds) flags each, is)
added_flags old new null e = absurd (cc)
added_flags old new (boolean b) e = absurd (cc)
added_flags old new (number n) e = absurd (cc)
added_flags old new (string s) e = absurd (cc)
added_flags old new (object ms) e = absurd (cc)

-- and of another value, that it is no group
pub no_flags : (old new : Group) (d : Data) → AddsArray (Reads {X = Bool} boolean (λ b. b)) None old new d false → (group : Group) → d ≢ group_value group
no_flags old new (array ds) other = no_array_spelled {A = Bool} boolean (λ b. b) (array ds) other
no_flags old new null e = λ group is. absurd (cc)
no_flags old new (boolean b) e = λ group is. absurd (cc)
no_flags old new (number n) e = λ group is. absurd (cc)
no_flags old new (string s) e = λ group is. absurd (cc)
no_flags old new (object ms) e = λ group is. absurd (cc)

-- ---- items of plans

pub after_none : (ds : List Data) → after ds no_items ≡ items_of ds
after_none [] = refl
after_none (d ∷ ds) = ap (item d) (after_none ds)

items_apart : (plan : Plan) (d : Data) (rest : Items) → ((group : Group) → d ≢ group_value group) → (other : Plan) → after (map group_value plan) (item d rest) ≢ items_of (map group_value other)
items_apart [] d rest none [] e = absurd (cc)
items_apart [] d rest none (g ∷ gs) e = let same : d ≡ group_value g = cc in none g same
items_apart (p ∷ plan) d rest none [] e = absurd (cc)
items_apart (p ∷ plan) d rest none (g ∷ gs) e = let same : after (map group_value plan) (item d rest) ≡ items_of (map group_value gs) = cc in items_apart plan d rest none gs same

-- an array with an item that is no group spells no plan
pub no_plan : (plan : Plan) (d : Data) (rest : Items) → ((group : Group) → d ≢ group_value group) → (other : Plan) → array (after (map group_value plan) (item d rest)) ≢ plan_value other
no_plan plan d rest none other e = let same : after (map group_value plan) (item d rest) ≡ items_of (map group_value other) = cc in items_apart plan d rest none other same
