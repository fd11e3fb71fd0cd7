-- A legal plan cuts the list into epochs without conflicts.
use Rattle.std.proofs.Common.{◌≡◌, ℕ, zero, suc, ◌+◌, ◌-◌, ◌<◌, ◌≤◌, inl, inr, Bool, true, cond, zero-le, List, [], ◌∷◌, ◌++◌, length, take, count_by, Some, slice_get, refl, sym, ap, ◌∙◌, arith}
use Rattle.std.proofs.lemmas.Bool.{cases_lt}
use Rattle.std.proofs.lemmas.List.Sums.{sum_by-cons}
use Rattle.std.proofs.lemmas.Option.{slice_get_within, same_Some}
use Rattle.dsa_settings.specs.Plan.{Group, Plan, piece_count, start_of}
use Rattle.dsa_settings.specs.Legal.{IsLegalGroup, IsLegal}
use Rattle.dsa_settings.specs.Epochs.{LegalWithMore, cuts_of_group, cuts, epoch_of}

-- an empty list has no element
none_read : {X : Type 0} (i : ℕ) (x : X) → slice_get [] i ≡ Some x → ⊥
none_read i x h = cc

-- how many are true
abbrev trues : List Bool → ℕ
trues bs = count_by (λ b. b) bs

taken_trues : (a : ℕ) (x : Bool) (bs : List Bool) → trues (take (suc a) (x ∷ bs)) ≡ cond x 1 0 + trues (take a bs)
taken_trues a x bs = sum_by-cons (λ b. cond b 1 0) x (take a bs)

trues_more : (a b : ℕ) (bs : List Bool) → a ≤ b → trues (take a bs) ≤ trues (take b bs)
trues_more zero b bs le = zero-le
trues_more (suc a) zero bs le = absurd (omega arith)
trues_more (suc a) (suc b) [] le = zero-le
trues_more (suc a) (suc b) (x ∷ bs) le =
    omega (arith, trues_more a b bs (omega arith), taken_trues a x bs, taken_trues b x bs)

trues_cut : (a b k : ℕ) (bs : List Bool) → a ≤ k → k < b → slice_get bs k ≡ Some true → trues (take a bs) < trues (take b bs)
trues_cut a b k [] le lt h = absurd (none_read k true h)
trues_cut a zero k (x ∷ bs) le lt h = absurd (omega arith)
trues_cut zero (suc b) zero (x ∷ bs) le lt h =
    let x_is : x ≡ true = cc in
    let one : ◌≡◌ {A = ℕ} (cond x 1 0) 1 = ap (λ y. cond y 1 0) x_is in
    let here : trues (take zero (x ∷ bs)) ≡ 0 = refl in
    omega (arith, taken_trues b x bs)
trues_cut (suc a) (suc b) zero (x ∷ bs) le lt h = absurd (omega arith)
trues_cut zero (suc b) (suc k) (x ∷ bs) le lt h =
    let here : trues (take zero (x ∷ bs)) ≡ 0 = refl in
    let there : trues (take zero bs) ≡ 0 = refl in
    omega (arith, trues_cut zero b k bs (omega arith) (omega arith) h, taken_trues b x bs)
trues_cut (suc a) (suc b) (suc k) (x ∷ bs) le lt h =
    omega (arith, trues_cut a b k bs (omega arith) (omega arith) h, taken_trues a x bs, taken_trues b x bs)

get_left : {X : Type 0} (xs ys : List X) (k : ℕ) → k < length xs → slice_get (xs ++ ys) k ≡ slice_get xs k
get_left [] ys k lt = absurd (omega arith)
get_left (x ∷ xs) ys zero lt = refl
get_left (x ∷ xs) ys (suc k) lt = get_left xs ys k (omega arith)

get_right : {X : Type 0} (xs ys : List X) (k : ℕ) → length xs ≤ k → slice_get (xs ++ ys) k ≡ slice_get ys (k - length xs)
get_right [] ys k le = let same : k ≡ k - 0 = omega arith in ap (λ n. slice_get ys n) same
get_right (x ∷ xs) ys zero le = absurd (omega arith)
get_right (x ∷ xs) ys (suc k) le =
    let same : k - length xs ≡ suc k - suc (length xs) = omega arith in
    get_right xs ys k (omega arith) ∙ ap (λ n. slice_get ys n) same

same_size : (group : Group) → length (cuts_of_group group) ≡ length group
same_size [] = refl
same_size (x ∷ xs) = refl

-- a fenced member is a cut
fenced_member : (group : Group) (k : ℕ) → slice_get group k ≡ Some true → slice_get (cuts_of_group group) k ≡ Some true
fenced_member [] k h = h
fenced_member (x ∷ xs) zero h = refl
fenced_member (x ∷ xs) (suc k) h = h

first_member : (group : Group) → 0 < length group → slice_get (cuts_of_group group) 0 ≡ Some true
first_member [] lt = absurd (omega arith)
first_member (x ∷ xs) lt = refl

-- the cuts of a group are those from the group's start on
pub cut_at : (plan : Plan) (number : ℕ) (group : Group) (k : ℕ) → slice_get plan number ≡ Some group → k < length group →
    slice_get (cuts plan) (start_of plan number + k) ≡ slice_get (cuts_of_group group) k
cut_at [] number group k h lt = absurd (none_read number group h)
cut_at (g ∷ gs) zero group k h lt =
    let g_is : g ≡ group = same_Some g group h in
    let none : start_of (g ∷ gs) zero + k ≡ k = omega arith in
    let inside : k < length (cuts_of_group g) = omega (arith, same_size g, ap length g_is) in
    ap (λ n. slice_get (cuts (g ∷ gs)) n) none
    ∙ get_left (cuts_of_group g) (cuts gs) k inside
    ∙ ap (λ x. slice_get (cuts_of_group x) k) g_is
cut_at (g ∷ gs) (suc number) group k h lt =
    let start : start_of (g ∷ gs) (suc number) ≡ length g + start_of gs number = sum_by-cons length g (take number gs) in
    let size = same_size g in
    let rest : start_of (g ∷ gs) (suc number) + k - length (cuts_of_group g) ≡ start_of gs number + k = omega (arith, start, size) in
    get_right (cuts_of_group g) (cuts gs) (start_of (g ∷ gs) (suc number) + k) (omega (arith, start, size))
    ∙ ap (λ n. slice_get (cuts gs) n) rest
    ∙ cut_at gs number group k h lt

-- the group that a piece is in
record IsIn (plan : Plan) (j : ℕ) : Type 0 where
  number : ℕ
  group : Group
  is_group : slice_get plan number ≡ Some group
  starts : start_of plan number ≤ j
  ends : j < start_of plan number + length group

is_in : (plan : Plan) (j : ℕ) → j < piece_count plan → IsIn plan j
is_in [] j lt = absurd (omega arith)
is_in (g ∷ gs) j lt =
    elim (cases_lt j (length g)) [
      | inl here ↦ record { number = 0; group = g; is_group = refl; starts = omega arith; ends = omega arith }
      | inr there ↦
          let total : piece_count (g ∷ gs) ≡ length g + piece_count gs = sum_by-cons length g gs in
          later (is_in gs (j - length g) (omega (arith, total))) there
    ]
  where
    later : IsIn gs (j - length g) → length g ≤ j → IsIn (g ∷ gs) j
    later i le =
        let start : start_of (g ∷ gs) (suc i.number) ≡ length g + start_of gs i.number = sum_by-cons length g (take i.number gs) in
        record {
          number = suc i.number;
          group = i.group;
          is_group = i.is_group;
          starts = omega (arith, start, i.starts);
          ends = omega (arith, start, i.ends);
        }

-- there is a cut after piece i, up to piece j
abbrev pub CutBetween : Plan → ℕ → ℕ → Type 0
CutBetween plan i j = (k : ℕ) × (i < k) × (k ≤ j) × (slice_get (cuts plan) k ≡ Some true)

-- a cut between two pieces puts them in two epochs
cut_parts : (plan : Plan) (i j : ℕ) → CutBetween plan i j → epoch_of plan i < epoch_of plan j
cut_parts plan i j (k, above, below, cut) = trues_cut (i + 1) (j + 1) k (cuts plan) (omega arith) (omega arith) cut

-- under a legal plan there is a cut between two conflicting pieces
pub conflict_cut : (C : ℕ → ℕ → Type 0) (greatest_batch n : ℕ) (plan : Plan) (i j : ℕ) → IsLegal C greatest_batch n plan → i < j → j < n → C i j → CutBetween plan i j
conflict_cut C greatest_batch n plan i j legal lt j_in conflict = by (is_in plan j (omega (arith, legal.covers)))
  where
    by : IsIn plan j → CutBetween plan i j
    by at =
        let group : IsLegalGroup C greatest_batch (start_of plan at.number) at.group = legal.groups at.number at.group at.is_group in
        let start : ℕ = start_of plan at.number in
        elim (cases_lt i start) [
          | inl before ↦
              let same : start + 0 ≡ start = omega arith in (
                start,
                before,
                at.starts,
                ap (λ n. slice_get (cuts plan) n) (sym same)
                    ∙ cut_at plan at.number at.group 0 at.is_group group.size.nonempty
                    ∙ first_member at.group group.size.nonempty,
              )
          | inr from ↦
              let fence = group.separates i j (record { starts = from; ordered = lt; ends = at.ends; conflict = conflict }) in
              let k : ℕ = fence.0 in
              let fenced = fence.3.1 in
              let same : start + (k - start) ≡ k = omega (arith, fence.3.0) in (
                k,
                fence.1,
                fence.2,
                ap (λ n. slice_get (cuts plan) n) (sym same)
                    ∙ cut_at plan at.number at.group (k - start) at.is_group (slice_get_within at.group (k - start) true fenced)
                    ∙ fenced_member at.group (k - start) fenced,
              )
        ]

-- conflicting pieces are in different epochs
pub legal_parts : (C : ℕ → ℕ → Type 0) (greatest_batch n : ℕ) (plan : Plan) (i j : ℕ) → IsLegal C greatest_batch n plan → i < j → j < n → C i j → epoch_of plan i < epoch_of plan j
legal_parts C greatest_batch n plan i j legal lt j_in conflict = cut_parts plan i j (conflict_cut C greatest_batch n plan i j legal lt j_in conflict)

-- epochs follow the list
pub epochs_follow : (plan : Plan) (i j : ℕ) → i ≤ j → epoch_of plan i ≤ epoch_of plan j
epochs_follow plan i j le = trues_more (i + 1) (j + 1) (cuts plan) (omega arith)

pub legal_with_more : (C : ℕ → ℕ → Type 0) → LegalWithMore C
legal_with_more C greatest_batch more n plan le legal = record { covers = legal.covers; groups = groups }
  where
    groups : (number : ℕ) (group : Group) → slice_get plan number ≡ Some group → IsLegalGroup C more (start_of plan number) group
    groups number group h =
        let g : IsLegalGroup C greatest_batch (start_of plan number) group = legal.groups number group h in
        let fits : length group ≤ greatest_batch = g.size.fits in
        record { size = record { nonempty = g.size.nonempty; fits = omega (arith, le, fits) }; begins = g.begins; separates = g.separates }
