-- A plan group by group.
use Rattle.std.proofs.Common.{ℕ, zero, suc, ◌≡◌, ◌+◌, ◌<◌, ◌≤◌, [], ◌∷◌, ◌++◌, length, take, Some, refl, sym, ap, ◌∙◌, subst, slice_get, sum_by, add-zero, zero-add, arith}
use Rattle.std.proofs.lemmas.List.Sums.{sum_by-cons, sum_by_push, sum_by_more}
use Rattle.std.proofs.lemmas.Option.{same_Some, none-some, slice_get_within, get_or_from_slice_get}
use Rattle.dsa_settings.specs.Plan.{Tariff, Group, Plan, group_cost, plan_cost, piece_count, start_of}
use Rattle.dsa_settings.specs.Legal.{IsLegalGroup, IsLegal}

-- each group has the fact, at the piece that it begins with, where the plan begins with piece `start`
abbrev pub EachGroup : (ℕ → Group → Type 0) → ℕ → Plan → Type 0
EachGroup P start [] = Unit {0}
EachGroup P start (g ∷ rest) = P start g × EachGroup P (start + length g) rest

each_at : (P : ℕ → Group → Type 0) (start : ℕ) (plan : Plan) → EachGroup P start plan →
    (k : ℕ) (g : Group) → slice_get plan k ≡ Some g → P (start + start_of plan k) g
each_at P start [] each k g e = absurd (none-some g e)
each_at P start (x ∷ rest) each zero g e =
    subst (λ (z : Group). P (start + 0) z) (same_Some x g e) (rw add-zero each.0)
each_at P start (x ∷ rest) each (suc k) g e =
    let there : P ((start + length x) + start_of rest k) g = each_at P (start + length x) rest each.1 k g e in
    let same : (start + length x) + start_of rest k ≡ start + start_of (x ∷ rest) (suc k) = omega (arith, sum_by-cons length x (take k rest)) in
    subst (λ (z : ℕ). P z g) same there

each_from : (P : ℕ → Group → Type 0) (start : ℕ) (plan : Plan) →
    ((k : ℕ) (g : Group) → slice_get plan k ≡ Some g → P (start + start_of plan k) g) → EachGroup P start plan
each_from P start [] h = tt
each_from P start (x ∷ rest) h =
    let later : (k : ℕ) (g : Group) → slice_get rest k ≡ Some g → P ((start + length x) + start_of rest k) g = λ k g e.
    let same : start + start_of (x ∷ rest) (suc k) ≡ (start + length x) + start_of rest k = omega (arith, sum_by-cons length x (take k rest)) in
    subst (λ (z : ℕ). P z g) same (h (suc k) g e) in
    (rw add-zero at (h 0 x refl), each_from P (start + length x) rest later)

-- between a fact of each group by number and group by group
pub each_group : (P : ℕ → Group → Type 0) (plan : Plan) →
    ((k : ℕ) (g : Group) → slice_get plan k ≡ Some g → P (start_of plan k) g) → EachGroup P 0 plan
each_group P plan h = each_from P 0 plan (λ k g e. subst (λ (z : ℕ). P z g) (sym (zero-add (start_of plan k))) (h k g e))

pub group_of_each : (P : ℕ → Group → Type 0) (plan : Plan) → EachGroup P 0 plan →
    (k : ℕ) (g : Group) → slice_get plan k ≡ Some g → P (start_of plan k) g
group_of_each P plan each k g e = subst (λ (z : ℕ). P z g) (zero-add (start_of plan k)) (each_at P 0 plan each k g e)

pub EachGroup-push : (P : ℕ → Group → Type 0) (start : ℕ) (plan : Plan) (g : Group) →
    EachGroup P start plan → P (start + piece_count plan) g → EachGroup P start (plan ++ g ∷ [])
EachGroup-push P start [] g each last = (rw add-zero at last, tt)
EachGroup-push P start (x ∷ rest) g each last =
    let same : start + piece_count (x ∷ rest) ≡ (start + length x) + piece_count rest = omega (arith, sum_by-cons length x rest) in
    (each.0, EachGroup-push P (start + length x) rest g each.1 (subst (λ (z : ℕ). P z g) same last))

pub EachGroup-front : (P : ℕ → Group → Type 0) (start : ℕ) (plan : Plan) (g : Group) →
    EachGroup P start (plan ++ g ∷ []) → EachGroup P start plan × P (start + piece_count plan) g
EachGroup-front P start [] g each = (tt, rw add-zero each.0)
EachGroup-front P start (x ∷ rest) g each =
    let same : (start + length x) + piece_count rest ≡ start + piece_count (x ∷ rest) = omega (arith, sum_by-cons length x rest) in
    let (front, last) = EachGroup-front P (start + length x) rest g each.1 in
    ((each.0, front), subst (λ (z : ℕ). P z g) same last)

-- a weaker fact, which may use that the group ends within the n pieces
pub EachGroup-weaker : (P Q : ℕ → Group → Type 0) (n start : ℕ) (plan : Plan) →
    ((s : ℕ) (g : Group) → s + length g ≤ n → P s g → Q s g) → start + piece_count plan ≤ n → EachGroup P start plan → EachGroup Q start plan
EachGroup-weaker P Q n start [] weaker within each = tt
EachGroup-weaker P Q n start (x ∷ rest) weaker within each =
    let split : piece_count (x ∷ rest) ≡ length x + piece_count rest = sum_by-cons length x rest in (
      weaker start x (omega arith) each.0,
      EachGroup-weaker P Q n (start + length x) rest weaker (omega arith) each.1,
    )

-- what rises by each group's cost at most, rises by the plan's cost at most
pub rises_along : (f : ℕ → ℕ) (cost : Group → ℕ) (start : ℕ) (plan : Plan) →
    EachGroup (λ s g. f (s + length g) ≤ f s + cost g) start plan → f (start + piece_count plan) ≤ f start + sum_by cost plan
rises_along f cost start [] each = rw (add-zero start) (omega arith)
rises_along f cost start (x ∷ rest) each =
    let later : f ((start + length x) + piece_count rest) ≤ f (start + length x) + sum_by cost rest = rises_along f cost (start + length x) rest each.1 in
    let same : start + piece_count (x ∷ rest) ≡ (start + length x) + piece_count rest = omega (arith, sum_by-cons length x rest) in
    rw same (omega (arith, sum_by-cons cost x rest, each.0))

-- what rises by each group's cost, rises by the plan's cost
pub adds_along : (f : ℕ → ℕ) (cost : Group → ℕ) (start : ℕ) (plan : Plan) →
    EachGroup (λ s g. f (s + length g) ≡ f s + cost g) start plan → f (start + piece_count plan) ≡ f start + sum_by cost plan
adds_along f cost start [] each = rw (add-zero start) (omega arith)
adds_along f cost start (x ∷ rest) each =
    let later : f ((start + length x) + piece_count rest) ≡ f (start + length x) + sum_by cost rest = adds_along f cost (start + length x) rest each.1 in
    let same : start + piece_count (x ∷ rest) ≡ (start + length x) + piece_count rest = omega (arith, sum_by-cons length x rest) in
    rw same (omega (arith, sum_by-cons cost x rest, each.0))

-- Legal plans

pub legal_none : (C : ℕ → ℕ → Type 0) (greatest_batch : ℕ) → IsLegal C greatest_batch 0 []
legal_none C greatest_batch = record { covers = refl; groups = λ k g e. absurd (none-some g e) }

pub legal_push : (C : ℕ → ℕ → Type 0) (greatest_batch n : ℕ) (plan : Plan) (g : Group) →
    IsLegal C greatest_batch n plan → IsLegalGroup C greatest_batch n g → IsLegal C greatest_batch (n + length g) (plan ++ g ∷ [])
legal_push C greatest_batch n plan g h last = record {
  covers = sum_by_push length plan g ∙ ap (λ (z : ℕ). z + length g) h.covers;
  groups = group_of_each (IsLegalGroup C greatest_batch) (plan ++ g ∷ [])
      (EachGroup-push (IsLegalGroup C greatest_batch) 0 plan g (each_group (IsLegalGroup C greatest_batch) plan h.groups)
      (let same : n ≡ 0 + piece_count plan = omega (arith, h.covers) in subst (λ (z : ℕ). IsLegalGroup C greatest_batch z g) same last));
}

pub plan_cost-push : (tariff : Tariff) (plan : Plan) (g : Group) → plan_cost tariff (plan ++ g ∷ []) ≡ plan_cost tariff plan + group_cost tariff g
plan_cost-push tariff plan g = sum_by_push (group_cost tariff) plan g

-- where a legal plan has a piece, a group may have one
pub group_holds_one : (C : ℕ → ℕ → Type 0) (greatest_batch n : ℕ) (plan : Plan) → IsLegal C greatest_batch n plan → 0 < n → 0 < greatest_batch
group_holds_one C greatest_batch n [] h some = absurd (omega (arith, h.covers))
group_holds_one C greatest_batch n (g ∷ rest) h some =
    let legal : IsLegalGroup C greatest_batch (start_of (g ∷ rest) 0) g = h.groups 0 g refl in
    omega (arith, legal.size.nonempty, legal.size.fits)

pub start_of-next : (plan : Plan) (m : ℕ) (g : Group) → slice_get plan m ≡ Some g → start_of plan (m + 1) ≡ start_of plan m + length g
start_of-next plan m g e =
    sum_by_more length plan m [] (slice_get_within plan m g e) ∙ ap (λ (z : Group). start_of plan m + length z) (get_or_from_slice_get plan m g [] e)
