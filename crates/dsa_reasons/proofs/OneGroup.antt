-- The plan as one group: its fences are where the plan cuts the list, and have the reasons that they have in the plan.
use Rattle.std.proofs.Common.{◌≡◌, ℕ, zero, suc, ◌+◌, ◌-◌, ◌<◌, ◌≤◌, inl, inr, Bool, true, false, List, [], ◌∷◌, length, get_or, take, Some, refl, sym, ap, ◌∙◌, subst, slice_get, arith}
use Rattle.std.proofs.lemmas.Bool.{cases_eq, cases_lt}
use Rattle.std.proofs.lemmas.List.{take_all}
use Rattle.std.proofs.lemmas.List.Elements.{All-weaker}
use Rattle.std.proofs.lemmas.List.Sums.{sum_by-cons}
use Rattle.std.proofs.lemmas.Option.{same_Some, slice_get-get_or, slice_get_within}
use Rattle.dsa_descriptor.specs.Fences.{after_first}
use Rattle.dsa_descriptor.specs.declared.span.Span.{Span}
use Rattle.dsa_ranges.specs.Pieces.{PieceConflictAt}
use Rattle.dsa_settings.specs.Epochs.{cuts, cuts_of_group}
use Rattle.dsa_settings.proofs.Epochs.{cut_at}
use Rattle.dsa_settings.proofs.Numbering.{cuts_length}
use Rattle.dsa_settings.proofs.Plans.{start_of-next}
use Rattle.dsa_settings.specs.Legal.{IsFenced}
use Rattle.dsa_settings.specs.Plan.{Group, Plan, piece_count, start_of}
use Rattle.dsa_reasons.specs.Fences.{HasReasons}
use Rattle.dsa_reasons.specs.Laws.{EachCutOnce, FencesAreCuts, IsFencedIn}
use Rattle.dsa_reasons.specs.OneGroup.{one_group}
use Rattle.dsa_reasons.specs.Reasons.{AreReasonsFor, IsReason, NeedsFence}
use Rattle.dsa_reasons.specs.declared.reason.Reason.{Reason}
use Rattle.dsa_reasons.proofs.FencedOnce.{each_fence_once}

-- ---- cuts of a group, and the flags without the first

cuts_later : (g : Group) (i : ℕ) → 0 < i → slice_get (cuts_of_group g) i ≡ slice_get g i
cuts_later [] i lt = refl
cuts_later (x ∷ xs) zero lt = absurd (omega arith)
cuts_later (x ∷ xs) (suc i) lt = refl

cuts_begin : (g : Group) → 0 < length g → slice_get (cuts_of_group g) 0 ≡ Some true
cuts_begin [] lt = absurd (omega arith)
cuts_begin (x ∷ xs) lt = refl

after_later : (bs : List Bool) (i : ℕ) → 0 < i → slice_get (after_first bs) i ≡ slice_get bs i
after_later [] i lt = refl
after_later (b ∷ bs) zero lt = absurd (omega arith)
after_later (b ∷ bs) (suc i) lt = refl

after_unset : (bs : List Bool) → slice_get (after_first bs) 0 ≡ Some true → ⊥
after_unset [] set = cc
after_unset (b ∷ bs) set = cc

after_length : (bs : List Bool) → length (after_first bs) ≡ length bs
after_length [] = refl
after_length (b ∷ bs) = refl

-- the one group has all pieces
pub whole_length : (plan : Plan) → length (after_first (cuts plan)) ≡ piece_count plan
whole_length plan = after_length (cuts plan) ∙ cuts_length plan

pub whole_count : (plan : Plan) → piece_count (one_group plan) ≡ piece_count plan
whole_count plan = omega (arith, whole_length plan, sum_by-cons length (after_first (cuts plan)) [])

-- ---- in the one group a piece after the first is fenced where the plan cuts the list

cut_fenced : (plan : Plan) (k : ℕ) → 0 < k → slice_get (cuts plan) k ≡ Some true → IsFenced 0 (after_first (cuts plan)) k
cut_fenced plan k some cut =
    let e : k - 0 ≡ k = omega arith in (omega arith, rw e (after_later (cuts plan) k some ∙ cut))

fenced_cut : (plan : Plan) (k : ℕ) → IsFenced 0 (after_first (cuts plan)) k → (0 < k) × (slice_get (cuts plan) k ≡ Some true)
fenced_cut plan zero (begun, set) =
    let e : zero - 0 ≡ zero = omega arith in
    absurd (after_unset (cuts plan) (subst (λ (i : ℕ). slice_get (after_first (cuts plan)) i ≡ Some true) e set))
fenced_cut plan (suc k) (begun, set) =
    let e : suc k - 0 ≡ suc k = omega arith in
    (omega arith, sym (after_later (cuts plan) (suc k) (omega arith)) ∙ subst (λ (i : ℕ). slice_get (after_first (cuts plan)) i ≡ Some true) e set)

-- ---- where groups begin and end

-- each group ends within the plan
group_ends : (plan : Plan) (number : ℕ) (group : Group) → slice_get plan number ≡ Some group → start_of plan number + length group ≤ piece_count plan
group_ends [] number group h = cc
group_ends (g ∷ gs) zero group h =
    let g_is : g ≡ group = same_Some g group h in
    omega (arith, sum_by-cons length g gs, ap length g_is)
group_ends (g ∷ gs) (suc number) group h =
    omega (arith, sum_by-cons length g gs, sum_by-cons length g (take number gs), group_ends gs number group h)

-- the groups have pieces
abbrev AreFull : Plan → Type 0
AreFull plan = (i : ℕ) (g : Group) → slice_get plan i ≡ Some g → 0 < length g

-- the plan cuts the list where a group begins
begin_cut : (plan : Plan) (number : ℕ) (group : Group) → AreFull plan → slice_get plan number ≡ Some group
    → slice_get (cuts plan) (start_of plan number) ≡ Some true
begin_cut plan number group full is =
    let none : start_of plan number + 0 ≡ start_of plan number = omega arith in
    let some : 0 < length group = full number group is in
    ap (λ (n : ℕ). slice_get (cuts plan) n) (sym none) ∙ cut_at plan number group 0 is some ∙ cuts_begin group some

-- and where one ends, if it is not the last
end_cut : (plan : Plan) (number : ℕ) (group : Group) → AreFull plan → slice_get plan number ≡ Some group
    → start_of plan number + length group < piece_count plan → slice_get (cuts plan) (start_of plan number + length group) ≡ Some true
end_cut plan number group full is less =
    let next : start_of plan (number + 1) ≡ start_of plan number + length group = start_of-next plan number group is in
    elim (cases_lt (number + 1) (length plan)) [
      | inl inside ↦
          ap (λ (n : ℕ). slice_get (cuts plan) n) (sym next)
          ∙ begin_cut plan (number + 1) (get_or plan (number + 1) []) full (slice_get-get_or plan (number + 1) [] inside)
      | inr past ↦
          let all : start_of plan (number + 1) ≡ piece_count plan = ap piece_count (take_all (number + 1) plan past) in
          absurd (omega (arith, next, all, less))
    ]

-- ---- a fence of a group, and the same fence of the one group

module _ {P : Type 0} (reads writes : P → List Span) (fs : List P) (plan : Plan) (number : ℕ) (group : Group) (k : ℕ) (full : AreFull plan) (begins : slice_get group 0 ≡ Some false)
    (is : slice_get plan number ≡ Some group) (fenced : IsFenced (start_of plan number) group k) where
  -- after its first piece the group is fenced where the plan cuts the list
  same_within : (other : ℕ) → start_of plan number < other → other < start_of plan number + length group
      → slice_get (cuts plan) other ≡ slice_get group (other - start_of plan number)
  same_within other after before =
      let place : start_of plan number + (other - start_of plan number) ≡ other = omega arith in
      ap (λ (n : ℕ). slice_get (cuts plan) n) (sym place)
      ∙ cut_at plan number group (other - start_of plan number) is (omega arith)
      ∙ cuts_later group (other - start_of plan number) (omega arith)

  after_start : start_of plan number < k
  after_start =
      elim (cases_eq k (start_of plan number)) [
        | inl same ↦
            let none : k - start_of plan number ≡ 0 = omega arith in
            let set : slice_get group 0 ≡ Some true = rw none at fenced.1 in absurd cc
        | inr other ↦ omega (arith, fenced.0, other)
      ]

  within : k < start_of plan number + length group
  within = omega (arith, slice_get_within group (k - start_of plan number) true fenced.1, fenced.0)

  to_whole : (a b : ℕ) → NeedsFence (PieceConflictAt reads writes fs) (start_of plan number) group k a b
      → NeedsFence (PieceConflictAt reads writes fs) 0 (after_first (cuts plan)) k a b
  to_whole a b n =
      record {
        conflicts = record {
          starts = omega arith;
          ordered = n.conflicts.ordered;
          ends = omega (arith, n.conflicts.ends, group_ends plan number group is, whole_length plan);
          conflict = n.conflicts.conflict;
        };
        before = n.before;
        after = n.after;
        alone = λ other after up_to cut.
            let begun : start_of plan number < other = omega (arith, n.conflicts.starts, after) in
            let inside : other < start_of plan number + length group = omega (arith, up_to, n.conflicts.ends) in
            n.alone other after up_to (omega (arith, begun), sym (same_within other begun inside) ∙ (fenced_cut plan other cut).1);
      }

  starts_here : (a b : ℕ) → NeedsFence (PieceConflictAt reads writes fs) 0 (after_first (cuts plan)) k a b → start_of plan number ≤ a
  starts_here a b n =
      elim (cases_lt a (start_of plan number)) [
        | inl below ↦
            let cut : IsFenced 0 (after_first (cuts plan)) (start_of plan number) = cut_fenced plan (start_of plan number) (omega (arith, below)) (begin_cut plan number group full is) in
            let same : start_of plan number ≡ k = n.alone (start_of plan number) below (omega (arith, after_start, n.after)) cut in
            absurd (omega (arith, same, after_start))
        | inr from ↦ from
      ]

  ends_here : (a b : ℕ) → NeedsFence (PieceConflictAt reads writes fs) 0 (after_first (cuts plan)) k a b → b < start_of plan number + length group
  ends_here a b n =
      elim (cases_lt b (start_of plan number + length group)) [
        | inl inside ↦ inside
        | inr past ↦
            let end : ℕ = start_of plan number + length group in
            let less : start_of plan number + length group < piece_count plan = omega (arith, past, n.conflicts.ends, whole_length plan) in
            let cut : IsFenced 0 (after_first (cuts plan)) end = cut_fenced plan end (omega (arith, within)) (end_cut plan number group full is less) in
            let same : start_of plan number + length group ≡ k = n.alone end (omega (arith, n.before, within)) past cut in
            absurd (omega (arith, same, within))
      ]

  from_whole : (a b : ℕ) → NeedsFence (PieceConflictAt reads writes fs) 0 (after_first (cuts plan)) k a b
      → NeedsFence (PieceConflictAt reads writes fs) (start_of plan number) group k a b
  from_whole a b n =
      let starts = starts_here a b n in
      record {
        conflicts = record { starts = starts; ordered = n.conflicts.ordered; ends = ends_here a b n; conflict = n.conflicts.conflict };
        before = n.before;
        after = n.after;
        alone = λ other after up_to (begun, set).
            let later : start_of plan number < other = omega (arith, starts, after) in
            let inside : other < start_of plan number + length group = omega (arith, slice_get_within group (other - start_of plan number) true set, begun) in
            n.alone other after up_to (cut_fenced plan other (omega (arith, later)) (same_within other later inside ∙ set));
      }

  pub whole_fenced : IsFenced 0 (after_first (cuts plan)) k
  whole_fenced = cut_fenced plan k (omega (arith, after_start)) (same_within k after_start within ∙ fenced.1)

  pub same_reasons : (rs : List Reason) → AreReasonsFor reads writes fs (start_of plan number) group k rs
      → AreReasonsFor reads writes fs 0 (after_first (cuts plan)) k rs
  same_reasons rs h =
      record {
        each = All-weaker (IsReason reads writes fs (start_of plan number) group k) (IsReason reads writes fs 0 (after_first (cuts plan)) k)
            (λ r reason. record { needs = to_whole r.earlier r.later reason.needs; hazard = reason.hazard }) rs h.each;
        all = λ a b n. h.all a b (from_whole a b n);
        order = h.order;
      }

-- ---- the laws

from_start : (plan : Plan) → 0 ≡ start_of plan 0
from_start plan = omega arith

pub fences_are_cuts : {P : Type 0} (reads writes : P → List Span) (conflict : List P → ℕ → ℕ → Type 0) → FencesAreCuts reads writes conflict
fences_are_cuts reads writes conflict detail fs barriers greatest_batch plan fence legal e =
    let whole : Group = after_first (cuts plan) in
    let full : AreFull plan = λ i g there. (legal.groups i g there).size.nonempty in
    let begins : slice_get e.group 0 ≡ Some false = (legal.groups e.number e.group e.is_group).begins in
    let are : AreReasonsFor reads writes fs 0 whole fence.piece e.reasons.reasons =
    same_reasons reads writes fs plan e.number e.group fence.piece full begins e.is_group e.fenced e.reasons.reasons e.reasons.are in
    record {
      number = 0;
      group = whole;
      is_group = refl;
      fenced = subst (λ (s : ℕ). IsFenced s whole fence.piece) (from_start (one_group plan)) (whole_fenced reads writes fs plan e.number e.group fence.piece full begins e.is_group e.fenced);
      reasons = subst (λ (s : ℕ). HasReasons detail reads writes fs s whole fence) (from_start (one_group plan))
          record { reasons = e.reasons.reasons; are = are; named = e.reasons.named; more = e.reasons.more };
      barrier = e.barrier;
    }

none_read : {X : Type 0} (i : ℕ) (x : X) → slice_get [] i ≡ Some x → ⊥
none_read i x h = cc

in_whole : (plan : Plan) (k number : ℕ) (group : Group) → slice_get (one_group plan) number ≡ Some group
    → IsFenced (start_of (one_group plan) number) group k → IsFenced 0 (after_first (cuts plan)) k
in_whole plan k zero group there fenced =
    let same : after_first (cuts plan) ≡ group = same_Some (after_first (cuts plan)) group there in
    subst (λ (g : Group). IsFenced 0 g k) (sym same) (subst (λ (s : ℕ). IsFenced s group k) (sym (from_start (one_group plan))) fenced)
in_whole plan k (suc number) group there fenced = absurd (none_read number group there)

whole_in : (plan : Plan) (k : ℕ) → IsFenced 0 (after_first (cuts plan)) k → IsFencedIn (one_group plan) k
whole_in plan k fenced = record {
  number = 0;
  group = after_first (cuts plan);
  is_group = refl;
  fenced = subst (λ (s : ℕ). IsFenced s (after_first (cuts plan)) k) (from_start (one_group plan)) fenced;
}

pub each_cut_once : EachCutOnce
each_cut_once plan =
    let once = each_fence_once (one_group plan) in (
      once.0,
      λ k. (
        λ here. let is : IsFencedIn (one_group plan) k = (once.1 k).0 here in fenced_cut plan k (in_whole plan k is.number is.group is.is_group is.fenced),
        λ cut. (once.1 k).1 (whole_in plan k (cut_fenced plan k cut.0 cut.1)),
      ),
    )
