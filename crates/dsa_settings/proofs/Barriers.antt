-- Plans that are legal with barriers are the legal plans that keep them.
use Rattle.std.proofs.Common.{◌≡◌, ℕ, zero, suc, ◌+◌, ◌-◌, ◌<◌, ◌≤◌, ◌⊎◌, inl, inr, Bool, true, List, [], ◌∷◌, length, take, Some, slice_get, sym, ap, ◌∙◌, subst, arith}
use Rattle.std.proofs.lemmas.List.Sums.{sum_by-cons}
use Rattle.std.proofs.lemmas.Option.{same_Some}
use Rattle.dsa_settings.specs.Plan.{Group, Plan, piece_count, start_of}
use Rattle.dsa_settings.specs.Legal.{IsFenced, ConflictsWithin, IsLegalGroup, IsLegal}
use Rattle.dsa_settings.specs.Epochs.{cuts, cuts_of_group, epoch_of}
use Rattle.dsa_settings.specs.Barriers.{IsBarrierPair, WithBarriers, KeepsBarriers, LegalIsKept, BarriersPart}
use Rattle.dsa_settings.proofs.Epochs.{conflict_cut, cut_at, legal_parts, epochs_follow}

-- the two ways to say it, whether there are marks or not
pub parted_by : (C : ℕ → ℕ → Type 0) (barriers : List Bool) (a b : ℕ) → WithBarriers C barriers a b → C a b ⊎ IsBarrierPair barriers a b
unfolding WithBarriers
parted_by C [] a b h = inl h
parted_by C (mark ∷ marks) a b h = h

pub by_conflict : (C : ℕ → ℕ → Type 0) (barriers : List Bool) (a b : ℕ) → C a b → WithBarriers C barriers a b
unfolding WithBarriers
by_conflict C [] a b h = h
by_conflict C (mark ∷ marks) a b h = inl h

pub by_barrier : (C : ℕ → ℕ → Type 0) (barriers : List Bool) (a b : ℕ) → IsBarrierPair barriers a b → WithBarriers C barriers a b
unfolding WithBarriers
by_barrier C [] a b h = let none : slice_get [] b ≡ Some true = h.barrier in cc
by_barrier C (mark ∷ marks) a b h = inr h

-- after its first piece a group is cut at its fenced pieces
later_member : (group : Group) (k : ℕ) → 0 < k → slice_get (cuts_of_group group) k ≡ Some true → slice_get group k ≡ Some true
later_member [] k lt h = h
later_member (x ∷ xs) zero lt h = absurd (omega arith)
later_member (x ∷ xs) (suc k) lt h = h

-- each group ends within the plan
group_ends : (plan : Plan) (number : ℕ) (group : Group) → slice_get plan number ≡ Some group → start_of plan number + length group ≤ piece_count plan
group_ends [] number group h = cc
group_ends (g ∷ gs) zero group h =
    let g_is : g ≡ group = same_Some g group h in
    omega (arith, sum_by-cons length g gs, ap length g_is)
group_ends (g ∷ gs) (suc number) group h =
    omega (arith, sum_by-cons length g gs, sum_by-cons length g (take number gs), group_ends gs number group h)

module _ (C : ℕ → ℕ → Type 0) (barriers : List Bool) (greatest_batch n : ℕ) (plan : Plan) where
  -- what is legal with more conflicts is legal with less
  legal_with_less : IsLegal (WithBarriers C barriers) greatest_batch n plan → IsLegal C greatest_batch n plan
  legal_with_less legal = record {
    covers = legal.covers;
    groups = λ number group is.
        let g : IsLegalGroup (WithBarriers C barriers) greatest_batch (start_of plan number) group = legal.groups number group is in
        record {
          size = g.size;
          begins = g.begins;
          separates = λ a b h. g.separates a b (record { starts = h.starts; ordered = h.ordered; ends = h.ends; conflict = by_conflict C barriers a b h.conflict });
        };
  }

  keeps : IsLegal (WithBarriers C barriers) greatest_batch n plan → KeepsBarriers barriers n plan
  keeps legal k some inside barrier =
      let next : k ≡ k - 1 + 1 = omega arith in
      let found = conflict_cut (WithBarriers C barriers) greatest_batch n plan (k - 1) k legal (omega arith) inside (by_barrier C barriers (k - 1) k (record { next = next; barrier = barrier })) in
      let here : found.0 ≡ k = omega (arith, found.1, found.2) in
      subst (λ (z : ℕ). slice_get (cuts plan) z ≡ Some true) here found.3

  legal_if_kept : IsLegal C greatest_batch n plan → KeepsBarriers barriers n plan → IsLegal (WithBarriers C barriers) greatest_batch n plan
  legal_if_kept legal kept = record {
    covers = legal.covers;
    groups = groups;
  }
    where
      groups : (number : ℕ) (group : Group) → slice_get plan number ≡ Some group → IsLegalGroup (WithBarriers C barriers) greatest_batch (start_of plan number) group
      groups number group is = record { size = g.size; begins = g.begins; separates = separates }
        where
          g : IsLegalGroup C greatest_batch (start_of plan number) group
          g = legal.groups number group is

          start : ℕ
          start = start_of plan number

          separates : (a b : ℕ) → ConflictsWithin (WithBarriers C barriers) start (start + length group) a b → (k : ℕ) × (a < k) × (k ≤ b) × IsFenced start group k
          separates a b h =
              elim (parted_by C barriers a b h.conflict) [
                | inl conflict ↦ g.separates a b (record { starts = h.starts; ordered = h.ordered; ends = h.ends; conflict = conflict })
                | inr pair ↦
                    let within : b - start < length group = omega (arith, h.starts, h.ordered, h.ends) in
                    let inside : b < n = omega (arith, group_ends plan number group is, h.ends, legal.covers) in
                    let same : start + (b - start) ≡ b = omega (arith, h.starts, h.ordered) in
                    let cut : slice_get (cuts plan) b ≡ Some true = kept b (omega (arith, h.ordered)) inside pair.barrier in
                    let there : slice_get (cuts_of_group group) (b - start) ≡ Some true =
                    sym (cut_at plan number group (b - start) is within) ∙ ap (λ z. slice_get (cuts plan) z) same ∙ cut in
                    (b, h.ordered, omega arith, (omega (arith, h.starts, h.ordered), later_member group (b - start) (omega (arith, h.starts, h.ordered)) there))
              ]

pub legal_is_kept : (C : ℕ → ℕ → Type 0) → LegalIsKept C
legal_is_kept C barriers greatest_batch n plan = (
  λ legal. (legal_with_less C barriers greatest_batch n plan legal, keeps C barriers greatest_batch n plan legal),
  λ h. legal_if_kept C barriers greatest_batch n plan h.0 h.1,
)

pub barriers_part : (C : ℕ → ℕ → Type 0) → BarriersPart C
barriers_part C barriers greatest_batch n plan k i j legal barrier before from inside =
    let next : k ≡ k - 1 + 1 = omega (arith, before) in
    let parted : epoch_of plan (k - 1) < epoch_of plan k =
    legal_parts (WithBarriers C barriers) greatest_batch n plan (k - 1) k legal (omega (arith, before)) (omega arith) (by_barrier C barriers (k - 1) k (record { next = next; barrier = barrier })) in
    let low : epoch_of plan i ≤ epoch_of plan (k - 1) = epochs_follow plan i (k - 1) (omega (arith, before)) in
    let high : epoch_of plan k ≤ epoch_of plan j = epochs_follow plan k j from in
    omega arith
