-- If a fence costs no more than a group, one batch of all pieces costs no more than groups of which one is a batch.
use Rattle.std.proofs.Common.{ℕ, zero, suc, ◌≡◌, ◌⊎◌, ◌+◌, ◌-◌, ◌*◌, ◌<◌, ◌≤◌, min, List, [], ◌∷◌, Option, Some, length, refl, sym, ◌∙◌, subst, inl, inr, slice_index, arith}
use Rattle.std.specs.Prelude.{None, slice_get, slice_index_or}
use Rattle.std.proofs.lemmas.Bool.{cases_lt, cases_eq}
use Rattle.std.proofs.lemmas.Option.{slice_get_within, slice_get-get_or}
use Rattle.std.proofs.Math.Nat.{mul-le-mul_left, mul-le-mul_right}
use Rattle.dsa_settings.specs.Plan.{Tariff, Group, price_of}
use Rattle.dsa_settings.specs.Settings.{greatest_price}
use Rattle.dsa_settings.specs.Legal.{ConflictsWithin}
use Rattle.dsa_plan.specs.Chain.{Pairs, GoForward, LeadsTo, Reaches, HasCountBelow, HasChainFences, HasPairs}
use Rattle.dsa_plan.proofs.Chains.{Reaches-same, HasCountBelow-same, HasCountBelow-some, IsLastBelow-start, count_below_all}
use Rattle.dsa_plan.proofs.Fences.{price_of-batch}
use Rattle.dsa_plan.proofs.Joined.{last_fits}
use Rattle.dsa_search.specs.Entries.{IsChainCost, MakesEntry, IsReadPlan}
use Rattle.dsa_search.specs.Filled.{IsFilled}
use Rattle.dsa_search.specs.OneBatch.{AreNested, AreJoinedCosts, HasCheapFences, IsBestJoined}
use Rattle.dsa_search.proofs.Grouping.{IsPlanFrom, plan_more, plan_whole}

-- ---- chains of pairs that are nested

module _ (pairs : Pairs) (forward : GoForward pairs) (nested : AreNested pairs) where
  -- the chain of the first piece, from where it passes piece i on, goes no slower than that of i
  goes_on : (i c x : ℕ) → Reaches pairs 0 c x → ((b : ℕ) → LeadsTo pairs x b → i ≤ b) → (k m w : ℕ) → m ≡ c + 1 + k → Reaches pairs 0 m w → (q : ℕ) × Reaches pairs i k q × (q ≤ w)
  goes_on i c x at passes zero m w e r =
      let one : m ≡ suc c = omega (arith, e) in
      let last : Reaches pairs 0 (suc c) w = subst (λ (z : ℕ). Reaches pairs 0 z w) one r in
      let same : last.0 ≡ x = Reaches-same pairs 0 c last.0 x last.1 at in
      (i, refl, passes w (subst (λ (z : ℕ). LeadsTo pairs z w) same last.2))
  goes_on i c x at passes (suc k) m w e r =
      let one : m ≡ suc (m - 1) = omega (arith, e) in
      let last : Reaches pairs 0 (suc (m - 1)) w = subst (λ (z : ℕ). Reaches pairs 0 z w) one r in
      let (q, reached, le) = goes_on i c x at passes k (m - 1) last.0 (omega (arith, e)) last.1 in
      let (y, leads, low) = nested q last.0 w le last.2 in
      (y, (q, reached, leads), low)

  -- a group of the first pieces has a fence more at most than its two parts have
  pub joined_count : (i j a b d : ℕ) → HasCountBelow pairs 0 i a → HasCountBelow pairs i j b → HasCountBelow pairs 0 j d → d ≤ a + 1 + b
  joined_count i j a b d (x, first) second (w, whole) =
      elim (cases_lt (a + 1 + b) d) [
        | inl more ↦
            let k = d - (a + 1) in
            let (q, reached, le) = goes_on i a x first.reached first.no_more k d w (omega (arith, more)) whole.reached in
            let most : k ≤ b = count_below_all pairs forward i j b k q second reached (omega (arith, le, whole.below)) in
            absurd (omega (arith, most, more))
        | inr less ↦ less
      ]

-- the pairs of pieces that fit one batch are nested
pub pairs_are_nested : (C : ℕ → ℕ → Type 0) (greatest_batch n : ℕ) (pairs : Pairs) → HasPairs C greatest_batch n pairs → n ≤ greatest_batch → AreNested pairs
pairs_are_nested C greatest_batch n pairs h fits x i z le (a, at) =
    let has = h.each i (Some (a, z)) at in
    let within : i < length pairs = slice_get_within pairs i (Some (a, z)) at in
    let far : ConflictsWithin C x (min (x + greatest_batch) n) a z = record {
      starts = omega (arith, has.conflicts.starts, le);
      ordered = has.conflicts.ordered;
      ends = omega (arith, has.conflicts.ends, fits);
      conflict = has.conflicts.conflict;
    } in
    go x a z far (slice_index_or pairs x None) (slice_get-get_or pairs x None (omega (arith, within, le)))
  where
    go : (x a z : ℕ) → ConflictsWithin C x (min (x + greatest_batch) n) a z → (pair : Option (ℕ × ℕ)) → slice_get pairs x ≡ Some pair → (y : ℕ) × LeadsTo pairs x y × (y ≤ z)
    go x a z far None e = absurd (h.each x None e a z far)
    go x a z far (Some (first, second)) e = (second, (first, e), (h.each x (Some (first, second)) e).least a z far)

-- ---- the costs

module _ (greatest_batch : ℕ) (tariff : Tariff) (pairs : Pairs) (forward : GoForward pairs) (nested : AreNested pairs) (cheap : HasCheapFences greatest_batch tariff (length pairs))
    (costs : List ℕ) (h : AreJoinedCosts pairs tariff.lone (tariff.batch 2) tariff.fence costs) where
  lone_is : (i j m : ℕ) → j ≡ i + 1 → price_of tariff (j - i) m ≡ tariff.lone
  lone_is i j m next =
      let size : j - i ≡ 1 = omega (arith, next) in
      rw size refl

  batch_is : (i j m : ℕ) → i + 2 ≤ j → price_of tariff (j - i) m ≡ tariff.batch 2 + tariff.fence * m
  batch_is i j m far = price_of-batch tariff (j - i) m (omega (arith, far)) ∙ omega (arith, cheap.same (j - i))

  -- a piece more
  one_more : (j : ℕ) → 1 ≤ j → tariff.lone * j ≡ tariff.lone * (j - 1) + tariff.lone
  one_more j some =
      let next : (j - 1) + 1 ≡ j = omega (arith, some) in
      subst (λ (z : ℕ). tariff.lone * z ≡ tariff.lone * (j - 1) + tariff.lone) next (omega arith)

  -- the price of fences that are no more than these
  fences_le : (c m : ℕ) → c ≤ m → tariff.fence * c ≤ tariff.fence * m
  fences_le c m le = mul-le-mul_left tariff.fence le

  none_below : (i j : ℕ) → j ≡ i + 1 → HasCountBelow pairs i j 0
  none_below i j next = subst (λ (z : ℕ). HasCountBelow pairs i z 0) (sym next) (i, IsLastBelow-start pairs forward i)

  next_count : (i j a d : ℕ) → j ≡ i + 1 → HasCountBelow pairs 0 i a → HasCountBelow pairs 0 j d → tariff.fence * d ≤ tariff.fence * a + tariff.fence
  next_count i j a d next first whole =
      let le : d ≤ a + 1 + 0 = joined_count pairs forward nested i j a 0 d first (none_below i j next) whole in
      omega (arith, fences_le d (a + 1) (omega (arith, le)))

  -- what pieces cost: one by one, or in a batch
  Cost : ℕ → ℕ → Type 0
  Cost i a = (slice_index costs i ≡ tariff.lone * i) ⊎ ((slice_index costs i ≡ tariff.batch 2 + tariff.fence * a) × (tariff.batch 2 + tariff.fence * a < tariff.lone * i))

  cost_at : (i : ℕ) → 1 ≤ i → i ≤ length pairs → (a : ℕ) × HasCountBelow pairs 0 i a × Cost i a
  unfolding Cost
  cost_at i some within =
      elim (cases_eq i 1) [
        | inl one ↦
            let (a, count) = HasCountBelow-some pairs forward 0 i (omega (arith, some)) in
            let at : slice_index costs i ≡ tariff.lone * i = rw one (omega (arith, h.second (omega (arith, some, within)))) in
            (a, count, inl at)
        | inr more ↦
            let (a, count, at) = h.each i (omega (arith, some, more)) within in
            elim (cases_lt (tariff.batch 2 + tariff.fence * a) (tariff.lone * i)) [
              | inl less ↦ (a, count, inr (omega (arith, at, less), less))
              | inr alone ↦ (a, count, inl (omega (arith, at, alone)))
            ]
      ]

  -- pieces cost as much as the fences of their chain and one more
  fences_below : (i a : ℕ) → HasCountBelow pairs 0 i a → Cost i a → tariff.fence * a + tariff.fence ≤ slice_index costs i
  unfolding Cost
  fences_below i a (x, last) (inl alone) =
      let few = last_fits pairs forward 0 i a x last in
      let one : tariff.fence * (a + 1) ≤ tariff.lone * (a + 1) = mul-le-mul_right (a + 1) cheap.below_lone in
      let two : tariff.lone * (a + 1) ≤ tariff.lone * i = mul-le-mul_left tariff.lone (omega (arith, few)) in
      omega (arith, one, two, alone)
  fences_below i a count (inr batch) = omega (arith, batch.0, cheap.below_batch)

  reached : (j : ℕ) → 0 < j → j ≤ length pairs → (i : ℕ) × MakesEntry greatest_batch tariff pairs costs i j
  unfolding Cost
  reached j some within =
      elim (cases_eq j 1) [
        | inl one ↦
            let at : slice_index costs j ≡ tariff.lone = rw one (h.second (omega (arith, some, within))) in
            let count : HasCountBelow pairs 0 j 0 = none_below 0 j (omega (arith, one)) in (
              0,
              (
                tariff.lone,
                record { nonempty = some; fits = omega (arith, within, cheap.fits); count = 0; has_count = count; is_cost = lone_is 0 j 0 (omega (arith, one)) },
                omega (arith, h.first, at),
              ),
            )
        | inr more ↦
            let (c, count, at) = h.each j (omega (arith, some, more)) within in
            elim (cases_lt (tariff.batch 2 + tariff.fence * c) (tariff.lone * j)) [
              | inl less ↦ (
                0,
                (
                  tariff.batch 2 + tariff.fence * c,
                  record { nonempty = some; fits = omega (arith, within, cheap.fits); count = c; has_count = count; is_cost = batch_is 0 j c (omega (arith, some, more)) },
                  omega (arith, h.first, at, less),
                ),
              )
              | inr alone ↦
                  let (a, first, cost) = cost_at (j - 1) (omega (arith, some, more)) (omega (arith, within)) in
                  let step = one_more j some in
                  let fences = next_count (j - 1) j a c (omega (arith, some)) first count in
                  let makes : slice_index costs (j - 1) + tariff.lone ≡ slice_index costs j =
                  elim cost [
                    | inl one_by_one ↦ omega (arith, one_by_one, step, at, alone)
                    | inr batch ↦ absurd (omega (arith, batch.1, fences, step, alone, cheap.below_lone))
                  ] in (
                    j - 1,
                    (
                      tariff.lone,
                      record {
                        nonempty = omega (arith, some);
                        fits = omega (arith, within, cheap.fits);
                        count = 0;
                        has_count = none_below (j - 1) j (omega (arith, some));
                        is_cost = lone_is (j - 1) j 0 (omega (arith, some));
                      },
                      makes,
                    ),
                  )
            ]
      ]

  least : (i j cost : ℕ) → j ≤ length pairs → IsChainCost greatest_batch tariff pairs i j cost → slice_index costs j ≤ slice_index costs i + cost
  unfolding Cost
  least i j cost within chain =
      elim (cases_eq j (i + 1)) [
        | inl next ↦
            let is : tariff.lone ≡ cost = sym (lone_is i j chain.count next) ∙ chain.is_cost in
            elim (cases_eq i 0) [
              | inl begun ↦
                  let one : j ≡ 1 = omega (arith, next, begun) in
                  let at : slice_index costs j ≡ tariff.lone = rw one (h.second (omega (arith, one, within))) in
                  omega (arith, is, at)
              | inr later ↦
                  let (a, first, before) = cost_at i (omega (arith, later)) (omega (arith, next, within)) in
                  let (c, count, at) = h.each j (omega (arith, next, later)) within in
                  let fences = next_count i j a c next first count in
                  let back : j - 1 ≡ i = omega (arith, next) in
                  let step : tariff.lone * j ≡ tariff.lone * i + tariff.lone = rw back at (one_more j (omega (arith, next))) in
                  elim before [
                    | inl one_by_one ↦ omega (arith, is, at, step, one_by_one)
                    | inr batch ↦ omega (arith, is, at, batch.0, fences, cheap.below_lone)
                  ]
            ]
        | inr far ↦
            let two : i + 2 ≤ j = omega (arith, far, chain.nonempty) in
            let is : tariff.batch 2 + tariff.fence * chain.count ≡ cost = sym (batch_is i j chain.count two) ∙ chain.is_cost in
            let (c, count, at) = h.each j (omega (arith, two)) within in
            elim (cases_eq i 0) [
              | inl begun ↦
                  let same : c ≡ chain.count = HasCountBelow-same pairs forward 0 j c chain.count count (rw begun at chain.has_count) in
                  let low : tariff.fence * c ≤ tariff.fence * chain.count = fences_le c chain.count (omega (arith, same)) in
                  omega (arith, is, at, low)
              | inr later ↦
                  let (a, first, before) = cost_at i (omega (arith, later)) (omega (arith, two, within)) in
                  let some = fences_below i a first before in
                  let low : tariff.fence * c ≤ tariff.fence * (a + 1 + chain.count) = fences_le c (a + 1 + chain.count) (joined_count pairs forward nested i j a chain.count c first chain.has_count count) in
                  omega (arith, is, at, some, low)
            ]
      ]

  pub joined_filled : tariff.lone ≤ greatest_price → IsFilled greatest_batch tariff pairs costs
  joined_filled low = record {
    entries = record { count = h.count; first = h.first; reached = reached; least = least };
    small = λ k within. elim (cases_eq k 0) [
      | inl none ↦ rw none (omega (arith, h.first))
      | inr some ↦
          let most : tariff.lone * k ≤ greatest_price * k = mul-le-mul_right k low in
          elim (cases_eq k 1) [
            | inl one ↦ rw one (omega (arith, h.second (omega (arith, one, within)), low))
            | inr more ↦
                let (c, count, at) = h.each k (omega (arith, some, more)) within in
                omega (arith, at, most)
          ]
    ];
  }

  module _ (best : IsBestJoined tariff (length pairs) (slice_index costs (length pairs))) where
    -- no later piece makes the cost at the end
    greatest : (x : ℕ) → MakesEntry greatest_batch tariff pairs costs x (length pairs) → x ≤ 0
    unfolding Cost
    greatest x (cost, chain, makes) =
        let n = length pairs in
        let (c, count, at) = h.each n best.some (omega arith) in
        elim (cases_eq x 0) [
          | inl begun ↦ omega (arith, begun)
          | inr later ↦
              let (a, first, before) = cost_at x (omega (arith, later)) (omega (arith, chain.nonempty)) in
              elim (cases_eq n (x + 1)) [
                | inl next ↦
                    let is : tariff.lone ≡ cost = sym (lone_is x n chain.count next) ∙ chain.is_cost in
                    let back : n - 1 ≡ x = omega (arith, next) in
                    let step : tariff.lone * n ≡ tariff.lone * x + tariff.lone = rw back at (one_more n (omega (arith, next))) in
                    let fences = next_count x n a c next first count in
                    elim before [
                      | inl one_by_one ↦ absurd (omega (arith, is, makes, one_by_one, step, best.saves))
                      | inr batch ↦ absurd (omega (arith, is, makes, batch.0, at, fences, best.saves, best.below_lone))
                    ]
                | inr far ↦
                    let two : x + 2 ≤ n = omega (arith, far, chain.nonempty) in
                    let is : tariff.batch 2 + tariff.fence * chain.count ≡ cost = sym (batch_is x n chain.count two) ∙ chain.is_cost in
                    let low : tariff.fence * c ≤ tariff.fence * (a + 1 + chain.count) = fences_le c (a + 1 + chain.count) (joined_count pairs forward nested x n a chain.count c first chain.has_count count) in
                    let dear = dearer x a first before (omega (arith, later)) in
                    absurd (omega (arith, is, makes, at, low, dear, best.saves))
              ]
        ]
      where
        -- pieces cost more than the fences of their chain and one more
        dearer : (i a : ℕ) → HasCountBelow pairs 0 i a → Cost i a → 0 < i → tariff.fence * a + tariff.fence < slice_index costs i
        dearer i a (y, last) (inl alone) some =
            let few = last_fits pairs forward 0 i a y last in
            let one : (tariff.fence + 1) * (a + 1) ≤ tariff.lone * (a + 1) = mul-le-mul_right (a + 1) (omega (arith, best.below_lone)) in
            let two : tariff.lone * (a + 1) ≤ tariff.lone * i = mul-le-mul_left tariff.lone (omega (arith, few)) in
            omega (arith, one, two, alone)
        dearer i a count (inr batch) some = omega (arith, batch.0, best.below_batch)

    pub joined_read : (group : Group) → 0 + length group ≡ length pairs → HasChainFences pairs 0 group → IsReadPlan greatest_batch tariff (length pairs) pairs costs (group ∷ [])
    joined_read group size fences =
        let n = length pairs in
        let (c, count, at) = h.each n best.some (omega arith) in
        let empty : IsPlanFrom greatest_batch tariff pairs costs n [] = record { each = tt; covers = omega arith } in
        let makes : MakesEntry greatest_batch tariff pairs costs 0 n = (
          tariff.batch 2 + tariff.fence * c,
          record { nonempty = omega (arith, best.some); fits = omega (arith, cheap.fits); count = c; has_count = count; is_cost = batch_is 0 n c best.some },
          omega (arith, h.first, at, best.saves),
        ) in
        plan_whole greatest_batch tariff pairs costs (group ∷ []) (plan_more greatest_batch tariff pairs costs 0 n group [] size makes greatest fences empty)
