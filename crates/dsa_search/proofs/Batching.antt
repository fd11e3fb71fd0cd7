-- One batch of all pieces, none of which conflict, is the plan that its costs choose.
use Rattle.std.proofs.Common.{ℕ, ◌≡◌, ◌⊎◌, ◌+◌, ◌-◌, ◌*◌, ◌<◌, ◌≤◌, min, List, [], ◌∷◌, false, Option, Some, None, replicate, length, refl, sym, ap, ◌∙◌, subst, inl, inr, slice_index, arith}
use Rattle.std.specs.Prelude.{slice_get}
use Rattle.std.proofs.lemmas.Bool.{cases_lt, cases_eq}
use Rattle.std.proofs.Math.Nat.{mul-le-mul_left, mul-le-mul_right}
use Rattle.std.proofs.lemmas.List.{length-replicate, get_or-replicate}
use Rattle.std.proofs.lemmas.Option.{none-some, slice_get_within, get_or_from_slice_get}
use Rattle.dsa_settings.specs.Plan.{Tariff, Group, Plan, price_of}
use Rattle.dsa_settings.specs.Settings.{greatest_price}
use Rattle.dsa_plan.specs.Chain.{Pairs, GoForward, LeadsTo, HasCountBelow, IsPairOf}
use Rattle.dsa_plan.proofs.Fences.{price_of-batch}
use Rattle.dsa_search.specs.Entries.{IsChainCost, MakesEntry, AreEntries, IsReadPlan}
use Rattle.dsa_search.specs.Filled.{IsFilled}
use Rattle.dsa_conflicts.specs.Last.{IsLastOf}
use Rattle.dsa_search.specs.Lasts.{IsFoundFrom}
use Rattle.dsa_search.specs.OneBatch.{IsBestBatch, AreBatchCosts}
use Rattle.dsa_search.proofs.Grouping.{IsPlanFrom, plan_more, plan_whole, chain_price, group_alone}

-- no piece has a pair
abbrev pub no_pairs : ℕ → Pairs
no_pairs n = replicate n None

-- of places that hold nothing each holds nothing
none_at : (n i : ℕ) (pair : Option (ℕ × ℕ)) → slice_get (no_pairs n) i ≡ Some pair → None ≡ pair
none_at n i pair at =
    let inside : i < n = omega (arith, slice_get_within (no_pairs n) i pair at, length-replicate n none) in
    sym (get_or-replicate n i none none inside) ∙ get_or_from_slice_get (no_pairs n) i pair none at
  where
    none : Option (ℕ × ℕ)
    none = None

module _ (greatest_batch : ℕ) (tariff : Tariff) (n : ℕ) (best : IsBestBatch greatest_batch tariff n) (pairs : Pairs) (blank : pairs ≡ no_pairs n) where
  pair_count : length pairs ≡ n
  pair_count = ap length blank ∙ length-replicate n None

  no_pair : (i b : ℕ) → LeadsTo pairs i b → ⊥
  no_pair i b (a, at) = none-some (a, b) (none_at n i (Some (a, b)) (ap (λ (xs : Pairs). slice_get xs i) (sym blank) ∙ at))

  forward : GoForward pairs
  forward i b leads = absurd (no_pair i b leads)

  none_below : (i j : ℕ) → i < j → HasCountBelow pairs i j 0
  none_below i j lt = (i, record { reached = refl; below = lt; no_more = λ b leads. absurd (no_pair i b leads) })

  -- what one group costs
  price_is : (i j cost : ℕ) → IsChainCost greatest_batch tariff pairs i j cost → cost ≡ price_of tariff (j - i) 0
  price_is i j cost chain = chain_price greatest_batch tariff pairs forward i j cost 0 chain (none_below i j chain.nonempty)

  lone_is : (i j : ℕ) → j ≡ i + 1 → price_of tariff (j - i) 0 ≡ tariff.lone
  lone_is i j next =
      let size : j - i ≡ 1 = omega (arith, next) in
      rw size refl

  batch_is : (i j : ℕ) → i + 2 ≤ j → price_of tariff (j - i) 0 ≡ tariff.batch n
  batch_is i j far = price_of-batch tariff (j - i) 0 (omega (arith, far)) ∙ omega (arith, best.same (j - i))

  chain_of : (i j cost : ℕ) → i < j → j ≤ i + greatest_batch → price_of tariff (j - i) 0 ≡ cost → IsChainCost greatest_batch tariff pairs i j cost
  chain_of i j cost lt fits is = record { nonempty = lt; fits = fits; count = 0; has_count = none_below i j lt; is_cost = is }

  -- a piece costs something
  some_lone : 0 < tariff.lone
  some_lone =
      elim (cases_eq tariff.lone 0) [
        | inl none ↦
            let saves : tariff.batch n < 0 * n = subst (λ (z : ℕ). tariff.batch n < z * n) none best.saves in
            absurd (omega (arith, saves))
        | inr some ↦ omega (arith, some)
      ]

  -- a piece more
  one_more : (j : ℕ) → 1 ≤ j → tariff.lone * j ≡ tariff.lone * (j - 1) + tariff.lone
  one_more j some =
      let next : (j - 1) + 1 ≡ j = omega (arith, some) in
      subst (λ (z : ℕ). tariff.lone * z ≡ tariff.lone * (j - 1) + tariff.lone) next (omega arith)

  module _ (costs : List ℕ) (h : AreBatchCosts tariff.lone (tariff.batch n) n costs) where
    -- what the pieces before the last of two or more cost: one by one, or in a batch
    before : (j : ℕ) → 2 ≤ j → j ≤ n → (slice_index costs (j - 1) ≡ tariff.lone * (j - 1)) ⊎ ((slice_index costs (j - 1) ≡ tariff.batch n) × (tariff.batch n < tariff.lone * (j - 1)))
    before j two within =
        elim (cases_eq j 2) [
          | inl here ↦
              let one : j - 1 ≡ 1 = omega (arith, here) in
              inl (rw one (omega (arith, h.second)))
          | inr more ↦
              let at = h.each (j - 1) (omega (arith, more, two)) (omega (arith, within)) in
              elim (cases_lt (tariff.batch n) (tariff.lone * (j - 1))) [
                | inl less ↦ inr (omega (arith, at, less), less)
                | inr alone ↦ inl (omega (arith, at, alone))
              ]
        ]

    at_end : slice_index costs n ≡ tariff.batch n
    at_end = omega (arith, h.each n best.some (omega arith), best.saves)

    reached : (j : ℕ) → 0 < j → j ≤ n → (i : ℕ) × MakesEntry greatest_batch tariff pairs costs i j
    reached j some within =
        elim (cases_eq j 1) [
          | inl one ↦
              let at : slice_index costs j ≡ tariff.lone = rw one h.second in
              (0, (tariff.lone, chain_of 0 j tariff.lone some (omega (arith, within, best.fits)) (lone_is 0 j (omega (arith, one))), omega (arith, h.first, at)))
          | inr more ↦ elim (cases_lt (tariff.batch n) (tariff.lone * j)) [
            | inl less ↦
                let at = h.each j (omega (arith, more, some)) within in
                (0, (tariff.batch n, chain_of 0 j (tariff.batch n) some (omega (arith, within, best.fits)) (batch_is 0 j (omega (arith, more, some))), omega (arith, h.first, at, less)))
            | inr alone ↦
                let at = h.each j (omega (arith, more, some)) within in
                let step = one_more j some in
                let makes : slice_index costs (j - 1) + tariff.lone ≡ slice_index costs j =
                elim (before j (omega (arith, more, some)) within) [
                  | inl one_by_one ↦ omega (arith, one_by_one, step, at, alone)
                  | inr batch ↦ absurd (omega (arith, batch.1, step, alone))
                ] in
                (j - 1, (tariff.lone, chain_of (j - 1) j tariff.lone (omega (arith, some)) (omega (arith, best.some, best.fits)) (lone_is (j - 1) j (omega (arith, some))), makes))
          ]
        ]

    least : (i j cost : ℕ) → j ≤ n → IsChainCost greatest_batch tariff pairs i j cost → slice_index costs j ≤ slice_index costs i + cost
    least i j cost within chain =
        elim (cases_eq j (i + 1)) [
          | inl next ↦
              let is : cost ≡ tariff.lone = price_is i j cost chain ∙ lone_is i j next in
              elim (cases_eq i 0) [
                | inl begun ↦
                    let at : slice_index costs j ≡ tariff.lone = let one : j ≡ 1 = omega (arith, next, begun) in rw one h.second in
                    omega (arith, is, at)
                | inr later ↦
                    let at = h.each j (omega (arith, next, later)) within in
                    let step = one_more j (omega (arith, next)) in
                    let back : j - 1 ≡ i = omega (arith, next) in
                    let was = rw back at (before j (omega (arith, next, later)) within) in
                    let steps : tariff.lone * j ≡ tariff.lone * i + tariff.lone = rw back at step in
                    elim was [
                      | inl one_by_one ↦ omega (arith, is, at, steps, one_by_one)
                      | inr batch ↦ omega (arith, is, at, batch.0)
                    ]
              ]
          | inr far ↦
              let is : cost ≡ tariff.batch n = price_is i j cost chain ∙ batch_is i j (omega (arith, far, chain.nonempty)) in
              let at = h.each j (omega (arith, far, chain.nonempty)) within in
              omega (arith, is, at)
        ]

    entries : AreEntries greatest_batch tariff (length pairs) pairs costs
    entries = record {
      count = omega (arith, h.count, pair_count);
      first = h.first;
      reached = λ j some within. reached j some (omega (arith, within, pair_count));
      least = λ i j cost within chain. least i j cost (omega (arith, within, pair_count)) chain;
    }

    filled : tariff.lone ≤ greatest_price → IsFilled greatest_batch tariff pairs costs
    filled low = record {
      entries = entries;
      small = λ k within. elim (cases_eq k 0) [
        | inl none ↦ rw none (omega (arith, h.first))
        | inr some ↦
            let most : tariff.lone * k ≤ greatest_price * k = mul-le-mul_right k low in
            elim (cases_eq k 1) [
              | inl one ↦ rw one (omega (arith, h.second, low))
              | inr more ↦ omega (arith, h.each k (omega (arith, some, more)) (omega (arith, within, pair_count)), most)
            ]
      ];
    }

    -- no later piece makes the cost at the end
    greatest : (x : ℕ) → MakesEntry greatest_batch tariff pairs costs x n → x ≤ 0
    greatest x (cost, chain, makes) =
        elim (cases_eq x 0) [
          | inl begun ↦ omega (arith, begun)
          | inr later ↦ elim (cases_eq n (x + 1)) [
            | inl next ↦
                let is : cost ≡ tariff.lone = price_is x n cost chain ∙ lone_is x n next in
                let step = one_more n (omega (arith, next)) in
                let back : n - 1 ≡ x = omega (arith, next) in
                let was = rw back at (before n best.some (omega arith)) in
                let steps : tariff.lone * n ≡ tariff.lone * x + tariff.lone = rw back at step in
                elim was [
                  | inl one_by_one ↦ absurd (omega (arith, is, makes, at_end, one_by_one, steps, best.saves))
                  | inr batch ↦ absurd (omega (arith, is, makes, at_end, batch.0, some_lone))
                ]
            | inr far ↦
                let is : cost ≡ tariff.batch n = price_is x n cost chain ∙ batch_is x n (omega (arith, far, chain.nonempty)) in
                elim (cases_eq x 1) [
                  | inl one ↦
                      let at : slice_index costs x ≡ tariff.lone = rw one h.second in
                      absurd (omega (arith, is, makes, at_end, at, some_lone))
                  | inr more ↦
                      let at = h.each x (omega (arith, later, more)) (omega (arith, chain.nonempty)) in
                      let some : tariff.lone * 1 ≤ tariff.lone * x = mul-le-mul_left tariff.lone (omega (arith, later)) in
                      absurd (omega (arith, is, makes, at_end, at, some, some_lone, best.paid))
                ]
          ]
        ]

    read : (plan : Plan) → plan ≡ replicate n false ∷ [] → IsReadPlan greatest_batch tariff (length pairs) pairs costs plan
    read plan is =
        let group : Group = replicate n false in
        let size : length group ≡ n = length-replicate n false in
        let empty : IsPlanFrom greatest_batch tariff pairs costs n [] = record { each = tt; covers = omega (arith, pair_count) } in
        let makes : MakesEntry greatest_batch tariff pairs costs 0 n =
        (tariff.batch n, chain_of 0 n (tariff.batch n) (omega (arith, best.some)) (omega (arith, best.fits)) (batch_is 0 n best.some), omega (arith, h.first, at_end)) in
        let fences = group_alone pairs 0 (no_pair 0) group n refl in
        rw is (plan_whole greatest_batch tariff pairs costs (group ∷ []) (plan_more greatest_batch tariff pairs costs 0 n group [] (omega (arith, size)) makes greatest fences empty))

  -- what one batch of pieces that have no last conflict is found to be
  pub found_one_batch : (lasts : List (Option ℕ)) → ((x y : ℕ) → IsLastOf lasts x y → ⊥) → length lasts ≡ n → tariff.lone ≤ greatest_price → (costs : List ℕ) →
      AreBatchCosts tariff.lone (tariff.batch n) n costs → (plan : Plan) → plan ≡ replicate n false ∷ [] → IsFoundFrom lasts greatest_batch tariff costs pairs plan
  found_one_batch lasts no_last size low costs h plan is = record {
    has_pairs = record {
      count = omega (arith, pair_count, size);
      each = λ i pair at.
          let none : None ≡ pair = none_at n i pair (ap (λ (xs : Pairs). slice_get xs i) (sym blank) ∙ at) in
          subst (λ (z : Option (ℕ × ℕ)). IsPairOf (IsLastOf lasts) i (min (i + greatest_batch) (length lasts)) z) none (λ a b c. no_last a b c.conflict);
    };
    filled = filled costs h low;
    read = read costs h plan is;
  }
