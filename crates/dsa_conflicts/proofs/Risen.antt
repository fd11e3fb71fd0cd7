-- Pieces whose data rises with them, in one area or in two.
use Rattle.std.proofs.Common.{◌≡◌, ℕ, ◌+◌, ◌<◌, ◌≤◌, ◌⊎◌, inl, inr, min, List, sym, ap, ◌∙◌, subst, arith}
use Rattle.std.specs.Prelude.{Some, slice_get}
use Rattle.std.proofs.lemmas.Bool.{cases_lt}
use Rattle.std.proofs.lemmas.Option.{same_Some}
use Rattle.dsa_descriptor.specs.Fields.{Fields}
use Rattle.dsa_descriptor.specs.Data.{sources, targets, record_span}
use Rattle.dsa_descriptor.specs.Spans.{InSome, InSpan}
use Rattle.dsa_conflicts.specs.Spread.{HasData, HasRecord}
use Rattle.dsa_conflicts.proofs.Bits.{AreApart}

-- the first n pieces lie apart, and their data below `middle` or from `bound` on
pub record AreRising (fs : List Fields) (low middle bound high from to n : ℕ) : Type 0 where
  pub apart : AreApart fs low high from to n
  pub parted : (i x : ℕ) → i < n → HasData fs i x → (x < middle) ⊎ (bound ≤ x)
  pub order : middle ≤ bound
  pub top : bound ≤ high

-- none yet
pub rising_none : (fs : List Fields) (low from : ℕ) → AreRising fs low 0 0 0 from 0 0
rising_none fs low from = record {
  apart = record {
    data_apart = λ i j x lt in_n h k. absurd (omega arith);
    data_within = λ i x lt h. absurd (omega arith);
    records_apart = λ i j x lt in_n h k. absurd (omega arith);
    records_within = λ i x lt h. absurd (omega arith);
  };
  parted = λ i x lt h. absurd (omega arith);
  order = omega arith;
  top = omega arith;
}

-- one piece more: after all data so far, or on in both areas
module _ (fs : List Fields) (n : ℕ) (f : Fields) (at : slice_get fs n ≡ Some f) (first second first_end second_end : ℕ) (ordered : first ≤ second) (long : second ≤ second_end) (ends : first_end ≤ second_end) (some : first ≤ first_end)
    (its : (x : ℕ) → InSome (sources f.op f.size) x ⊎ InSome (targets f.op f.size) x → ((first ≤ x) × (x < first_end)) ⊎ ((second ≤ x) × (x < second_end)))
    (low middle bound high from to low' middle' bound' from' to' : ℕ) (cut : middle' ≡ min first_end bound') (l0 : low' ≤ low) (l1 : low' ≤ first) (r0 : from' ≤ from) (r1 : from' ≤ f.record_at) (r2 : to ≤ f.record_at) (r3 : f.record_at + 32 ≡ to') where
  data_here : (i x : ℕ) → n ≡ i → HasData fs i x → ((first ≤ x) × (x < first_end)) ⊎ ((second ≤ x) × (x < second_end))
  data_here i x e (g, at_g, h) =
      let same : g ≡ f = same_Some g f (sym at_g ∙ ap (slice_get fs) (sym e) ∙ at) in
      its x (subst (λ (y : Fields). InSome (sources y.op y.size) x ⊎ InSome (targets y.op y.size) x) same h)

  record_here : (i x : ℕ) → n ≡ i → HasRecord fs i x → InSpan (record_span f.record_at) x
  record_here i x e (g, at_g, h) =
      let same : g ≡ f = same_Some g f (sym at_g ∙ ap (slice_get fs) (sym e) ∙ at) in
      subst (λ (y : Fields). InSpan (record_span y.record_at) x) same h

  module _ (old : AreRising fs low middle bound high from to n)
      (goes : ((high ≤ first) × (second ≡ bound')) ⊎ ((middle ≤ first) × (first_end ≤ bound) × (high ≤ second) × (bound ≡ bound'))) where
    -- it shares no address with those so far
    apart_here : (x : ℕ) → (low ≤ x) × (x < high) → (x < middle) ⊎ (bound ≤ x) → ((first ≤ x) × (x < first_end)) ⊎ ((second ≤ x) × (x < second_end)) → ⊥
    apart_here x within part (inl w) =
        elim goes [
          | inl after ↦ omega (arith, within.1, after.0, w.0)
          | inr on ↦ elim part [
            | inl lower ↦ omega (arith, lower, on.0, w.0)
            | inr upper ↦ omega (arith, upper, on.1, w.1)
          ]
        ]
    apart_here x within part (inr w) =
        elim goes [
          | inl after ↦ omega (arith, within.1, after.0, w.0, ordered)
          | inr on ↦ omega (arith, within.1, on.2, w.0)
        ]

    -- where the data so far lies now
    parted_before : (x : ℕ) → (low ≤ x) × (x < high) → (x < middle) ⊎ (bound ≤ x) → (x < middle') ⊎ (bound' ≤ x)
    parted_before x within part =
        elim goes [
          | inl after ↦ inl (omega (arith, cut, within.1, after.0, after.1, ordered, some))
          | inr on ↦ elim part [
            | inl lower ↦ inl (omega (arith, cut, lower, on.0, on.1, on.3, some))
            | inr upper ↦ inr (omega (arith, upper, on.3))
          ]
        ]

    high_more : high ≤ second_end
    high_more =
        elim goes [
          | inl after ↦ omega (arith, after.0, ordered, long)
          | inr on ↦ omega (arith, on.2, long)
        ]

    bound_low : bound' ≤ second
    bound_low =
        elim goes [
          | inl after ↦ omega (arith, after.1)
          | inr on ↦ omega (arith, on.2, on.3, old.top)
        ]

    parted_here : (x : ℕ) → ((first ≤ x) × (x < first_end)) ⊎ ((second ≤ x) × (x < second_end)) → (x < middle') ⊎ (bound' ≤ x)
    parted_here x (inl w) =
        elim (cases_lt x bound') [
          | inl lower ↦ inl (omega (arith, cut, lower, w.1))
          | inr upper ↦ inr (omega (arith, upper))
        ]
    parted_here x (inr w) = inr (omega (arith, w.0, bound_low))

    within_here : (x : ℕ) → ((first ≤ x) × (x < first_end)) ⊎ ((second ≤ x) × (x < second_end)) → (low' ≤ x) × (x < second_end)
    within_here x (inl w) = (omega (arith, w.0, l1), omega (arith, w.1, ends))
    within_here x (inr w) = (omega (arith, w.0, l1, ordered), w.1)

    pub rising_more : AreRising fs low' middle' bound' second_end from' to' (n + 1)
    rising_more = record {
      apart = record {
        data_apart = λ i j x lt in_n h k. elim (cases_lt j n) [
          | inl less ↦ old.apart.data_apart i j x lt less h k
          | inr most ↦ apart_here x (old.apart.data_within i x (omega arith) h) (old.parted i x (omega arith) h) (data_here j x (omega arith) k)
        ];
        data_within = λ i x lt h. elim (cases_lt i n) [
          | inl less ↦ let w = old.apart.data_within i x less h in (omega (arith, w.0, l0), omega (arith, w.1, high_more))
          | inr most ↦ within_here x (data_here i x (omega arith) h)
        ];
        records_apart = λ i j x lt in_n h k. elim (cases_lt j n) [
          | inl less ↦ old.apart.records_apart i j x lt less h k
          | inr most ↦
              let w = record_here j x (omega arith) k in
              let v = old.apart.records_within i x (omega arith) h in
              omega (arith, w.0, v.1, r2)
        ];
        records_within = λ i x lt h. elim (cases_lt i n) [
          | inl less ↦ let w = old.apart.records_within i x less h in (omega (arith, w.0, r0), omega (arith, w.1, r2, r3))
          | inr most ↦ let w = record_here i x (omega arith) h in (omega (arith, w.0, r1), omega (arith, w.1, r3))
        ];
      };
      parted = λ i x lt h. elim (cases_lt i n) [
        | inl less ↦ parted_before x (old.apart.data_within i x less h) (old.parted i x less h)
        | inr most ↦ parted_here x (data_here i x (omega arith) h)
      ];
      order = omega (arith, cut);
      top = omega (arith, bound_low, long);
    }
