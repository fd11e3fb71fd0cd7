-- The least outstanding submission is ready.
use Rattle.std.proofs.Common.{◌≡◌, ℕ, zero, suc, ◌<◌, ◌⊎◌, inl, inr, Bool, true, false, refl, sym, ◌∙◌, arith}
use Rattle.std.proofs.lemmas.Bool.{cases_eq}
use Rattle.dsa_flight.specs.Caller.{SomeIsReady}

true_or_false : (b : Bool) → (b ≡ true) ⊎ (b ≡ false)
true_or_false true = inl refl
true_or_false false = inr refl

-- below n there is a least number that the test takes, or it takes none
least_or_none :
    (f : ℕ → Bool) (n : ℕ) →
    ((x : ℕ) × (x < n) × (f x ≡ true) × ((k : ℕ) → k < x → f k ≡ false)) ⊎ ((k : ℕ) → k < n → f k ≡ false)
least_or_none f zero = inr (λ k lt. absurd (omega (arith, lt)))
least_or_none f (suc n) =
    elim (least_or_none f n) [
      | inl found ↦ let lt = found.1 in inl (found.0, omega (arith, lt), found.2, found.3)
      | inr none ↦
          elim (true_or_false (f n)) [
            | inl here ↦ inl (n, omega arith, here, none)
            | inr not_here ↦ inr (below none not_here)
          ]
    ]
  where
    below : ((k : ℕ) → k < n → f k ≡ false) → f n ≡ false → (k : ℕ) → k < suc n → f k ≡ false
    below none not_here k lt = elim (cases_eq k n) [ inl e ↦ rw e not_here | inr ne ↦ none k (omega (arith, lt, ne)) ]

both_values : (b : Bool) → b ≡ true → b ≡ false → ⊥
both_values b t f = let wrong : true ≡ false = sym t ∙ f in cc

pub some_is_ready : SomeIsReady
some_is_ready meets tracking y is =
    elim (least_or_none tracking.outstanding (suc y)) [
      | inl found ↦
          let lt = found.1 in
          (found.0, omega (arith, lt), found.2, λ x earlier o. absurd (both_values (tracking.outstanding x) o (found.3 x earlier)))
      | inr none ↦ absurd (both_values (tracking.outstanding y) is (none y (omega arith)))
    ]
