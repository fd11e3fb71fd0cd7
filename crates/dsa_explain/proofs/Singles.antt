-- The plan of lone submissions.
use Rattle.std.proofs.Common.{◌≡◌, ℕ, zero, suc, ◌*◌, ◌<◌, false, [], ◌∷◌, length, Some, refl, sym, subst, arith}
use Rattle.std.specs.Prelude.{slice_get}
use Rattle.std.proofs.lemmas.List.Sums.{sum_by-cons}
use Rattle.dsa_settings.specs.Plan.{Tariff, Group, Plan, group_cost, plan_cost, piece_count, start_of}
use Rattle.dsa_settings.specs.Legal.{IsLegal, IsLegalGroup}
use Rattle.dsa_explain.specs.Laws.{LeastPlansSave}

single : Group
single = false ∷ []

abbrev singles : ℕ → Plan
singles zero = []
singles (suc n) = (false ∷ []) ∷ singles n

singles_count : (n : ℕ) → piece_count (singles n) ≡ n
singles_count zero = refl
singles_count (suc n) = omega (arith, sum_by-cons length (false ∷ []) (singles n), singles_count n)

singles_cost : (tariff : Tariff) (n : ℕ) → plan_cost tariff (singles n) ≡ tariff.lone * n
singles_cost tariff zero = omega arith
singles_cost tariff (suc n) =
    let one : group_cost tariff (false ∷ []) ≡ tariff.lone = refl in
    omega (arith, sum_by-cons (group_cost tariff) (false ∷ []) (singles n), singles_cost tariff n, one)

singles_at : (n number : ℕ) (group : Group) → slice_get (singles n) number ≡ Some group → false ∷ [] ≡ group
singles_at zero number group e = absurd cc
singles_at (suc n) zero group e = cc
singles_at (suc n) (suc number) group e = singles_at n number group e

single_legal : (C : ℕ → ℕ → Type 0) (greatest_batch start : ℕ) → 0 < greatest_batch → IsLegalGroup C greatest_batch start (false ∷ [])
single_legal C greatest_batch start lt =
    record {
      size = record { nonempty = omega arith; fits = omega arith };
      begins = refl;
      separates = λ a b c. absurd (omega (arith, c.starts, c.ordered, c.ends));
    }

singles_legal : (C : ℕ → ℕ → Type 0) (greatest_batch n : ℕ) → 0 < greatest_batch → IsLegal C greatest_batch n (singles n)
singles_legal C greatest_batch n lt =
    record {
      covers = singles_count n;
      groups = λ number group e.
          subst (λ (g : Group). IsLegalGroup C greatest_batch (start_of (singles n) number) g) (singles_at n number group e)
          (single_legal C greatest_batch (start_of (singles n) number) lt);
    }

pub least_saves : (C : ℕ → ℕ → Type 0) → LeastPlansSave C
least_saves C greatest_batch tariff n plan lt least = rw (sym (singles_cost tariff n)) (least.least (singles n) (singles_legal C greatest_batch n lt))
