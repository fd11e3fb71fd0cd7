-- Relations that ask for the same fences have the same chosen plan.
use Rattle.std.proofs.Common.{ℕ, ◌≡◌, ◌+◌, ◌≤◌, inl, inr, min, Bool, List, Option, length, Some, None, subst, arith}
use Rattle.dsa_settings.specs.Plan.{Tariff, Group, Plan}
use Rattle.dsa_settings.specs.Legal.{ConflictsWithin, IsLegalGroup, IsLegal, IsLeastCost, IsLeastGroupCost}
use Rattle.dsa_settings.specs.Barriers.{WithBarriers}
use Rattle.dsa_plan.specs.Chain.{Pairs, IsPairOf, HasPairs}
use Rattle.dsa_settings.proofs.Barriers.{parted_by, by_conflict, by_barrier}
use Rattle.dsa_settings.proofs.Plans.{each_group, group_of_each, EachGroup-weaker}
use Rattle.dsa_search.specs.Chosen.{MakesCost, IsLastStart, IsChosenGroup, IsChosenPlan, IsChosen}

-- of n pieces, each two of one group that conflict in C have another two between them that conflict in D, with the same
-- second piece: what parts the one two parts the other
abbrev pub IsCovered : (ℕ → ℕ → Type 0) → (ℕ → ℕ → Type 0) → ℕ → ℕ → Type 0
IsCovered C D greatest_batch n =
    (i end a b : ℕ) → end ≤ i + greatest_batch → end ≤ n → ConflictsWithin C i end a b → (z : ℕ) × (a ≤ z) × ConflictsWithin D i end z b

-- so it is with the same barriers
pub covered_with : (C D : ℕ → ℕ → Type 0) (greatest_batch n : ℕ) (barriers : List Bool) → IsCovered C D greatest_batch n → IsCovered (WithBarriers C barriers) (WithBarriers D barriers) greatest_batch n
covered_with C D greatest_batch n barriers covered i end a b near within h =
    elim (parted_by C barriers a b h.conflict) [
      | inl conflict ↦
          let (z, le, d) = covered i end a b near within (record { starts = h.starts; ordered = h.ordered; ends = h.ends; conflict = conflict }) in
          (z, le, record { starts = d.starts; ordered = d.ordered; ends = d.ends; conflict = by_conflict D barriers z b d.conflict })
      | inr pair ↦ (a, omega arith, record { starts = h.starts; ordered = h.ordered; ends = h.ends; conflict = by_barrier D barriers a b pair })
    ]

-- what is legal by D is legal by C
module _ (C D : ℕ → ℕ → Type 0) (greatest_batch n : ℕ) (covered : IsCovered C D greatest_batch n) where
  legal_group : (s : ℕ) (g : Group) → s + length g ≤ n → IsLegalGroup D greatest_batch s g → IsLegalGroup C greatest_batch s g
  legal_group s g within h = record {
    size = h.size;
    begins = h.begins;
    separates = λ a b conflict.
        let (z, le, d) = covered s (s + length g) a b (omega (arith, h.size.fits)) within conflict in
        let (k, past, to, fenced) = h.separates z b d in
        (k, omega (arith, le, past), to, fenced);
  }

  legal_plan : (j : ℕ) (plan : Plan) → j ≤ n → IsLegal D greatest_batch j plan → IsLegal C greatest_batch j plan
  legal_plan j plan within h = record {
    covers = h.covers;
    groups = group_of_each (IsLegalGroup C greatest_batch) plan
        (EachGroup-weaker (IsLegalGroup D greatest_batch) (IsLegalGroup C greatest_batch) n 0 plan legal_group (omega (arith, h.covers))
        (each_group (IsLegalGroup D greatest_batch) plan h.groups));
  }

-- where each covers the other, the costs by D are those by C
module _ (C D : ℕ → ℕ → Type 0) (greatest_batch n : ℕ) (there : IsCovered C D greatest_batch n) (back : IsCovered D C greatest_batch n) (tariff : Tariff) where
  least_cost : (j cost : ℕ) → j ≤ n → IsLeastCost D greatest_batch tariff j cost → IsLeastCost C greatest_batch tariff j cost
  least_cost j cost within h =
      let (plan, legal, costs) = h.reached in
      record {
        reached = (plan, legal_plan C D greatest_batch n there j plan within legal, costs);
        least = λ other by_C. h.least other (legal_plan D C greatest_batch n back j other within by_C);
      }

  least_group_cost : (i j cost : ℕ) → j ≤ n → IsLeastGroupCost D greatest_batch tariff i j cost → IsLeastGroupCost C greatest_batch tariff i j cost
  least_group_cost i j cost within h =
      let (group, ends, legal, costs) = h.reached in
      record {
        reached = (group, ends, legal_group C D greatest_batch n there i group (omega (arith, ends)) legal, costs);
        least = λ other other_ends by_C. h.least other other_ends (legal_group D C greatest_batch n back i other (omega (arith, other_ends)) by_C);
      }

  makes_cost : (costs : List ℕ) (i j : ℕ) → j ≤ n → MakesCost D greatest_batch tariff costs i j → MakesCost C greatest_batch tariff costs i j
  makes_cost costs i j within (cost, least, makes) = (cost, least_group_cost i j cost within least, makes)

-- and so are the pairs and the chosen plan
module _ (C D : ℕ → ℕ → Type 0) (greatest_batch n : ℕ) (there : IsCovered C D greatest_batch n) (back : IsCovered D C greatest_batch n) where
  alike_pair : (i end : ℕ) (pair : Option (ℕ × ℕ)) → end ≤ i + greatest_batch → end ≤ n → IsPairOf D i end pair → IsPairOf C i end pair
  alike_pair i end None near within h = λ x y c. let (z, le, d) = there i end x y near within c in h z y d
  alike_pair i end (Some p) near within h =
      let (z, le, c) = back i end p.0 p.1 near within h.conflicts in
      let low : z ≤ p.0 = greatest z c in
      let same : z ≡ p.0 = omega (arith, le, low) in
      record {
        conflicts = subst (λ (x : ℕ). ConflictsWithin C i end x p.1) same c;
        least = λ x y other. let (w, other_le, d) = there i end x y near within other in h.least w y d;
        greatest = greatest;
      }
    where
      greatest : (x : ℕ) → ConflictsWithin C i end x p.1 → x ≤ p.0
      greatest x c = let (z, le, d) = there i end x p.1 near within c in omega (arith, le, h.greatest z d)

  alike_pairs : (pairs : Pairs) → HasPairs D greatest_batch n pairs → HasPairs C greatest_batch n pairs
  alike_pairs pairs h = record {
    count = h.count;
    each = λ i pair at. alike_pair i (min (i + greatest_batch) n) pair (omega arith) (omega arith) (h.each i pair at);
  }

  module _ (tariff : Tariff) (costs : List ℕ) (pairs : Pairs) where
    alike_start : (j i : ℕ) → j ≤ n → IsLastStart D greatest_batch tariff costs j i → IsLastStart C greatest_batch tariff costs j i
    alike_start j i within h = record {
      makes = makes_cost C D greatest_batch n there back tariff costs i j within h.makes;
      greatest = λ x makes. h.greatest x (makes_cost D C greatest_batch n back there tariff costs x j within makes);
    }

    alike_plan : (plan : Plan) → IsChosenPlan D greatest_batch tariff n costs pairs plan → IsChosenPlan C greatest_batch tariff n costs pairs plan
    alike_plan plan h = record {
      covers = h.covers;
      groups = group_of_each (IsChosenGroup C greatest_batch tariff costs pairs) plan
          (EachGroup-weaker (IsChosenGroup D greatest_batch tariff costs pairs) (IsChosenGroup C greatest_batch tariff costs pairs) n 0 plan
          (λ s g within group. record { starts = alike_start (s + length g) s within group.starts; fences = group.fences }) (omega (arith, h.covers))
          (each_group (IsChosenGroup D greatest_batch tariff costs pairs) plan h.groups));
    }

    pub alike_chosen : (plan : Plan) → IsChosen D greatest_batch tariff n costs pairs plan → IsChosen C greatest_batch tariff n costs pairs plan
    alike_chosen plan h = record {
      has_costs = record {
        count = h.has_costs.count;
        each = λ j within. least_cost C D greatest_batch n there back tariff j _ within (h.has_costs.each j within);
      };
      has_pairs = alike_pairs pairs h.has_pairs;
      has_plan = alike_plan plan h.has_plan;
    }
