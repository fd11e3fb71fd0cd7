-- What is chosen goes by conflicts alone: relations that hold of the same pieces have one choice.
use Rattle.std.proofs.Common.{ℕ, ◌+◌, Option, Some, None, List, length}
use Rattle.std.specs.Prelude.{slice_index, min}
use Rattle.dsa_settings.specs.Plan.{Tariff, Group, Plan, start_of}
use Rattle.dsa_settings.specs.Legal.{ConflictsWithin, IsLegalGroup, IsLegal, IsLeastCost, IsLeastGroupCost}
use Rattle.dsa_plan.specs.Chain.{Pairs, IsPairOf}
use Rattle.dsa_search.specs.Chosen.{MakesCost, IsChosen}

-- the first relation is within the second
abbrev pub Within : (ℕ → ℕ → Type 0) → (ℕ → ℕ → Type 0) → Type 0
Within C D = (a b : ℕ) → C a b → D a b

within_go : (C D : ℕ → ℕ → Type 0) → Within C D → (start end a b : ℕ) → ConflictsWithin C start end a b → ConflictsWithin D start end a b
within_go C D to start end a b h = record { starts = h.starts; ordered = h.ordered; ends = h.ends; conflict = to a b h.conflict }

group_goes : (C D : ℕ → ℕ → Type 0) → Within D C → (greatest_batch start : ℕ) (group : Group) → IsLegalGroup C greatest_batch start group → IsLegalGroup D greatest_batch start group
group_goes C D back greatest_batch start group h =
    record { size = h.size; begins = h.begins; separates = λ a b c. h.separates a b (within_go D C back start (start + length group) a b c) }

legal_goes : (C D : ℕ → ℕ → Type 0) → Within D C → (greatest_batch n : ℕ) (plan : Plan) → IsLegal C greatest_batch n plan → IsLegal D greatest_batch n plan
legal_goes C D back greatest_batch n plan h =
    record { covers = h.covers; groups = λ number group at. group_goes C D back greatest_batch (start_of plan number) group (h.groups number group at) }

cost_goes : (C D : ℕ → ℕ → Type 0) → Within C D → Within D C → (greatest_batch : ℕ) (tariff : Tariff) (n cost : ℕ) → IsLeastCost C greatest_batch tariff n cost → IsLeastCost D greatest_batch tariff n cost
cost_goes C D to back greatest_batch tariff n cost h =
    record {
      reached = (h.reached.0, legal_goes C D back greatest_batch n h.reached.0 h.reached.1, h.reached.2);
      least = λ plan legal. h.least plan (legal_goes D C to greatest_batch n plan legal);
    }

group_cost_goes : (C D : ℕ → ℕ → Type 0) → Within C D → Within D C → (greatest_batch : ℕ) (tariff : Tariff) (start end cost : ℕ)
    → IsLeastGroupCost C greatest_batch tariff start end cost → IsLeastGroupCost D greatest_batch tariff start end cost
group_cost_goes C D to back greatest_batch tariff start end cost h =
    record {
      reached = (h.reached.0, h.reached.1, group_goes C D back greatest_batch start h.reached.0 h.reached.2, h.reached.3);
      least = λ group ends legal. h.least group ends (group_goes D C to greatest_batch start group legal);
    }

makes_goes : (C D : ℕ → ℕ → Type 0) → Within C D → Within D C → (greatest_batch : ℕ) (tariff : Tariff) (costs : List ℕ) (i j : ℕ) → MakesCost C greatest_batch tariff costs i j → MakesCost D greatest_batch tariff costs i j
makes_goes C D to back greatest_batch tariff costs i j (cost, least, sum) = (cost, group_cost_goes C D to back greatest_batch tariff i j cost least, sum)

pair_goes : (C D : ℕ → ℕ → Type 0) → Within C D → Within D C → (i end : ℕ) (pair : Option (ℕ × ℕ)) → IsPairOf C i end pair → IsPairOf D i end pair
pair_goes C D to back i end (Some (a, b)) h =
    record {
      conflicts = within_go C D to i end a b h.conflicts;
      least = λ x y c. h.least x y (within_go D C back i end x y c);
      greatest = λ x c. h.greatest x (within_go D C back i end x b c);
    }
pair_goes C D to back i end None h = λ a b c. h a b (within_go D C back i end a b c)

pub chosen_goes : (C D : ℕ → ℕ → Type 0) → Within C D → Within D C → (greatest_batch : ℕ) (tariff : Tariff) (n : ℕ) (costs : List ℕ) (pairs : Pairs) (plan : Plan)
    → IsChosen C greatest_batch tariff n costs pairs plan → IsChosen D greatest_batch tariff n costs pairs plan
chosen_goes C D to back greatest_batch tariff n costs pairs plan h =
    record {
      has_costs = record { count = h.has_costs.count; each = λ j le. cost_goes C D to back greatest_batch tariff j (slice_index costs j) (h.has_costs.each j le) };
      has_pairs = record { count = h.has_pairs.count; each = λ i pair at. pair_goes C D to back i (min (i + greatest_batch) n) pair (h.has_pairs.each i pair at) };
      has_plan = record {
        covers = h.has_plan.covers;
        groups = λ number group at.
            let g = h.has_plan.groups number group at in
            let start : ℕ = start_of plan number in
            record {
              starts = record {
                makes = makes_goes C D to back greatest_batch tariff costs start (start + length group) g.starts.makes;
                greatest = λ x m. g.starts.greatest x (makes_goes D C back to greatest_batch tariff costs x (start + length group) m);
              };
              fences = g.fences;
            };
      };
    }
