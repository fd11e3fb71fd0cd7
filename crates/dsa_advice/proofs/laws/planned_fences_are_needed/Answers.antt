use Rattle.std.proofs.Common.{inl, inr}
use Rattle.dsa_advice.proofs.PlannedNeeded.{chosen_needed}
use Rattle.dsa_advice.proofs.laws.planned_fences_are_needed.Goals as goal

pub returns-clause-list : goal.returns-clause-list
returns-clause-list c bytes s p plans =
    elim plans [
      | inl (fault, other, first, e) ↦ absurd cc
      | inr (ds, listed, says) ↦ chosen_needed _ _ _ _ _ _ p.plan says.chosen
    ]

pub returns-clause-descriptors : goal.returns-clause-descriptors
returns-clause-descriptors c barriers s fs p plans = chosen_needed _ _ _ _ _ _ p.plan plans.of_pieces.chosen

pub returns-clause-operations : goal.returns-clause-operations
returns-clause-operations c barriers s os p plans = chosen_needed _ _ _ _ _ _ p.plan plans.chosen
