-- Each fence of a planned group is needed.
use Rattle.std.proofs.Common.{◌≡◌, ℕ}
use Rattle.dsa_plan.specs.Chain.{Pairs}
use Rattle.dsa_settings.specs.Plan.{Plan, Tariff, start_of}
use Rattle.dsa_search.specs.Chosen.{IsChosen}
use Rattle.dsa_explain.proofs.Needed.{chain_needed}
use Rattle.dsa_advice.specs.Laws.{FencesAreNeeded}

pub chosen_needed : (C : ℕ → ℕ → Type 0) (greatest_batch : ℕ) (tariff : Tariff) (n : ℕ) (prices : _) (pairs : Pairs) (plan : Plan)
    → IsChosen C greatest_batch tariff n prices pairs plan → FencesAreNeeded C plan
chosen_needed C greatest_batch tariff n prices pairs plan chosen number group k there fenced =
    chain_needed C greatest_batch n pairs (start_of plan number) group k chosen.has_pairs (chosen.has_plan.groups number group there).fences fenced
