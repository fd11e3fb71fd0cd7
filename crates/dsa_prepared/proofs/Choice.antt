-- The chosen plan of relocated pieces.
use Rattle.std.proofs.Common.{ℕ, List, map}
use Rattle.dsa_descriptor.specs.Fields.{Fields}
use Rattle.dsa_ranges.specs.Ranges.{ConflictAt}
use Rattle.dsa_settings.specs.Plan.{Tariff, Plan}
use Rattle.dsa_plan.specs.Chain.{Pairs}
use Rattle.dsa_search.specs.Chosen.{IsChosen}
use Rattle.dsa_calls.proofs.SameChoice.{chosen_goes}
use Rattle.dsa_prepared.specs.Relocated.{relocated_fields, IsOneToOne, AllKeepOffsets}
use Rattle.dsa_prepared.proofs.Conflicts.{places_stay}

pub choice_stays : (In : ℕ → Type 0) (to : ℕ → ℕ) (fs : List Fields) → IsOneToOne In to → AllKeepOffsets In to fs →
    (greatest_batch : ℕ) (tariff : Tariff) (n : ℕ) (costs : List ℕ) (pairs : Pairs) (plan : Plan) →
    IsChosen (ConflictAt fs) greatest_batch tariff n costs pairs plan →
    IsChosen (ConflictAt (map (relocated_fields to) fs)) greatest_batch tariff n costs pairs plan
choice_stays In to fs apart all =
    chosen_goes (ConflictAt fs) (ConflictAt (map (relocated_fields to) fs)) (λ a b. (places_stay In to fs apart all a b).0) (λ a b. (places_stay In to fs apart all a b).1)
