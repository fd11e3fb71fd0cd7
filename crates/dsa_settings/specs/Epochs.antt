-- The epochs that a plan cuts its list of pieces into (from specification 341204, batch and fence; that submissions are
-- awaited in turn, so that each group begins an epoch, is this project's choice).
use Rattle.std.specs.Prelude.{ℕ, ◌+◌, Bool, true, List, [], ◌∷◌, take, flat_map, count_by, ◌<◌, ◌≤◌}
use Rattle.dsa_settings.specs.Plan.{Group, Plan}
use Rattle.dsa_settings.specs.Legal.{IsLegal}

-- the first piece of a group is a cut, whether it is fenced or not
abbrev pub cuts_of_group : Group → List Bool
cuts_of_group [] = []
cuts_of_group (first ∷ others) = true ∷ others

-- where the list is cut: at each group's first piece, and at each fenced piece
abbrev pub cuts : Plan → List Bool
cuts plan = flat_map cuts_of_group plan

-- the number of a piece's epoch: how many cuts are at it or before it
abbrev pub epoch_of : Plan → ℕ → ℕ
epoch_of plan i = count_by (λ cut. cut) (take (i + 1) (cuts plan))

-- under a legal plan, conflicting pieces are in different epochs
abbrev pub LegalEpochsPart : (ℕ → ℕ → Type 0) → Type 0
LegalEpochsPart C =
    (greatest_batch n : ℕ) (plan : Plan) (i j : ℕ) →
    IsLegal C greatest_batch n plan → i < j → j < n → C i j → epoch_of plan i < epoch_of plan j

-- a plan's epochs follow the list
abbrev pub EpochsFollow : Type 0
EpochsFollow = (plan : Plan) (i j : ℕ) → i ≤ j → epoch_of plan i ≤ epoch_of plan j

-- a plan that is legal with smaller batches is legal with larger ones
abbrev pub LegalWithMore : (ℕ → ℕ → Type 0) → Type 0
LegalWithMore C =
    (greatest_batch more n : ℕ) (plan : Plan) → greatest_batch ≤ more →
    IsLegal C greatest_batch n plan → IsLegal C more n plan
