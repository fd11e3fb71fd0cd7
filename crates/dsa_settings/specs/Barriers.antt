-- Barriers in a list of pieces: no piece after a barrier starts before all pieces before it are complete. A list has them
-- as one mark for each piece: whether it begins after a barrier (that lists have barriers is this project's choice).
use Rattle.std.specs.Prelude.{ℕ, ◌≡◌, ◌+◌, ◌<◌, ◌≤◌, ◌⊎◌, ◌↔◌, Bool, true, List, [], ◌∷◌, slice_get, Some}
use Rattle.dsa_settings.specs.Plan.{Plan}
use Rattle.dsa_settings.specs.Legal.{IsLegal}
use Rattle.dsa_settings.specs.Epochs.{cuts, epoch_of}

-- piece k begins after a barrier; a piece without a mark doesn't
abbrev pub IsBarrier : List Bool → ℕ → Type 0
IsBarrier barriers k = slice_get barriers k ≡ Some true

-- a barrier is between piece a and the next one, b; so a barrier before the first piece says nothing
pub record IsBarrierPair (barriers : List Bool) (a b : ℕ) : Type 0 where
  pub next : b ≡ a + 1
  pub barrier : IsBarrier barriers b

-- the pieces conflict, or are one after the other with a barrier between; a list without marks has no barriers
unfoldable pub WithBarriers : (ℕ → ℕ → Type 0) → List Bool → ℕ → ℕ → Type 0
WithBarriers C [] a b = C a b
WithBarriers C (mark ∷ marks) a b = C a b ⊎ IsBarrierPair (mark ∷ marks) a b

-- the plan cuts the list of n pieces at each barrier: the piece is fenced, or a group begins with it
abbrev pub KeepsBarriers : List Bool → ℕ → Plan → Type 0
KeepsBarriers barriers n plan = (k : ℕ) → 0 < k → k < n → IsBarrier barriers k → slice_get (cuts plan) k ≡ Some true

-- the plans that are legal with barriers are the legal plans that keep them
abbrev pub LegalIsKept : (ℕ → ℕ → Type 0) → Type 0
LegalIsKept C =
    (barriers : List Bool) (greatest_batch n : ℕ) (plan : Plan) →
    IsLegal (WithBarriers C barriers) greatest_batch n plan ↔ (IsLegal C greatest_batch n plan × KeepsBarriers barriers n plan)

-- under such a plan each piece before a barrier is of an earlier epoch than each piece after it
abbrev pub BarriersPart : (ℕ → ℕ → Type 0) → Type 0
BarriersPart C =
    (barriers : List Bool) (greatest_batch n : ℕ) (plan : Plan) (k i j : ℕ) →
    IsLegal (WithBarriers C barriers) greatest_batch n plan → IsBarrier barriers k → i < k → k ≤ j → j < n →
    epoch_of plan i < epoch_of plan j
