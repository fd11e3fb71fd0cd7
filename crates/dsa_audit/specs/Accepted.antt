-- Accepted conflicts, which software is known to leave without a fence (all of this file is this project's choice). `C a b`
-- says that the members a and b conflict, `A a b` that the pair is listed, and `g` has the fences as recorded.
use Rattle.std.specs.Prelude.{ℕ, ◌≡◌, ◌↔◌, Bool, List, length, get_or, slice_get, Option, Some, None}
use Rattle.dsa_settings.specs.Plan.{Group}
use Rattle.dsa_audit.specs.declared.missing.FencePlace.{FencePlace}
use Rattle.dsa_audit.specs.declared.missing.FencePlace.TheVariants as fence_place
use Rattle.dsa_audit.specs.Audits.{HasFence, IsHeld, ShareEpoch}

-- the pair is accepted: it is listed, and no recorded fence separates it. A pair that one separates is not, whether it is
-- listed or not
abbrev pub IsAcceptedPair : (ℕ → ℕ → Type 0) → Group → ℕ → ℕ → Type 0
IsAcceptedPair A g a b = ShareEpoch g a b × A a b

-- a conflict that is left: it is not accepted
abbrev pub IsLeft : (C A : ℕ → ℕ → Type 0) → Group → ℕ → ℕ → Type 0
IsLeft C A g a b = C a b × (¬ IsAcceptedPair A g a b)

-- of a member that lacks a fence if nothing is accepted: whether the pair that is named there is listed
abbrev pub IsAcceptedAt : (ℕ → ℕ → Type 0) → ℕ → FencePlace → Option ℕ → Type 0
IsAcceptedAt A k fence_place.NoFence o = o ≡ None
IsAcceptedAt A k fence_place.Given o = o ≡ None
IsAcceptedAt A k (fence_place.Missing i) None = ¬ A i k
IsAcceptedAt A k (fence_place.Missing i) (Some j) = (j ≡ i) × A i k

-- this is so of each member
pub record AreAccepted (A : ℕ → ℕ → Type 0) (places : List FencePlace) (accepted : List (Option ℕ)) : Type 0 where
  pub count : length accepted ≡ length places
  pub each : (k : ℕ) (o : Option ℕ) → slice_get accepted k ≡ Some o → IsAcceptedAt A k (get_or places k fence_place.NoFence) o

-- the recorded fences that stay are held
abbrev pub AreHeld : Group → Group → List Bool → Type 0
AreHeld g stay held = (k : ℕ) → IsHeld held k ↔ (HasFence g k × HasFence stay k)
