-- One step of an audit. `epoch` is the member that the epoch of the fences so far begins with.
use Rattle.std.specs.Prelude.{ℕ, ◌≡◌, ◌<◌, ◌≤◌, Bool, true, false, List, length, get_or, Option, Some, slice_get}
use Rattle.dsa_conflicts.specs.Access.{IsGreatest}
use Rattle.dsa_settings.specs.Plan.{Group}
use Rattle.dsa_audit.specs.declared.missing.FencePlace.{FencePlace}
use Rattle.dsa_audit.specs.declared.missing.FencePlace.TheVariants as fence_place
use Rattle.dsa_audit.specs.declared.needless.FenceUse.{FenceUse}
use Rattle.dsa_audit.specs.declared.needless.FenceUse.TheVariants as fence_use
use Rattle.dsa_audit.specs.declared.looks.Look.{Look}
use Rattle.dsa_audit.specs.declared.member.Member.{Member}
use Rattle.dsa_audit.specs.Audits.{HasFence, IsHeld, IsSeparated, ShareEpoch}
use Rattle.dsa_audit.specs.Members.{KnownConflict}

-- for each of the first members, the last one before it that conflicts with it, or none
abbrev pub AreLasts : (ℕ → ℕ → Type 0) → List (Option ℕ) → Type 0
AreLasts C lasts =
    (b : ℕ) (last : Option ℕ) → slice_get lasts b ≡ Some last → IsGreatest (λ a. (a < b) × C a b) last

-- of each that was looked for, the last member before `before` that is known to conflict with `later`
abbrev pub AreLooks : List Member → List Look → Type 0
AreLooks ms looks =
    (j : ℕ) (l : Look) → slice_get looks j ≡ Some l → IsGreatest (λ a. (a < l.before) × KnownConflict ms a l.later) l.last

-- a conflict of two members that the group separates
abbrev pub IsOuterConflict : (ℕ → ℕ → Type 0) → Group → ℕ → ℕ → Type 0
IsOuterConflict C g a b = C a b × IsSeparated g a b

-- a conflict that is not listed
abbrev pub IsUnlisted : (C A : ℕ → ℕ → Type 0) → ℕ → ℕ → Type 0
IsUnlisted C A a b = C a b × (¬ A a b)

-- one in an epoch of the group
abbrev pub IsLeftWithin : (C A : ℕ → ℕ → Type 0) → Group → ℕ → ℕ → Type 0
IsLeftWithin C A g a b = IsUnlisted C A a b × ShareEpoch g a b

-- no member from `from` on and below `before` conflicts with `later`; member i is the last such one
abbrev pub NoneFrom : (ℕ → ℕ → Type 0) → ℕ → ℕ → ℕ → Type 0
NoneFrom C from before later = (i : ℕ) → from ≤ i → i < before → ¬ C i later

-- member i is the last of them that conflicts with `later`
pub record IsLastFrom (C : ℕ → ℕ → Type 0) (from before later i : ℕ) : Type 0 where
  pub begun : from ≤ i
  pub ends : i < before
  pub conflict : C i later
  pub last : (k : ℕ) → i < k → k < before → ¬ C k later

-- ---- missing fences

-- what the fence before a member has to be
abbrev pub IsNextPlace : (ℕ → ℕ → Type 0) → Group → ℕ → ℕ → FencePlace → Type 0
IsNextPlace C g epoch at fence_place.NoFence = (¬ HasFence g at) × NoneFrom C epoch at at
IsNextPlace C g epoch at fence_place.Given = HasFence g at
IsNextPlace C g epoch at (fence_place.Missing i) = (¬ HasFence g at) × IsLastFrom C epoch at at i

-- there is a fence, be it given or missing
abbrev pub has_fence : FencePlace → Bool
has_fence fence_place.NoFence = false
has_fence fence_place.Given = true
has_fence (fence_place.Missing i) = true

-- where the epoch of a member begins, by the fence before it and the epoch of the member before
abbrev pub epoch_after : FencePlace → ℕ → ℕ → ℕ
epoch_after fence_place.NoFence epoch at = epoch
epoch_after fence_place.Given epoch at = at
epoch_after (fence_place.Missing i) epoch at = at

-- ---- needless fences

-- no fence is after `at` and before `end`
abbrev pub IsUnfencedUpTo : Group → ℕ → ℕ → Type 0
IsUnfencedUpTo g at end = (k : ℕ) → at < k → k < end → ¬ HasFence g k

-- no two members conflict of which one is from `epoch` on and before `at`, the other from there on and before `end`
abbrev pub NoneAcross : (ℕ → ℕ → Type 0) → ℕ → ℕ → ℕ → Type 0
NoneAcross C epoch at end = (i j : ℕ) → epoch ≤ i → i < at → at ≤ j → j < end → ¬ C i j

-- members i and j are two that do
pub record IsAcross (C : ℕ → ℕ → Type 0) (epoch at end i j : ℕ) : Type 0 where
  pub begun : epoch ≤ i
  pub before : i < at
  pub after : at ≤ j
  pub within : j < end
  pub conflict : C i j

-- of the members from `epoch` on, no two that conflict are separated by the fence before `at` alone; or i and j are
abbrev pub IsSpare : (ℕ → ℕ → Type 0) → Group → ℕ → ℕ → Type 0
IsSpare C g epoch at =
    (i j : ℕ) → epoch ≤ i → i < at → at ≤ j → j < length g → C i j → IsSeparated g at j

-- members i and j are two that only this fence separates
pub record IsWitness (C : ℕ → ℕ → Type 0) (g : Group) (epoch at i j : ℕ) : Type 0 where
  pub begun : epoch ≤ i
  pub before : i < at
  pub after : at ≤ j
  pub within : j < length g
  pub conflict : C i j
  pub open_after : ShareEpoch g at j

-- of no member from `from` on and below `before` is the flag set; member m is the first of them of which it is
abbrev pub NoneSet : List Bool → ℕ → ℕ → Type 0
NoneSet flags from before = (n : ℕ) → from ≤ n → n < before → ¬ (get_or flags n false ≡ true)

-- member m is the first of them of which the flag is set
pub record IsFirstSet (flags : List Bool) (from before m : ℕ) : Type 0 where
  pub begun : from ≤ m
  pub ends : m < before
  pub here : get_or flags m false ≡ true
  pub first : (n : ℕ) → from ≤ n → n < m → ¬ (get_or flags n false ≡ true)

-- `end` is the first fenced member after `at`, or the end of the group
pub record IsNextFence (g : Group) (at end : ℕ) : Type 0 where
  pub after : at < end
  pub within : end ≤ length g
  pub open_between : IsUnfencedUpTo g at end
  pub closed : end < length g → HasFence g end

-- no member waits for a fence before `at` and can be seen to have ended; one before member 0 is waited for by none
abbrev pub NoneShown : List Bool → ℕ → ℕ → Type 0
NoneShown visible at end = 0 < at → NoneSet visible at end

-- member j is the first that does and can
abbrev pub IsFirstShown : List Bool → ℕ → ℕ → ℕ → Type 0
IsFirstShown visible at end j = (0 < at) × IsFirstSet visible at end j

-- a fence that is for nothing else is held, or needless
abbrev pub IsIdleUse : List Bool → ℕ → FenceUse → Type 0
IsIdleUse held at fence_use.NoFence = ⊥
IsIdleUse held at fence_use.Needless = ¬ IsHeld held at
IsIdleUse held at fence_use.Held = IsHeld held at
IsIdleUse held at (fence_use.Guarding m) = ⊥
IsIdleUse held at (fence_use.Signalling j) = ⊥
IsIdleUse held at (fence_use.GuardingAndSignalling m j) = ⊥
IsIdleUse held at (fence_use.Needed i j) = ⊥

-- what a fence before `at` is for that no conflict needs, where the last one of the batch before it is at `given`, and the
-- next one at `end`
abbrev pub IsSpareUse : List Bool → List Bool → List Bool → ℕ → ℕ → ℕ → FenceUse → Type 0
IsSpareUse fallible visible held given at end fence_use.NoFence = ⊥
IsSpareUse fallible visible held given at end fence_use.Needless =
    NoneSet fallible given at × NoneShown visible at end × (¬ IsHeld held at)
IsSpareUse fallible visible held given at end fence_use.Held =
    NoneSet fallible given at × NoneShown visible at end × IsHeld held at
IsSpareUse fallible visible held given at end (fence_use.Guarding m) =
    IsFirstSet fallible given at m × NoneShown visible at end
IsSpareUse fallible visible held given at end (fence_use.Signalling j) =
    NoneSet fallible given at × IsFirstShown visible at end j
IsSpareUse fallible visible held given at end (fence_use.GuardingAndSignalling m j) =
    IsFirstSet fallible given at m × IsFirstShown visible at end j
IsSpareUse fallible visible held given at end (fence_use.Needed i j) = ⊥

-- a fence before `at` that no conflict needs is for this
pub record IsSpareFence (C : ℕ → ℕ → Type 0) (fallible visible held : List Bool) (g : Group) (given epoch at : ℕ) (u : FenceUse) : Type 0 where
  pub fenced : HasFence g at
  pub spare : IsSpare C g epoch at
  pub end : ℕ
  pub next : IsNextFence g at end
  pub is : IsSpareUse fallible visible held given at end u

-- what the fence before a member is for
abbrev pub IsNextUse : (ℕ → ℕ → Type 0) → List Bool → List Bool → List Bool → Group → ℕ → ℕ → ℕ → FenceUse → Type 0
IsNextUse C fallible visible held g given epoch at fence_use.NoFence = ¬ HasFence g at
IsNextUse C fallible visible held g given epoch at fence_use.Needless =
    IsSpareFence C fallible visible held g given epoch at fence_use.Needless
IsNextUse C fallible visible held g given epoch at fence_use.Held =
    IsSpareFence C fallible visible held g given epoch at fence_use.Held
IsNextUse C fallible visible held g given epoch at (fence_use.Guarding m) =
    IsSpareFence C fallible visible held g given epoch at (fence_use.Guarding m)
IsNextUse C fallible visible held g given epoch at (fence_use.Signalling j) =
    IsSpareFence C fallible visible held g given epoch at (fence_use.Signalling j)
IsNextUse C fallible visible held g given epoch at (fence_use.GuardingAndSignalling m j) =
    IsSpareFence C fallible visible held g given epoch at (fence_use.GuardingAndSignalling m j)
IsNextUse C fallible visible held g given epoch at (fence_use.Needed i j) = HasFence g at × IsWitness C g epoch at i j

-- a fence with this use stays
abbrev pub is_kept : FenceUse → Bool
is_kept fence_use.NoFence = false
is_kept fence_use.Needless = false
is_kept fence_use.Held = true
is_kept (fence_use.Guarding m) = true
is_kept (fence_use.Signalling j) = true
is_kept (fence_use.GuardingAndSignalling m j) = true
is_kept (fence_use.Needed i j) = true

-- where the epoch of a member begins, if only fences that are kept begin one
abbrev pub epoch_kept : FenceUse → ℕ → ℕ → ℕ
epoch_kept fence_use.NoFence epoch at = epoch
epoch_kept fence_use.Needless epoch at = epoch
epoch_kept fence_use.Held epoch at = at
epoch_kept (fence_use.Guarding m) epoch at = at
epoch_kept (fence_use.Signalling j) epoch at = at
epoch_kept (fence_use.GuardingAndSignalling m j) epoch at = at
epoch_kept (fence_use.Needed i j) epoch at = at

-- where the last given fence up to a member is, by what that of the member is for
abbrev pub given_after : FenceUse → ℕ → ℕ → ℕ
given_after fence_use.NoFence given at = given
given_after fence_use.Needless given at = at
given_after fence_use.Held given at = at
given_after (fence_use.Guarding m) given at = at
given_after (fence_use.Signalling j) given at = at
given_after (fence_use.GuardingAndSignalling m j) given at = at
given_after (fence_use.Needed i j) given at = at
