-- Missing and needless fences of a batch (all of this file is this project's choice; what a fence does is specification
-- 341204, batch and fence). `C a b` says that the members a and b conflict; members are numbered from 0. A group `g`
-- says which members have a fence before them.
use Rattle.std.specs.Prelude.{ℕ, ◌≡◌, ◌⊎◌, ◌-◌, ◌<◌, ◌≤◌, Bool, true, false, List, length, get_or}
use Rattle.dsa_settings.specs.Plan.{Group, fence_count}
use Rattle.dsa_audit.specs.declared.missing.FencePlace.{FencePlace}
use Rattle.dsa_audit.specs.declared.missing.FencePlace.TheVariants as fence_place
use Rattle.dsa_audit.specs.declared.needless.FenceUse.{FenceUse}
use Rattle.dsa_audit.specs.declared.needless.FenceUse.TheVariants as fence_use

-- there is a fence before member k
abbrev pub HasFence : Group → ℕ → Type 0
HasFence g k = get_or g k false ≡ true

-- there is a fence after member a, and at member b at the latest: b waits for a
pub record IsSeparated (g : Group) (a b : ℕ) : Type 0 where
  pub at : ℕ
  pub after : a < at
  pub up_to : at ≤ b
  pub fence : HasFence g at

-- no fence does: a and b are in one epoch, and b may run before a
abbrev pub ShareEpoch : Group → ℕ → ℕ → Type 0
ShareEpoch g a b = (k : ℕ) → a < k → k ≤ b → ¬ HasFence g k

-- each two members that conflict are separated
abbrev pub Separates : (ℕ → ℕ → Type 0) → Group → Type 0
Separates C g = (a b : ℕ) → a < b → b < length g → C a b → IsSeparated g a b

-- h separates each two members that conflict and that g separates
abbrev pub SeparatesAsMuch : (ℕ → ℕ → Type 0) → Group → Group → Type 0
SeparatesAsMuch C g h =
    (a b : ℕ) → a < b → b < length g → C a b → IsSeparated g a b → IsSeparated h a b

-- h has as many members as g, and each fence of g
pub record HasFencesOf (g h : Group) : Type 0 where
  pub same_length : length h ≡ length g
  pub fences : (k : ℕ) → HasFence g k → HasFence h k

-- ---- missing fences

-- a fence is missing before member k: it conflicts with an earlier member i of its epoch, and once all missing fences
-- are added (h), the one before k is the first after i
pub record IsMissing (C : ℕ → ℕ → Type 0) (g h : Group) (i k : ℕ) : Type 0 where
  pub before : i < k
  pub conflict : C i k
  pub unseparated : ShareEpoch g i k
  pub added : HasFence h k
  pub alone : (m : ℕ) → i < m → m < k → ¬ HasFence h m

-- what is said of member k holds: there is no fence in g or h, there is one in both, or it is missing in g
abbrev pub PlaceHolds : (ℕ → ℕ → Type 0) → Group → Group → ℕ → FencePlace → Type 0
PlaceHolds C g h k fence_place.NoFence = (¬ HasFence g k) × (¬ HasFence h k)
PlaceHolds C g h k fence_place.Given = HasFence g k × HasFence h k
PlaceHolds C g h k (fence_place.Missing i) = IsMissing C g h i k

-- h is g with the missing fences: it separates all conflicts; whatever does that with the fences of g has no fewer; and
-- what is said of each member holds
pub record IsCorrected (C : ℕ → ℕ → Type 0) (g : Group) (places : List FencePlace) (h : Group) : Type 0 where
  pub more : HasFencesOf g h
  pub separates : Separates C h
  pub least : (other : Group) → HasFencesOf g other → Separates C other → fence_count h ≤ fence_count other
  pub count : length places ≡ length g
  pub each : (k : ℕ) → k < length g → PlaceHolds C g h k (get_or places k fence_place.NoFence)

-- ---- needless fences

-- member k can fail: it may end with another status than 1, and the device then abandons the next fenced member and all
-- after that
abbrev pub CanFail : List Bool → ℕ → Type 0
CanFail fallible k = get_or fallible k false ≡ true

-- software can see that member k has ended
abbrev pub Shows : List Bool → ℕ → Type 0
Shows visible k = get_or visible k false ≡ true

-- h has a fence between a member that can fail and a later one wherever g has: the same members are abandoned
abbrev pub KeepsGuards : List Bool → Group → Group → Type 0
KeepsGuards fallible g h =
    (m b : ℕ) → CanFail fallible m → b < length g → IsSeparated g m b → IsSeparated h m b

-- a member that shows waits in h for each that it waits for in g: who sees that it has ended knows that those have
abbrev pub KeepsSignals : List Bool → Group → Group → Type 0
KeepsSignals visible g h =
    (a b : ℕ) → Shows visible b → b < length g → IsSeparated g a b → IsSeparated h a b

-- the fence before member k is held: it stays in any case
abbrev pub IsHeld : List Bool → ℕ → Type 0
IsHeld held k = get_or held k false ≡ true

-- h has each fence of g that is held
abbrev pub KeepsHeld : List Bool → Group → Group → Type 0
KeepsHeld held g h = (k : ℕ) → IsHeld held k → HasFence g k → HasFence h k

-- member m can fail, and is in the epoch that ends before member k: a fence there is the first after m
pub record IsGuard (fallible : List Bool) (g : Group) (k m : ℕ) : Type 0 where
  pub before : m < k
  pub fails : CanFail fallible m
  pub open_between : (n : ℕ) → m < n → n < k → ¬ HasFence g n

-- m is the first member of that epoch that can fail
pub record IsFirstGuard (fallible : List Bool) (g : Group) (k m : ℕ) : Type 0 where
  pub guard : IsGuard fallible g k m
  pub first : (n : ℕ) → n < m → ¬ IsGuard fallible g k n

-- member j shows, and a fence before member k is the last one up to j: by it j waits for all members before k. One before
-- member 0 is waited for by none
pub record IsSignal (visible : List Bool) (g : Group) (k j : ℕ) : Type 0 where
  pub later : 0 < k
  pub from : k ≤ j
  pub within : j < length g
  pub shows : Shows visible j
  pub open_between : ShareEpoch g k j

-- j is the first such member
pub record IsFirstSignal (visible : List Bool) (g : Group) (k j : ℕ) : Type 0 where
  pub signal : IsSignal visible g k j
  pub first : (n : ℕ) → n < j → ¬ IsSignal visible g k n

-- the fence before member k is needed: members i and j conflict, and it alone separates them, of the fences that stay
-- (h), and after it also of those given (g)
pub record IsNeeded (C : ℕ → ℕ → Type 0) (g h : Group) (k i j : ℕ) : Type 0 where
  pub before : i < k
  pub after : k ≤ j
  pub within : j < length g
  pub conflict : C i j
  pub given : HasFence g k
  pub stays : HasFence h k
  pub alone_before : (m : ℕ) → i < m → m < k → ¬ HasFence h m
  pub alone_after : ShareEpoch g k j

-- the fence before member k stays though no conflict needs it: each two members around it that conflict have another
-- fence between, one that stays (h) before it or one that was given (g) after it
pub record IsSpared (C : ℕ → ℕ → Type 0) (g h : Group) (k : ℕ) : Type 0 where
  pub given : HasFence g k
  pub stays : HasFence h k
  pub unneeded :
      (i j : ℕ) → i < k → k ≤ j → j < length g → C i j → IsSeparated h i (k - 1) ⊎ IsSeparated g k j

-- it guards against no member; no member that shows waits for it
abbrev pub GuardsNone : List Bool → Group → ℕ → Type 0
GuardsNone fallible g k = (m : ℕ) → ¬ IsGuard fallible g k m

-- no member that shows waits for this fence
abbrev pub SignalsNone : List Bool → Group → ℕ → Type 0
SignalsNone visible g k = (j : ℕ) → ¬ IsSignal visible g k j

-- what is said of member k holds: there is no fence in g or h; there is one in g alone, which guards against nothing,
-- signals nothing, and is not held; one that no conflict needs guards, signals, or does both, and the first member of each
-- is named, or it is only held; or it is needed
abbrev pub UseHolds : (ℕ → ℕ → Type 0) → List Bool → List Bool → List Bool → Group → Group → ℕ → FenceUse → Type 0
UseHolds C fallible visible held g h k fence_use.NoFence = (¬ HasFence g k) × (¬ HasFence h k)
UseHolds C fallible visible held g h k fence_use.Needless =
    HasFence g k × (¬ HasFence h k) × GuardsNone fallible g k × SignalsNone visible g k × (¬ IsHeld held k)
UseHolds C fallible visible held g h k fence_use.Held =
    IsSpared C g h k × GuardsNone fallible g k × SignalsNone visible g k × IsHeld held k
UseHolds C fallible visible held g h k (fence_use.Guarding m) =
    IsSpared C g h k × IsFirstGuard fallible g k m × SignalsNone visible g k
UseHolds C fallible visible held g h k (fence_use.Signalling j) =
    IsSpared C g h k × GuardsNone fallible g k × IsFirstSignal visible g k j
UseHolds C fallible visible held g h k (fence_use.GuardingAndSignalling m j) =
    IsSpared C g h k × IsFirstGuard fallible g k m × IsFirstSignal visible g k j
UseHolds C fallible visible held g h k (fence_use.Needed i j) = IsNeeded C g h k i j

-- h is g without the needless fences: it separates all conflicts that g separates, the same members are abandoned,
-- members that show wait for the same ones, and fences that are held are there; whatever does all that with fences of g
-- alone has no fewer; and what is said of each member holds
pub record IsReduced (C : ℕ → ℕ → Type 0) (fallible visible held : List Bool) (g : Group) (uses : List FenceUse) (h : Group) : Type 0 where
  pub less : HasFencesOf h g
  pub separates : SeparatesAsMuch C g h
  pub guards : KeepsGuards fallible g h
  pub signals : KeepsSignals visible g h
  pub holds : KeepsHeld held g h
  pub least : (other : Group) → HasFencesOf other g → SeparatesAsMuch C g other → KeepsGuards fallible g other →
      KeepsSignals visible g other → KeepsHeld held g other → fence_count h ≤ fence_count other
  pub count : length uses ≡ length g
  pub each : (k : ℕ) → k < length g → UseHolds C fallible visible held g h k (get_or uses k fence_use.NoFence)
