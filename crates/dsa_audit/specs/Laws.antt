-- What an audit of a batch promises.
use Rattle.std.specs.Prelude.{ℕ, ◌≡◌, ◌↔◌, ◌+◌, ◌-◌, ◌^◌, ◌<◌, ◌≤◌, All, Bool, IsTrue, List, [], length, get_or}
use Rattle.dsa_settings.specs.Plan.{Group, fence_count}
use Rattle.dsa_settings.specs.Legal.{SeparatesConflicts}
use Rattle.dsa_audit.specs.declared.member.Member.{Member}
use Rattle.dsa_audit.specs.declared.missing.FencePlace.{FencePlace}
use Rattle.dsa_audit.specs.declared.missing.FencePlace.TheVariants.{NoFence, Missing}
use Rattle.dsa_audit.specs.declared.needless.FenceUse.{FenceUse}
use Rattle.dsa_audit.specs.declared.audit.Audit.{Audit}
use Rattle.dsa_audit.specs.declared.repeats.Action.{Action}
use Rattle.dsa_audit.specs.Members.{FitsMemory, PossibleConflict}
use Rattle.dsa_audit.specs.Repeats.{OrderMatters, AreRepeats}
use Rattle.dsa_audit.specs.Steps.{AreLasts}
use Rattle.dsa_audit.specs.Accepted.{AreAccepted, AreHeld, IsLeft}
use Rattle.dsa_audit.specs.Audits.{HasFence, IsSeparated, CanFail, Shows, IsCorrected, IsReduced, ShareEpoch, Separates, SeparatesAsMuch}

-- what is left without the needless fences of a batch, by the conflicts that are not ruled out by all that its members
-- touch, by the members that can fail, and by those that show; `places` and `fences` have the missing fences if nothing is
-- accepted, `corrected` those that are left. Recorded fences that are needed if nothing is accepted are held
pub record IsReducedAccepting (members : List Member) (fallible visible : List Bool) (g fences corrected : Group) (uses : List FenceUse) (h : Group) : Type 0 where
  pub uses_before : List FenceUse
  pub stay : Group
  pub needed : IsReduced (PossibleConflict members) fallible visible [] fences uses_before stay
  pub held : List Bool
  pub are_held : AreHeld g stay held
  pub reduced : IsReduced (PossibleConflict members) fallible visible held corrected uses h

-- the members that repeat an earlier one; the missing fences by the conflicts that are known of the operands of members,
-- where their order matters, if nothing is accepted, and of these which are accepted; those by the conflicts that are left
-- without the accepted ones; of all fences then, the needless ones. The last conflicts of the first members that are not
-- ruled out are at hand; of more than 64 members, and fewer than 2^32 - 1, none of which goes past 2^64, those of each.
pub record IsAudit (A : ℕ → ℕ → Type 0) (actions : List Action) (operands members : List Member) (fallible visible : List Bool) (g : Group) (a : Audit) : Type 0 where
  pub repeated : AreRepeats actions operands a.repeated.items
  pub unaccepted : IsCorrected (OrderMatters actions operands) g a.unaccepted.places.items a.unaccepted.fences.items
  pub accepted : AreAccepted A a.unaccepted.places.items a.accepted.items
  pub corrected :
      IsCorrected (IsLeft (OrderMatters actions operands) A g) g a.corrected.places.items a.corrected.fences.items
  pub lasts : AreLasts (PossibleConflict members) a.lasts.items
  pub all : 64 < length members → length members < 2 ^ 32 - 1 → All FitsMemory members → length a.lasts.items ≡ length members
  pub reduced :
      IsReducedAccepting members fallible visible g a.unaccepted.fences.items a.corrected.fences.items
      a.reduced.uses.items a.reduced.fences.items

-- T has all conflicts that are known of the operands whose order matters, and none that is ruled out by all that is touched:
-- it may be the true one
pub record IsBetween (actions : List Action) (operands members : List Member) (T : ℕ → ℕ → Type 0) : Type 0 where
  pub known : (i j : ℕ) → OrderMatters actions operands i j → T i j
  pub possible : (i j : ℕ) → T i j → PossibleConflict members i j

-- where these members fail, member b starts: there is no fence after one of them and at b at the latest (specification
-- 341204, batch: the device abandons the next fenced member and all after it)
abbrev pub Starts : (ℕ → Bool) → Group → ℕ → Type 0
Starts failed g b = (a : ℕ) → IsTrue (failed a) → ¬ IsSeparated g a b

-- all of them can fail
abbrev pub AllCanFail : List Bool → (ℕ → Bool) → Type 0
AllCanFail fallible failed = (a : ℕ) → IsTrue (failed a) → CanFail fallible a

-- of an audit that leads from the fences g to h and then to k, where T has the true conflicts
pub record Holds (T A : ℕ → ℕ → Type 0) (actions : List Action) (operands : List Member) (fallible visible : List Bool) (g h k : Group) (places : List FencePlace) : Type 0 where
  -- each missing fence has a true conflict within an epoch, which is not accepted
  pub missing : (i m : ℕ) → m < length g → get_or places m NoFence ≡ Missing i → (i < m) × T i m × ShareEpoch g i m × (¬ A i m)
  -- each true conflict that the corrected batch separates, the reduced one separates too
  pub spared : SeparatesAsMuch T h k
  -- only fences that were there may go
  pub given : (m : ℕ) → HasFence h m → ¬ HasFence k m → HasFence g m
  -- the reduced batch separates all conflicts that are known of the operands, whose order matters, and that are not accepted
  pub legal : Separates (IsLeft (OrderMatters actions operands) A g) k
  -- whichever members fail of those that can, the same ones start in the corrected and in the reduced batch
  pub starts : (failed : ℕ → Bool) (b : ℕ) → AllCanFail fallible failed → Starts failed h b ↔ Starts failed k b
  -- a member that shows waits for the same members in the corrected and in the reduced batch
  pub shows : (a b : ℕ) → Shows visible b → b < length g → IsSeparated h a b ↔ IsSeparated k a b
  -- and there for each that it waited for as recorded
  pub recorded : (a b : ℕ) → Shows visible b → b < length g → IsSeparated g a b → IsSeparated k a b

-- an audit holds whatever the true conflicts are and whatever is accepted, given as truth values
abbrev pub AuditsHold : Type 0
AuditsHold =
    (truth lists : ℕ → ℕ → Bool) (actions : List Action) (operands members : List Member) →
    (fallible visible held : List Bool) (g h k : Group) (places : List FencePlace) (uses : List FenceUse) →
    IsBetween actions operands members (λ i j. IsTrue (truth i j)) →
    IsCorrected (IsLeft (OrderMatters actions operands) (λ i j. IsTrue (lists i j)) g) g places h →
    IsReduced (PossibleConflict members) fallible visible held h uses k →
    Holds (λ i j. IsTrue (truth i j)) (λ i j. IsTrue (lists i j)) actions operands fallible visible g h k places

-- accepting frees no fence: what an audit of the same batch needs that accepts nothing, one that does needs too
abbrev pub AcceptingFreesNone : Type 0
AcceptingFreesNone =
    (lists : ℕ → ℕ → Bool) (actions : List Action) (operands members : List Member) (fallible visible : List Bool) →
    (g : Group) (a b : Audit) →
    IsAudit (λ i j. ⊥) actions operands members fallible visible g a →
    IsAudit (λ i j. IsTrue (lists i j)) actions operands members fallible visible g b →
    (k : ℕ) → HasFence g k → HasFence a.reduced.fences.items k → HasFence b.reduced.fences.items k

-- fewer members that can fail and fewer that show never leave more fences
abbrev pub AssumptionsFree : Type 0
AssumptionsFree =
    (members : List Member) (fallible visible fallible' visible' held : List Bool) (h k k' : Group) →
    (uses uses' : List FenceUse) →
    ((m : ℕ) → CanFail fallible' m → CanFail fallible m) → ((m : ℕ) → Shows visible' m → Shows visible m) →
    IsReduced (PossibleConflict members) fallible visible held h uses k →
    IsReduced (PossibleConflict members) fallible' visible' held h uses' k' →
    fence_count k' ≤ fence_count k

-- a group that begins with piece `start` of a list and separates its conflicts does so in the sense of legal plans
abbrev pub SeparatedIsLegal : Type 0
SeparatedIsLegal =
    (truth : ℕ → ℕ → Bool) (start : ℕ) (g : Group) →
    Separates (λ a b. IsTrue (truth (start + a) (start + b))) g →
    SeparatesConflicts (λ a b. IsTrue (truth a b)) start g
