-- Conflicts with earlier epochs, and fences that separate the last of each member.
use Rattle.std.proofs.Common.{◌≡◌, ℕ, ◌+◌, ◌-◌, ◌<◌, ◌≤◌, inl, inr, Bool, true, false, List, length, get_or, Option, Some, None, sym, subst, arith, slice_get}
use Rattle.std.specs.Prelude.{if◌then◌else◌}
use Rattle.std.proofs.lemmas.Bool.{cases_lt}
use Rattle.std.proofs.lemmas.Option.{slice_get-get_or}
use Rattle.dsa_conflicts.specs.Access.{IsGreatest}
use Rattle.dsa_conflicts.proofs.Greatest.{greatest_same}
use Rattle.dsa_settings.specs.Plan.{Group}
use Rattle.dsa_audit.specs.declared.needless.FenceUse.{FenceUse}
use Rattle.dsa_audit.specs.declared.needless.FenceUse.TheVariants as fence_use
use Rattle.dsa_audit.specs.Audits.{IsReduced, IsSeparated, IsSpared, UseHolds}
use Rattle.dsa_conflicts.specs.Last.{IsLastOf}
use Rattle.dsa_audit.specs.Steps.{AreLasts, IsOuterConflict}
use Rattle.dsa_audit.proofs.Guards.{IsLastGiven, first_after}

-- the last conflict of all, as the last before an epoch
pub none_before : (C : ℕ → ℕ → Type 0) (epoch later : ℕ) → epoch ≤ later → IsGreatest (λ a. (a < later) × C a later) None → IsGreatest (λ a. (a < epoch) × C a later) None
none_before C epoch later le none other (lt, conflict) = none other (omega (arith, lt, le), conflict)

pub one_before : (C : ℕ → ℕ → Type 0) (epoch later last : ℕ) → epoch ≤ later → last < epoch → IsGreatest (λ a. (a < later) × C a later) (Some last) → IsGreatest (λ a. (a < epoch) × C a later) (Some last)
one_before C epoch later last le low is = ((low, is.0.1), λ other (lt, conflict). is.1 other (omega (arith, lt, le), conflict))

-- the last conflict before the epoch of a member is the last that a fence separates from it
pub outer_greatest : (C : ℕ → ℕ → Type 0) (g : Group) (epoch at : ℕ) (o : Option ℕ) → IsLastGiven g (at + 1) epoch → IsGreatest (λ a. (a < epoch) × C a at) o
    → IsGreatest (λ a. (a < at) × IsOuterConflict C g a at) o
outer_greatest C g epoch at o begun h =
    greatest_same (λ a. (a < epoch) × C a at) (λ a. (a < at) × IsOuterConflict C g a at) o
    (λ a (lt, conflict).
    let some : 0 < epoch = omega (arith, lt) in
    let up_to : epoch < at + 1 = begun.below some in
    (omega (arith, lt, up_to), (conflict, record { at = epoch; after = lt; up_to = omega (arith, up_to); fence = begun.starts some })))
    (λ a (lt, (conflict, p)). elim (cases_lt a epoch) [
      | inl before ↦ (before, conflict)
      | inr from ↦ absurd (begun.open_after p.at (omega (arith, from, p.after)) (omega (arith, p.up_to)) p.fence)
    ])
    h

-- the last member of which something holds before an epoch, one member further
pub outside_next : (U : ℕ → Type 0) (at epoch next : ℕ) (outside unknown result : Option ℕ) (b : Bool) → next ≡ (if b then at else epoch) → result ≡ (if b then unknown else outside)
    → IsGreatest (λ a. (a < epoch) × U a) outside → IsGreatest (λ a. (a < at) × U a) unknown → IsGreatest (λ a. (a < next) × U a) result
outside_next U at epoch next outside unknown result true is_next is_result before here =
    subst (λ (n : ℕ). IsGreatest (λ a. (a < n) × U a) result) (sym is_next) (subst (IsGreatest (λ a. (a < at) × U a)) (sym is_result) here)
outside_next U at epoch next outside unknown result false is_next is_result before here =
    subst (λ (n : ℕ). IsGreatest (λ a. (a < n) × U a) result) (sym is_next) (subst (IsGreatest (λ a. (a < epoch) × U a)) (sym is_result) before)

-- ---- to separate the last one is enough

module _ (C : ℕ → ℕ → Type 0) (outers : List (Option ℕ)) (g : Group) (long : length outers ≡ length g) (are : AreLasts (IsOuterConflict C g) outers) where
  record IsReached (a b : ℕ) : Type 0 where
    pub last : ℕ
    pub is : IsLastOf outers last b
    pub from : a ≤ last
    pub before : last < b
    pub separated : IsSeparated g last b

  reached_by : (a b : ℕ) (o : Option ℕ) → slice_get outers b ≡ Some o → a < b → C a b → IsSeparated g a b → IsReached a b
  reached_by a b None at lt conflict p = absurd (are b None at a (lt, (conflict, p)))
  reached_by a b (Some l) at lt conflict p =
      let is = are b (Some l) at in
      record { last = l; is = at; from = is.1 a (lt, (conflict, p)); before = is.0.0; separated = is.0.1.1 }

  reached : (a b : ℕ) → b < length g → a < b → C a b → IsSeparated g a b → IsReached a b
  reached a b within lt conflict p =
      reached_by a b (get_or outers b None) (slice_get-get_or outers b None (omega (arith, long, within))) lt conflict p

  from_last : (h : Group) (a l b : ℕ) → a ≤ l → IsSeparated h l b → IsSeparated h a b
  from_last h a l b from p = record { at = p.at; after = omega (arith, from, p.after); up_to = p.up_to; fence = p.fence }

  spared_by : (h : Group) (k : ℕ) → IsSpared (IsLastOf outers) g h k → IsSpared C g h k
  spared_by h k is =
      record {
        given = is.given;
        stays = is.stays;
        unneeded = λ i j before after within conflict.
            elim (first_after g k j) [
              | inl q ↦ inr (record { at = q.place; after = q.after; up_to = q.up_to; fence = q.fence })
              | inr share ↦
                  let r = reached i j within (omega (arith, before, after)) conflict (record { at = k; after = before; up_to = after; fence = is.given }) in
                  elim (cases_lt r.last k) [
                    | inl early ↦
                        elim (is.unneeded r.last j early after within r.is) [
                          | inl here ↦ inl (from_last h i r.last (k - 1) r.from here)
                          | inr there ↦ inr there
                        ]
                    | inr late ↦ absurd (share r.separated.at (omega (arith, late, r.separated.after)) r.separated.up_to r.separated.fence)
                  ]
            ];
      }

  use_by : (bs vs ks : List Bool) (h : Group) (k : ℕ) (u : FenceUse) → UseHolds (IsLastOf outers) bs vs ks g h k u → UseHolds C bs vs ks g h k u
  use_by bs vs ks h k fence_use.NoFence is = is
  use_by bs vs ks h k fence_use.Needless is = is
  use_by bs vs ks h k fence_use.Held (is, safe, mute, held) = (spared_by h k is, safe, mute, held)
  use_by bs vs ks h k (fence_use.Guarding m) (is, first, mute) = (spared_by h k is, first, mute)
  use_by bs vs ks h k (fence_use.Signalling j) (is, safe, first) = (spared_by h k is, safe, first)
  use_by bs vs ks h k (fence_use.GuardingAndSignalling m j) (is, guards, signals) = (spared_by h k is, guards, signals)
  use_by bs vs ks h k (fence_use.Needed i j) is =
      record {
        before = is.before;
        after = is.after;
        within = is.within;
        conflict = (are j (Some i) is.conflict).0.1.0;
        given = is.given;
        stays = is.stays;
        alone_before = is.alone_before;
        alone_after = is.alone_after;
      }

  pub reduced_of : (bs vs ks : List Bool) (uses : List FenceUse) (h : Group) → IsReduced (IsLastOf outers) bs vs ks g uses h → IsReduced C bs vs ks g uses h
  reduced_of bs vs ks uses h is =
      record {
        less = is.less;
        separates = λ a b ordered within conflict p.
            let r = reached a b within ordered conflict p in
            from_last h a r.last b r.from (is.separates r.last b r.before within r.is r.separated);
        guards = is.guards;
        signals = is.signals;
        holds = is.holds;
        least = λ other less separates guards signals holds.
            is.least other less (λ a b ordered within last p. separates a b ordered within (are b (Some a) last).0.1.0 p) guards signals holds;
        count = is.count;
        each = λ k below. use_by bs vs ks h k (get_or uses k fence_use.NoFence) (is.each k below);
      }
