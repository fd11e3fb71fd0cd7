-- A batch whose needless fences are gone up to some member.
use Rattle.std.proofs.Common.{◌≡◌, ℕ, ◌+◌, ◌<◌, ◌≤◌, ◌⊎◌, inl, inr, ◌-◌, Bool, true, false, List, [], ◌∷◌, ◌++◌, length, get_or, take, refl, sym, subst, arith, length-append}
use Rattle.std.proofs.Math.ListN.{get_or-append}
use Rattle.std.proofs.Math.Seq.{get_or-append_seam}
use Rattle.std.proofs.lemmas.Bool.{true≢false, cases_lt}
use Rattle.dsa_settings.specs.Plan.{Group, fence_count}
use Rattle.dsa_audit.specs.declared.needless.FenceUse.{FenceUse}
use Rattle.dsa_audit.specs.declared.needless.FenceUse.TheVariants as fence_use
use Rattle.dsa_audit.specs.Audits.{HasFence, IsSeparated, SeparatesAsMuch, HasFencesOf, KeepsGuards, KeepsHeld, KeepsSignals, IsGuard, IsHeld, IsSignal, IsFirstGuard, IsFirstSignal, GuardsNone, SignalsNone, IsSpared, UseHolds, IsReduced}
use Rattle.dsa_audit.specs.Steps.{IsNextUse, IsSpare, IsWitness, is_kept, epoch_kept, given_after}
use Rattle.dsa_audit.proofs.Flags.{fence_within, pushed_before, pushed_back, pushed_last, pushed_old, separated_pushed, count_more, count_all, count_true, count_false}
use Rattle.dsa_audit.proofs.Scanned.{IsCounted, IsMore}
use Rattle.dsa_audit.proofs.Guards.{IsLastGiven, given_none, given_here, given_before, keeps_guards, none_guards, first_guards, guard_stays, keeps_signals, none_signals, first_signals, signal_stays}

-- a fence that is still to be looked at, up to member b
pub record IsLater (g : Group) (at b : ℕ) : Type 0 where
  pub place : ℕ
  pub from : at ≤ place
  pub up_to : place ≤ b
  pub fence : HasFence g place

pub record Reducing (C : ℕ → ℕ → Type 0) (bs vs ks : List Bool) (g : Group) (at last epoch : ℕ) (us : List FenceUse) (h : Group) : Type 0 where
  pub count : length h ≡ at
  pub uses : length us ≡ at
  pub up_to : epoch ≤ at
  pub starts : 0 < epoch → HasFence h epoch
  pub opened : (k : ℕ) → epoch < k → ¬ HasFence h k
  pub given : (k : ℕ) → HasFence h k → HasFence g k
  pub separates : (a b m : ℕ) → b < length g → C a b → a < m → m ≤ b → m < at → HasFence g m → IsSeparated h a b ⊎ IsLater g at b
  pub begins : IsLastGiven g at last
  pub guards : (m k : ℕ) → k < at → IsGuard bs g k m → HasFence g k → HasFence h k
  pub signals : (k j : ℕ) → k < at → IsSignal vs g k j → HasFence g k → HasFence h k
  pub holds : (k : ℕ) → k < at → IsHeld ks k → HasFence g k → HasFence h k
  pub least : (other : Group) → HasFencesOf other g → SeparatesAsMuch C g other → KeepsGuards bs g other → KeepsSignals vs g other → KeepsHeld ks g other → IsCounted h at epoch other
  pub each : (k : ℕ) → k < at → UseHolds C bs vs ks g h k (get_or us k fence_use.NoFence)

spared_pushed : (C : ℕ → ℕ → Type 0) (g h : Group) (x : Bool) (k : ℕ) → IsSpared C g h k → IsSpared C g (h ++ x ∷ []) k
spared_pushed C g h x k is =
    record {
      given = is.given;
      stays = pushed_before h x k is.stays;
      unneeded = λ i j before after within conflict.
          elim (is.unneeded i j before after within conflict) [
            | inl here ↦ inl (separated_pushed h x i (k - 1) here)
            | inr there ↦ inr there
          ];
    }

use_pushed : (C : ℕ → ℕ → Type 0) (bs vs ks : List Bool) (g h : Group) (x : Bool) (k : ℕ) (u : FenceUse) → k < length h → UseHolds C bs vs ks g h k u → UseHolds C bs vs ks g (h ++ x ∷ []) k u
use_pushed C bs vs ks g h x k fence_use.NoFence lt (given, none) = (given, λ f. none (pushed_old h x k lt f))
use_pushed C bs vs ks g h x k fence_use.Needless lt (given, none, safe, mute, loose) = (given, (λ f. none (pushed_old h x k lt f)), safe, mute, loose)
use_pushed C bs vs ks g h x k fence_use.Held lt (is, safe, mute, held) = (spared_pushed C g h x k is, safe, mute, held)
use_pushed C bs vs ks g h x k (fence_use.Guarding m) lt (is, first, mute) = (spared_pushed C g h x k is, first, mute)
use_pushed C bs vs ks g h x k (fence_use.Signalling j) lt (is, safe, first) = (spared_pushed C g h x k is, safe, first)
use_pushed C bs vs ks g h x k (fence_use.GuardingAndSignalling m j) lt (is, guards, signals) = (spared_pushed C g h x k is, guards, signals)
use_pushed C bs vs ks g h x k (fence_use.Needed i j) lt is =
    record {
      before = is.before;
      after = is.after;
      within = is.within;
      conflict = is.conflict;
      given = is.given;
      stays = pushed_before h x k is.stays;
      alone_before = λ m after up_to f. is.alone_before m after up_to (pushed_old h x m (omega arith) f);
      alone_after = is.alone_after;
    }

each_pushed : (C : ℕ → ℕ → Type 0) (bs vs ks : List Bool) (g h : Group) (x : Bool) (at : ℕ) (us : List FenceUse) (u : FenceUse) → length h ≡ at → length us ≡ at
    → ((k : ℕ) → k < at → UseHolds C bs vs ks g h k (get_or us k fence_use.NoFence)) → UseHolds C bs vs ks g (h ++ x ∷ []) at u
    → (k : ℕ) → k < at + 1 → UseHolds C bs vs ks g (h ++ x ∷ []) k (get_or (us ++ u ∷ []) k fence_use.NoFence)
each_pushed C bs vs ks g h x at us u count uses each last k lt =
    elim (cases_lt k at) [
      | inl below ↦
          subst (UseHolds C bs vs ks g (h ++ x ∷ []) k) (sym (get_or-append us (u ∷ []) fence_use.NoFence k (omega arith)))
          (use_pushed C bs vs ks g h x k (get_or us k fence_use.NoFence) (omega arith) (each k below))
      | inr above ↦
          let e : length us ≡ k = omega arith in
          let here : get_or (us ++ u ∷ []) k fence_use.NoFence ≡ u =
          subst (λ (z : ℕ). get_or (us ++ u ∷ []) z fence_use.NoFence ≡ u) e (get_or-append_seam us u [] fence_use.NoFence) in
          let same : at ≡ k = omega arith in
          subst (UseHolds C bs vs ks g (h ++ x ∷ []) k) (sym here) (subst (λ (z : ℕ). UseHolds C bs vs ks g (h ++ x ∷ []) z u) same last)
    ]

not_last : (h : Group) (at : ℕ) → length h ≡ at → ¬ HasFence (h ++ false ∷ []) at
not_last h at count f =
    elim (pushed_back h false at f) [
      | inl old ↦ let w : at < length h = fence_within h at old in absurd (omega arith)
      | inr (_, e) ↦ true≢false (sym e)
    ]

-- no fence stays at `at`; where there is one, what it separates is separated without it
dropped_next : (C : ℕ → ℕ → Type 0) (bs vs ks : List Bool) (g : Group) (at last next epoch : ℕ) (us : List FenceUse) (h : Group) (u : FenceUse) → Reducing C bs vs ks g at last epoch us h
    → UseHolds C bs vs ks g (h ++ false ∷ []) at u
    → ((a b : ℕ) → b < length g → C a b → a < at → at ≤ b → HasFence g at → IsSeparated (h ++ false ∷ []) a b ⊎ IsLater g (at + 1) b)
    → ((m : ℕ) → IsGuard bs g at m → HasFence g at → ⊥) → ((j : ℕ) → IsSignal vs g at j → HasFence g at → ⊥) → (IsHeld ks at → HasFence g at → ⊥) → IsLastGiven g (at + 1) next
    → Reducing C bs vs ks g (at + 1) next epoch (us ++ u ∷ []) (h ++ false ∷ [])
dropped_next C bs vs ks g at last next epoch us h u s is spare safe mute loose begins =
    record {
      count = omega (arith, s.count, length-append h (false ∷ []));
      uses = omega (arith, s.uses, length-append us (u ∷ []));
      up_to = omega (arith, s.up_to);
      starts = λ some. pushed_before h false epoch (s.starts some);
      opened = λ k after f.
          elim (pushed_back h false k f) [
            | inl old ↦ s.opened k after old
            | inr (_, e) ↦ true≢false (sym e)
          ];
      given = λ k f.
          elim (pushed_back h false k f) [
            | inl old ↦ s.given k old
            | inr (_, e) ↦ absurd (true≢false (sym e))
          ];
      separates = λ a b m within conflict after up_to below f.
          elim (cases_lt m at) [
            | inr more ↦ let e : m ≡ at = omega arith in spare a b within conflict (omega arith) (omega arith) (subst (HasFence g) e f)
            | inl less ↦
                elim (s.separates a b m within conflict after up_to less f) [
                  | inl separated ↦ inl (separated_pushed h false a b separated)
                  | inr later ↦
                      elim (cases_lt at later.place) [
                        | inl beyond ↦ inr (record { place = later.place; from = omega arith; up_to = later.up_to; fence = later.fence })
                        | inr at_most ↦
                            let e : later.place ≡ at = omega (arith, later.from) in
                            spare a b within conflict (omega arith) (omega (arith, later.up_to)) (subst (HasFence g) e later.fence)
                      ]
                ]
          ];
      begins = begins;
      guards = λ m k below guard f.
          elim (cases_lt k at) [
            | inl less ↦ pushed_before h false k (s.guards m k less guard f)
            | inr more ↦ let e : k ≡ at = omega arith in absurd (safe m (subst (λ (z : ℕ). IsGuard bs g z m) e guard) (subst (HasFence g) e f))
          ];
      signals = λ k j below signal f.
          elim (cases_lt k at) [
            | inl less ↦ pushed_before h false k (s.signals k j less signal f)
            | inr more ↦ let e : k ≡ at = omega arith in absurd (mute j (subst (λ (z : ℕ). IsSignal vs g z j) e signal) (subst (HasFence g) e f))
          ];
      holds = λ k below is_held f.
          elim (cases_lt k at) [
            | inl less ↦ pushed_before h false k (s.holds k less is_held f)
            | inr more ↦ let e : k ≡ at = omega arith in absurd (loose (subst (IsHeld ks) e is_held) (subst (HasFence g) e f))
          ];
      least = λ other less separates keeps shows holds.
          let l = s.least other less separates keeps shows holds in
          record {
            end = l.end;
            within = omega (arith, l.within);
            up_to = l.up_to;
            counted = omega (arith, l.counted, count_false h);
          };
      each = each_pushed C bs vs ks g h false at us u s.count s.uses s.each is;
    }

-- the fence at `at` stays, and whatever separates as much and keeps guards has one for it
kept_next : (C : ℕ → ℕ → Type 0) (bs vs ks : List Bool) (g : Group) (at last epoch : ℕ) (us : List FenceUse) (h : Group) (u : FenceUse) → Reducing C bs vs ks g at last epoch us h
    → HasFence g at → UseHolds C bs vs ks g (h ++ true ∷ []) at u
    → ((other : Group) → HasFencesOf other g → SeparatesAsMuch C g other → KeepsGuards bs g other → KeepsSignals vs g other → KeepsHeld ks g other → IsMore at epoch other)
    → Reducing C bs vs ks g (at + 1) at at (us ++ u ∷ []) (h ++ true ∷ [])
kept_next C bs vs ks g at last epoch us h u s fenced is more_of =
    record {
      count = omega (arith, s.count, length-append h (true ∷ []));
      uses = omega (arith, s.uses, length-append us (u ∷ []));
      up_to = omega arith;
      starts = λ some. pushed_last h at s.count;
      opened = λ k after f.
          elim (pushed_back h true k f) [
            | inl old ↦ let w : k < length h = fence_within h k old in absurd (omega (arith, s.count))
            | inr (e, _) ↦ absurd (omega (arith, s.count))
          ];
      given = λ k f.
          elim (pushed_back h true k f) [
            | inl old ↦ s.given k old
            | inr (e, _) ↦ let same : at ≡ k = omega (arith, s.count) in subst (HasFence g) same fenced
          ];
      separates = λ a b m within conflict after up_to below f.
          elim (cases_lt m at) [
            | inr more ↦ inl (record { at = at; after = omega arith; up_to = omega arith; fence = pushed_last h at s.count })
            | inl less ↦
                elim (s.separates a b m within conflict after up_to less f) [
                  | inl separated ↦ inl (separated_pushed h true a b separated)
                  | inr later ↦ inl (record { at = at; after = omega arith; up_to = omega (arith, later.from, later.up_to); fence = pushed_last h at s.count })
                ]
          ];
      begins = given_here g at fenced;
      guards = λ m k below guard f.
          elim (cases_lt k at) [
            | inl less ↦ pushed_before h true k (s.guards m k less guard f)
            | inr more ↦ pushed_last h k (omega (arith, s.count))
          ];
      signals = λ k j below signal f.
          elim (cases_lt k at) [
            | inl less ↦ pushed_before h true k (s.signals k j less signal f)
            | inr more ↦ pushed_last h k (omega (arith, s.count))
          ];
      holds = λ k below is_held f.
          elim (cases_lt k at) [
            | inl less ↦ pushed_before h true k (s.holds k less is_held f)
            | inr more ↦ pushed_last h k (omega (arith, s.count))
          ];
      least = λ other less separates keeps shows holds.
          let l = s.least other less separates keeps shows holds in
          let p = more_of other less separates keeps shows holds in
          let c : fence_count (take l.end other) + 1 ≤ fence_count (take (at + 1) other) =
          count_more other l.end p.place (at + 1) (p.after l.end l.within l.up_to) (omega (arith, p.up_to)) p.fence in
          record {
            end = at + 1;
            within = omega arith;
            up_to = omega arith;
            counted = omega (arith, l.counted, count_true h);
          };
      each = each_pushed C bs vs ks g h true at us u s.count s.uses s.each is;
    }

needed_next : (C : ℕ → ℕ → Type 0) (bs vs ks : List Bool) (g : Group) (at last epoch : ℕ) (us : List FenceUse) (h : Group) (i j : ℕ) → Reducing C bs vs ks g at last epoch us h
    → HasFence g at → IsWitness C g epoch at i j → Reducing C bs vs ks g (at + 1) at at (us ++ fence_use.Needed i j ∷ []) (h ++ true ∷ [])
needed_next C bs vs ks g at last epoch us h i j s fenced witness =
    kept_next C bs vs ks g at last epoch us h (fence_use.Needed i j) s fenced
    (record {
      before = witness.before;
      after = witness.after;
      within = witness.within;
      conflict = witness.conflict;
      given = fenced;
      stays = pushed_last h at s.count;
      alone_before = λ m after up_to f. s.opened m (omega (arith, witness.begun)) (pushed_old h true m (omega (arith, s.count)) f);
      alone_after = witness.open_after;
    })
    (λ other less separates keeps shows holds.
    let p = separates i j (omega (arith, witness.before, witness.after)) witness.within witness.conflict (record { at = at; after = witness.before; up_to = witness.after; fence = fenced }) in
    elim (cases_lt at p.at) [
      | inl after ↦ absurd (witness.open_after p.at after p.up_to (less.fences p.at p.fence))
      | inr up_to ↦
          record {
            place = p.at;
            after = λ e within up_to. omega (arith, p.after, witness.begun);
            up_to = omega arith;
            fence = p.fence;
          }
    ])

-- a fence at `at` that no conflict needs, once it stays
spared_here : (C : ℕ → ℕ → Type 0) (bs vs ks : List Bool) (g : Group) (at last epoch : ℕ) (us : List FenceUse) (h : Group) → Reducing C bs vs ks g at last epoch us h
    → HasFence g at → IsSpare C g epoch at → IsSpared C g (h ++ true ∷ []) at
spared_here C bs vs ks g at last epoch us h s fenced spare =
    record {
      given = fenced;
      stays = pushed_last h at s.count;
      unneeded = λ i j ahead after within conflict.
          elim (cases_lt i epoch) [
            | inr from ↦ inr (spare i j from ahead after within conflict)
            | inl early ↦
                elim (cases_lt epoch at) [
                  | inl less ↦
                      inl (record {
                        at = epoch;
                        after = early;
                        up_to = omega arith;
                        fence = pushed_before h true epoch (s.starts (omega arith));
                      })
                  | inr same ↦
                      let w : epoch < length h = fence_within h epoch (s.starts (omega arith)) in
                      absurd (omega (arith, s.count))
                ]
          ];
    }

-- a further fence of another group is at `at`
more_at : (at epoch : ℕ) (other : Group) → HasFence other at → IsMore at epoch other
more_at at epoch other fence = record { place = at; after = λ e within up_to. within; up_to = omega arith; fence = fence }

guards_more : (C : ℕ → ℕ → Type 0) (bs vs ks : List Bool) (g : Group) (at epoch m : ℕ) → HasFence g at → IsFirstGuard bs g at m
    → (other : Group) → HasFencesOf other g → SeparatesAsMuch C g other → KeepsGuards bs g other → KeepsSignals vs g other → KeepsHeld ks g other → IsMore at epoch other
guards_more C bs vs ks g at epoch m fenced first other less separates keeps shows holds =
    let up_to : at ≤ at = omega arith in
    let p = keeps m at first.guard.fails (fence_within g at fenced) (record { at = at; after = first.guard.before; up_to = up_to; fence = fenced }) in
    more_at at epoch other (guard_stays bs g other at m less.fences fenced first.guard p)

signals_more : (C : ℕ → ℕ → Type 0) (bs vs ks : List Bool) (g : Group) (at epoch j : ℕ) → HasFence g at → IsFirstSignal vs g at j
    → (other : Group) → HasFencesOf other g → SeparatesAsMuch C g other → KeepsGuards bs g other → KeepsSignals vs g other → KeepsHeld ks g other → IsMore at epoch other
signals_more C bs vs ks g at epoch j fenced first other less separates keeps shows holds =
    more_at at epoch other (signal_stays vs g other at j less.fences fenced first.signal shows)

pub reducing_next : (C : ℕ → ℕ → Type 0) (bs vs ks : List Bool) (g : Group) (at last epoch : ℕ) (us : List FenceUse) (h : Group) (u : FenceUse)
    → Reducing C bs vs ks g at last epoch us h → IsNextUse C bs vs ks g last epoch at u
    → Reducing C bs vs ks g (at + 1) (given_after u last at) (epoch_kept u epoch at) (us ++ u ∷ []) (h ++ is_kept u ∷ [])
reducing_next C bs vs ks g at last epoch us h fence_use.NoFence s is =
    dropped_next C bs vs ks g at last last epoch us h fence_use.NoFence s (is, not_last h at s.count) (λ a b within conflict before after f. absurd (is f))
    (λ m guard f. is f) (λ j signal f. is f) (λ is_held f. is f) (given_before g at last s.begins is)
reducing_next C bs vs ks g at last epoch us h fence_use.Needless s is =
    let safe : GuardsNone bs g at = none_guards bs g at last s.begins is.is.0 in
    let mute : SignalsNone vs g at = none_signals vs g at is.end is.next is.is.1 in
    let loose : IsHeld ks at → ⊥ = is.is.2 in
    dropped_next C bs vs ks g at last at epoch us h fence_use.Needless s (is.fenced, not_last h at s.count, safe, mute, loose)
    (λ a b within conflict before after f.
    elim (cases_lt a epoch) [
      | inl early ↦
          inl (record {
            at = epoch;
            after = early;
            up_to = omega (arith, s.up_to);
            fence = pushed_before h false epoch (s.starts (omega arith));
          })
      | inr from ↦
          let p = is.spare a b from before after within conflict in
          inr (record { place = p.at; from = omega (arith, p.after); up_to = p.up_to; fence = p.fence })
    ])
    (λ m guard f. safe m guard) (λ j signal f. mute j signal) (λ is_held f. loose is_held) (given_here g at is.fenced)
reducing_next C bs vs ks g at last epoch us h fence_use.Held s is =
    let safe : GuardsNone bs g at = none_guards bs g at last s.begins is.is.0 in
    let mute : SignalsNone vs g at = none_signals vs g at is.end is.next is.is.1 in
    kept_next C bs vs ks g at last epoch us h fence_use.Held s is.fenced
    (spared_here C bs vs ks g at last epoch us h s is.fenced is.spare, safe, mute, is.is.2)
    (λ other less separates keeps shows holds. more_at at epoch other (holds at is.is.2 is.fenced))
reducing_next C bs vs ks g at last epoch us h (fence_use.Guarding m) s is =
    let first : IsFirstGuard bs g at m = first_guards bs g at last m s.begins is.is.0 in
    kept_next C bs vs ks g at last epoch us h (fence_use.Guarding m) s is.fenced
    (spared_here C bs vs ks g at last epoch us h s is.fenced is.spare, first, none_signals vs g at is.end is.next is.is.1)
    (guards_more C bs vs ks g at epoch m is.fenced first)
reducing_next C bs vs ks g at last epoch us h (fence_use.Signalling j) s is =
    let first : IsFirstSignal vs g at j = first_signals vs g at is.end j is.next is.is.1 in
    kept_next C bs vs ks g at last epoch us h (fence_use.Signalling j) s is.fenced
    (spared_here C bs vs ks g at last epoch us h s is.fenced is.spare, none_guards bs g at last s.begins is.is.0, first)
    (signals_more C bs vs ks g at epoch j is.fenced first)
reducing_next C bs vs ks g at last epoch us h (fence_use.GuardingAndSignalling m j) s is =
    let guards : IsFirstGuard bs g at m = first_guards bs g at last m s.begins is.is.0 in
    let signals : IsFirstSignal vs g at j = first_signals vs g at is.end j is.next is.is.1 in
    kept_next C bs vs ks g at last epoch us h (fence_use.GuardingAndSignalling m j) s is.fenced
    (spared_here C bs vs ks g at last epoch us h s is.fenced is.spare, guards, signals)
    (guards_more C bs vs ks g at epoch m is.fenced guards)
reducing_next C bs vs ks g at last epoch us h (fence_use.Needed i j) s (fenced, witness) = needed_next C bs vs ks g at last epoch us h i j s fenced witness

pub reducing_none : (C : ℕ → ℕ → Type 0) (bs vs ks : List Bool) (g : Group) → Reducing C bs vs ks g 0 0 0 [] []
reducing_none C bs vs ks g =
    record {
      count = refl;
      uses = refl;
      up_to = omega arith;
      starts = λ some. absurd (omega arith);
      opened = λ k after f. true≢false (sym f);
      given = λ k f. absurd (true≢false (sym f));
      separates = λ a b m within conflict after up_to below f. absurd (omega arith);
      begins = given_none g;
      guards = λ m k below guard f. absurd (omega arith);
      signals = λ k j below signal f. absurd (omega arith);
      holds = λ k below is_held f. absurd (omega arith);
      least = λ other less separates keeps shows holds. record { end = 0; within = omega arith; up_to = omega arith; counted = omega arith };
      each = λ k below. absurd (omega arith);
    }

pub reducing_all : (C : ℕ → ℕ → Type 0) (bs vs ks : List Bool) (g : Group) (at last epoch : ℕ) (us : List FenceUse) (h : Group) → Reducing C bs vs ks g at last epoch us h → length g ≡ at → IsReduced C bs vs ks g us h
reducing_all C bs vs ks g at last epoch us h s all =
    record {
      less = record { same_length = omega (arith, s.count); fences = s.given };
      separates = λ a b ordered within conflict separated.
          elim (s.separates a b separated.at within conflict separated.after separated.up_to (omega (arith, separated.up_to)) separated.fence) [
            | inl there ↦ there
            | inr later ↦ let w : later.place < length g = fence_within g later.place later.fence in absurd (omega (arith, later.from))
          ];
      guards = keeps_guards bs g h (λ m k within guard f. s.guards m k (omega arith) guard f);
      signals = keeps_signals vs g h (λ k j within signal f. s.signals k j (omega arith) signal f);
      holds = λ k is_held f. let w : k < length g = fence_within g k f in s.holds k (omega arith) is_held f;
      least = λ other less separates keeps shows holds.
          let l = s.least other less separates keeps shows holds in
          omega (arith, l.counted, count_all other l.end);
      count = omega (arith, s.uses);
      each = λ k below. s.each k (omega arith);
    }
