-- Which accepted keys take pairs of a submission out of those that need a fence.
use Rattle.std.proofs.Common.{◌≡◌, ℕ, ◌+◌, ◌<◌, ◌≤◌, ◌⊎◌, inl, inr, true, false, List, Option, Some, None, length, get_or, sym, ap, subst, refl, ◌∙◌, arith}
use Rattle.std.specs.List.{Contains}
use Rattle.std.proofs.lemmas.Bool.{cases_eq}
use Rattle.std.proofs.lemmas.List.{get_or_default}
use Rattle.dsa_settings.specs.Plan.{Group}
use Rattle.dsa_conflicts.specs.Access.{IsGreatest}
use Rattle.dsa_audit.specs.declared.hazard.Hazards.{Hazards}
use Rattle.dsa_audit.specs.Audits.{HasFence, ShareEpoch}
use Rattle.dsa_audit.specs.Members.{AreHazardsBetween, KnownConflict}
use Rattle.dsa_recording.specs.declared.accepted.Accepted.{Accepted}
use Rattle.dsa_recording.specs.declared.submission.Audited.{Audited}
use Rattle.dsa_recording.specs.EntryKeys.{fence_key}
use Rattle.dsa_recording.specs.Pairs.{NamesEach, has_key}
use Rattle.dsa_recording.specs.Uses.{AddsKeys, IsEpochBefore, IsEpochOf, NeedFence, TakesAcceptedOut, TakesBelowOut, TakesFirstOut, TakesLaterOut, TakesPairOut}
use Rattle.dsa_recording.proofs.Using.{adds_both, adds_none, adds_same, takes_needed, takes_own}

-- ---- epochs

pub epoch_there : (g : Group) (k : ℕ) → HasFence g k → IsEpochOf g k k
epoch_there g k fence = (omega arith, (λ m lt le. omega (arith, lt, le)), λ _. fence)

pub epoch_kept : (g : Group) (k epoch : ℕ) → ¬ HasFence g k → IsEpochBefore g k epoch → IsEpochOf g k epoch
epoch_kept g k epoch none before = (
  before.0,
  λ m lt le fence.
      elim (cases_eq m k) [
        | inl same ↦ none (subst (HasFence g) same fence)
        | inr unlike ↦ before.1 m lt (omega (arith, le, unlike)) fence
      ],
  before.2,
)

pub epoch_first : (g : Group) → IsEpochBefore g 0 0
epoch_first g = (omega arith, (λ m lt le. omega (arith, lt, le)), λ lt. absurd (omega (arith, lt)))

pub epoch_next : (g : Group) (k epoch : ℕ) → IsEpochOf g k epoch → IsEpochBefore g (k + 1) epoch
epoch_next g k epoch is = (omega (arith, is.0), (λ m lt le. is.1 m lt (omega (arith, le))), is.2)

-- no fence separates the members of an epoch
pub within_epoch : (g : Group) (i j epoch : ℕ) → IsEpochOf g j epoch → epoch ≤ i → ShareEpoch g i j
within_epoch g i j epoch is from m lt le = is.1 m (omega (arith, from, lt)) le

-- but those before it
pub before_epoch : (g : Group) (i j epoch : ℕ) → IsEpochOf g j epoch → i < epoch → ¬ ShareEpoch g i j
before_epoch g i j epoch is lt share = share epoch lt is.0 (is.2 (omega (arith, lt)))

module _ (accepted : Accepted) (es : List (List ℕ)) (a : Audited) where
  -- ---- two members

  pub pair_without : (i j : ℕ) (used : Accepted) → ¬ NeedFence a i j → AddsKeys (TakesPairOut accepted es a i j) used used
  pair_without i j used none =
      adds_none (TakesPairOut accepted es a i j) used (λ key pair. none (takes_needed es a key i j pair.1.0 pair.1.1 pair.1.2))

  pub pair_apart : (i j : ℕ) (hs : Hazards) (used : Accepted) → AreHazardsBetween a.operands.items i j hs → has_key accepted (fence_key es i j hs) ≡ false
      → AddsKeys (TakesPairOut accepted es a i j) used used
  pair_apart i j hs used are without =
      adds_none (TakesPairOut accepted es a i j) used
      (λ key pair.
      let end : true ≡ false = sym pair.0 ∙ (ap (has_key accepted) (takes_own es a key i j hs pair.1.0 pair.1.1 pair.1.2 are) ∙ without) in
      cc)

  -- the key of two that need a fence takes them out
  pub pair_taken : (i j : ℕ) (hs : Hazards) → NeedFence a i j → AreHazardsBetween a.operands.items i j hs → has_key accepted (fence_key es i j hs) ≡ true
      → TakesPairOut accepted es a i j (fence_key es i j hs)
  pair_taken i j hs need are has = (
    has,
    (record { earlier = i; later = j; before = need.0; within = need.1; matters = need.2; unseparated = need.3; hazards = hs; are = are; key_is = refl }, refl, refl),
  )

  pub pair_with : (i j : ℕ) (hs : Hazards) (own : List ℕ) (old new : Accepted) → AreHazardsBetween a.operands.items i j hs → own ≡ fence_key es i j hs
      → AddsKeys (λ key. (key ≡ own) × TakesPairOut accepted es a i j key) old new → AddsKeys (TakesPairOut accepted es a i j) old new
  pair_with i j hs own old new are is adds =
      adds_same (λ key. (key ≡ own) × TakesPairOut accepted es a i j key) (TakesPairOut accepted es a i j) old new
      (λ key. (λ both. both.1, λ pair. (takes_own es a key i j hs pair.1.0 pair.1.1 pair.1.2 are ∙ sym is, pair))) adds

  -- ---- one member with some earlier ones

  pub first_none : (members : List ℕ) (j : ℕ) (used : Accepted) → AddsKeys (TakesFirstOut accepted es a members 0 j) used used
  first_none members j used = adds_none (TakesFirstOut accepted es a members 0 j) used (λ key takes. omega (arith, takes.1))

  first_cases : (members : List ℕ) (n j : ℕ) (key : List ℕ) → TakesFirstOut accepted es a members (n + 1) j key
      → TakesFirstOut accepted es a members n j key ⊎ TakesPairOut accepted es a (get_or members n 0) j key
  first_cases members n j key (k, lt, pair) =
      elim (cases_eq k n) [
        | inl same ↦ inr (subst (λ (m : ℕ). TakesPairOut accepted es a (get_or members m 0) j key) same pair)
        | inr unlike ↦ inl (k, omega (arith, lt, unlike), pair)
      ]

  first_wider : (members : List ℕ) (n j : ℕ) (key : List ℕ) → TakesFirstOut accepted es a members n j key → TakesFirstOut accepted es a members (n + 1) j key
  first_wider members n j key (k, lt, pair) = (k, omega (arith, lt), pair)

  pub first_more : (members : List ℕ) (n j : ℕ) (old middle new : Accepted) → AddsKeys (TakesFirstOut accepted es a members n j) old middle
      → AddsKeys (TakesPairOut accepted es a (get_or members n 0) j) middle new → AddsKeys (TakesFirstOut accepted es a members (n + 1) j) old new
  first_more members n j old middle new first second =
      adds_both (TakesFirstOut accepted es a members n j) (TakesPairOut accepted es a (get_or members n 0) j) (TakesFirstOut accepted es a members (n + 1) j) old middle new first second
      (λ key. (
        first_cases members n j key,
        λ either. elim either [
          | inl before ↦ first_wider members n j key before
          | inr here ↦ (n, omega arith, here)
        ],
      ))

  -- ---- one member with all

  place_of : (xs : List ℕ) (x : ℕ) → Contains xs x → (i : ℕ) × (i < length xs) × (get_or xs i 0 ≡ x)
  place_of xs x (k, lt, is) = (k, lt, get_or_default xs k 0 x lt ∙ is)

  named_first : (members : List ℕ) (j : ℕ) (key : List ℕ) → NamesEach accepted es j members → TakesLaterOut accepted es a j key → TakesFirstOut accepted es a members (length members) j key
  named_first members j key names (has, (t, same)) =
      let small = a.operands.small in
      let own : key ≡ fence_key es t.earlier j t.hazards = t.key_is ∙ ap (λ (k : ℕ). fence_key es t.earlier k t.hazards) same in
      let there : Contains members t.earlier = names t.earlier t.hazards (omega (arith, t.before, t.within, small)) (ap (has_key accepted) (sym own) ∙ has) in
      let place = place_of members t.earlier there in
      (place.0, place.1, (has, (t, sym place.2, same)))

  -- if each that an accepted key names is among them
  pub later_named : (members : List ℕ) (j : ℕ) (old new : Accepted) → NamesEach accepted es j members
      → AddsKeys (TakesFirstOut accepted es a members (length members) j) old new → AddsKeys (TakesLaterOut accepted es a j) old new
  later_named members j old new names adds =
      adds_same (TakesFirstOut accepted es a members (length members) j) (TakesLaterOut accepted es a j) old new
      (λ key. (
        λ first. let takes = first.2.1 in (first.2.0, (takes.0, takes.2)),
        named_first members j key names,
      )) adds

  -- a member that conflicts with none of its epoch needs no fence
  pub later_without : (j epoch : ℕ) (last : Option ℕ) (used : Accepted) → IsEpochOf a.fences.items j epoch → IsGreatest (λ i. (i < j) × KnownConflict a.operands.items i j) last
      → ((i : ℕ) → last ≡ Some i → i < epoch) → AddsKeys (TakesLaterOut accepted es a j) used used
  later_without j epoch last used is greatest outside = adds_none (TakesLaterOut accepted es a j) used never where
    past : (t_earlier : ℕ) (o : Option ℕ) → IsGreatest (λ i. (i < j) × KnownConflict a.operands.items i j) o → ((i : ℕ) → o ≡ Some i → i < epoch)
        → t_earlier < j → KnownConflict a.operands.items t_earlier j → t_earlier < epoch
    past i None none out lt conflict = absurd (none i (lt, conflict))
    past i (Some l) great out lt conflict = omega (arith, great.1 i (lt, conflict), out l refl)

    never : (key : List ℕ) → ¬ TakesLaterOut accepted es a j key
    never key (has, (t, same)) =
        let conflict : KnownConflict a.operands.items t.earlier j = subst (λ (k : ℕ). KnownConflict a.operands.items t.earlier k) same t.matters.0 in
        let share : ShareEpoch a.fences.items t.earlier j = subst (λ (k : ℕ). ShareEpoch a.fences.items t.earlier k) same t.unseparated in
        before_epoch a.fences.items t.earlier j epoch is (past t.earlier last greatest outside (omega (arith, t.before, same)) conflict) share

  -- ---- all members

  pub below_none : (used : Accepted) → AddsKeys (TakesBelowOut accepted es a 0) used used
  below_none used = adds_none (TakesBelowOut accepted es a 0) used (λ key takes. omega (arith, takes.1.1))

  below_cases : (j : ℕ) (key : List ℕ) → TakesBelowOut accepted es a (j + 1) key → TakesBelowOut accepted es a j key ⊎ TakesLaterOut accepted es a j key
  below_cases j key (has, (t, lt)) =
      elim (cases_eq t.later j) [
        | inl same ↦ inr (has, (t, same))
        | inr unlike ↦ inl (has, (t, omega (arith, lt, unlike)))
      ]

  below_from : (j : ℕ) (key : List ℕ) → TakesBelowOut accepted es a j key ⊎ TakesLaterOut accepted es a j key → TakesBelowOut accepted es a (j + 1) key
  below_from j key (inl (has, (t, lt))) = (has, (t, omega (arith, lt)))
  below_from j key (inr (has, (t, same))) = (has, (t, omega (arith, same)))

  pub below_more : (j : ℕ) (old middle new : Accepted) → AddsKeys (TakesBelowOut accepted es a j) old middle → AddsKeys (TakesLaterOut accepted es a j) middle new
      → AddsKeys (TakesBelowOut accepted es a (j + 1)) old new
  below_more j old middle new first second =
      adds_both (TakesBelowOut accepted es a j) (TakesLaterOut accepted es a j) (TakesBelowOut accepted es a (j + 1)) old middle new first second
      (λ key. (below_cases j key, below_from j key))

  pub below_all : (j : ℕ) (old new : Accepted) → length a.operands.items ≤ j → AddsKeys (TakesBelowOut accepted es a j) old new → AddsKeys (TakesAcceptedOut accepted es a) old new
  below_all j old new all adds =
      adds_same (TakesBelowOut accepted es a j) (TakesAcceptedOut accepted es a) old new
      (λ key. (λ takes. (takes.0, takes.1.0), λ takes. (takes.0, (takes.1, omega (arith, takes.1.within, all))))) adds
