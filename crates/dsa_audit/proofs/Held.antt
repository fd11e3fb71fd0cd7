-- What an audit promises holds.
use Rattle.std.proofs.Common.{inl, inr, ◌≡◌, ◌↔◌, ℕ, Bool, ◌+◌, ◌-◌, ◌<◌, ◌≤◌, Some, List, length, get_or, false, ap, ◌∙◌, subst, arith, slice_get}
use Rattle.std.proofs.lemmas.Option.{slice_get-get_or}
use Rattle.std.proofs.lemmas.Bool.{cases_lt}
use Rattle.dsa_settings.specs.Plan.{Group, fence_count}
use Rattle.dsa_settings.specs.Legal.{SeparatesConflicts}
use Rattle.dsa_audit.specs.declared.member.Member.{Member}
use Rattle.dsa_audit.specs.declared.missing.FencePlace.{FencePlace}
use Rattle.dsa_audit.specs.declared.missing.FencePlace.TheVariants.{NoFence, Given, Missing}
use Rattle.dsa_audit.specs.declared.needless.FenceUse.{FenceUse}
use Rattle.dsa_audit.specs.declared.repeats.Action.{Action}
use Rattle.dsa_audit.specs.Members.{PossibleConflict}
use Rattle.dsa_audit.specs.Repeats.{OrderMatters}
use Rattle.dsa_audit.specs.Accepted.{IsLeft}
use Rattle.dsa_audit.specs.Audits.{HasFence, IsMissing, PlaceHolds, CanFail, Shows, IsCorrected, IsReduced, Separates, SeparatesAsMuch}
use Rattle.dsa_audit.specs.Laws.{IsBetween, AllCanFail, Starts, Holds}
use Rattle.dsa_audit.proofs.Flags.{fence_within}

spare : (ms : List Member) (bs vs ks : List Bool) (T : ℕ → ℕ → Type 0) (h k : Group) (uses : List FenceUse) → ((i j : ℕ) → T i j → PossibleConflict ms i j)
    → IsReduced (PossibleConflict ms) bs vs ks h uses k → SeparatesAsMuch T h k
spare ms bs vs ks T h k uses may reduced a b ordered within conflict apart = reduced.separates a b ordered within (may a b conflict) apart

-- so what separates all of them does so too
spare_all : (ms : List Member) (bs vs ks : List Bool) (T : ℕ → ℕ → Type 0) (h k : Group) (uses : List FenceUse) → ((i j : ℕ) → T i j → PossibleConflict ms i j)
    → IsReduced (PossibleConflict ms) bs vs ks h uses k → Separates T h → Separates T k
spare_all ms bs vs ks T h k uses may reduced separates a b ordered within conflict =
    let inside : b < length h = omega (arith, within, reduced.less.same_length) in
    spare ms bs vs ks T h k uses may reduced a b ordered inside conflict (separates a b ordered inside conflict)

given_at : (K : ℕ → ℕ → Type 0) (ms : List Member) (bs vs ks : List Bool) (g h k : Group) (uses : List FenceUse) (m : ℕ) (place : FencePlace) → ((i j : ℕ) → K i j → PossibleConflict ms i j)
    → length h ≡ length g → m < length g → IsReduced (PossibleConflict ms) bs vs ks h uses k → HasFence h m → ¬ HasFence k m → PlaceHolds K g h m place → HasFence g m
given_at K ms bs vs ks g h k uses m NoFence can same within reduced here gone is = absurd (is.1 here)
given_at K ms bs vs ks g h k uses m Given can same within reduced here gone is = is.0
given_at K ms bs vs ks g h k uses m (Missing i) can same within reduced here gone is =
    let p = reduced.separates i m is.before (omega arith) (can i m is.conflict) (record { at = m; after = is.before; up_to = omega arith; fence = here }) in
    elim (cases_lt p.at m) [
      | inl before ↦ absurd (is.alone p.at p.after before (reduced.less.fences p.at p.fence))
      | inr from ↦ let e : p.at ≡ m = omega (arith, p.up_to) in absurd (gone (subst (HasFence k) e p.fence))
    ]

same_starts : (ms : List Member) (bs vs ks : List Bool) (h k : Group) (uses : List FenceUse) (failed : ℕ → Bool) (b : ℕ) → IsReduced (PossibleConflict ms) bs vs ks h uses k
    → AllCanFail bs failed → Starts failed h b ↔ Starts failed k b
same_starts ms bs vs ks h k uses failed b reduced can = (
  (λ starts a fails p. starts a fails (record { at = p.at; after = p.after; up_to = p.up_to; fence = reduced.less.fences p.at p.fence })),
  (λ starts a fails p.
      let up_to : p.at ≤ p.at = omega arith in
      let q = reduced.guards a p.at (can a fails) (fence_within h p.at p.fence) (record { at = p.at; after = p.after; up_to = up_to; fence = p.fence }) in
      starts a fails (record { at = q.at; after = q.after; up_to = omega (arith, q.up_to, p.up_to); fence = q.fence })),
)

pub held : (acts : List Action) (ds ms : List Member) (bs vs ks : List Bool) (T A : ℕ → ℕ → Type 0) (g h k : Group) (places : List FencePlace) (uses : List FenceUse)
    → IsBetween acts ds ms T → IsCorrected (IsLeft (OrderMatters acts ds) A g) g places h → IsReduced (PossibleConflict ms) bs vs ks h uses k → Holds T A acts ds bs vs g h k places
held acts ds ms bs vs ks T A g h k places uses between corrected reduced =
    let K : ℕ → ℕ → Type 0 = IsLeft (OrderMatters acts ds) A g in
    let can : (i j : ℕ) → K i j → PossibleConflict ms i j = λ i j c. between.possible i j (between.known i j c.0) in
    record {
      missing = λ i m within is.
          let found : IsMissing K g h i m = subst (PlaceHolds K g h m) is (corrected.each m within) in
          (found.before, between.known i m found.conflict.0, found.unseparated, λ lists. found.conflict.1 (found.unseparated, lists));
      spared = spare ms bs vs ks T h k uses between.possible reduced;
      given = λ m here gone.
          let w : m < length g = omega (arith, fence_within h m here, corrected.more.same_length) in
          given_at K ms bs vs ks g h k uses m (get_or places m NoFence) can corrected.more.same_length w reduced here gone (corrected.each m w);
      legal = spare_all ms bs vs ks K h k uses can reduced corrected.separates;
      starts = λ failed b can. same_starts ms bs vs ks h k uses failed b reduced can;
      shows = λ a b shows within. (
        reduced.signals a b shows (omega (arith, within, corrected.more.same_length)),
        (λ p. record { at = p.at; after = p.after; up_to = p.up_to; fence = reduced.less.fences p.at p.fence }),
      );
      recorded = λ a b shows within p.
          reduced.signals a b shows (omega (arith, within, corrected.more.same_length))
          (record { at = p.at; after = p.after; up_to = p.up_to; fence = corrected.more.fences p.at p.fence });
    }

-- what keeps more is one of the groups among which the least is
pub freed : (C : ℕ → ℕ → Type 0) (bs vs bs' vs' ks : List Bool) (h k k' : Group) (uses uses' : List FenceUse)
    → ((m : ℕ) → CanFail bs' m → CanFail bs m) → ((m : ℕ) → Shows vs' m → Shows vs m)
    → IsReduced C bs vs ks h uses k → IsReduced C bs' vs' ks h uses' k' → fence_count k' ≤ fence_count k
freed C bs vs bs' vs' ks h k k' uses uses' fewer_fail fewer_show reduced other =
    other.least k reduced.less reduced.separates (λ m b fails. reduced.guards m b (fewer_fail m fails))
    (λ a b shows. reduced.signals a b (fewer_show b shows)) reduced.holds

pub separates : (C : ℕ → ℕ → Type 0) (start : ℕ) (g : Group) → Separates (λ a b. C (start + a) (start + b)) g → SeparatesConflicts C start g
separates C start g apart a b pair =
    let first : a ≡ start + (a - start) = omega (arith, pair.starts) in
    let second : b ≡ start + (b - start) = omega (arith, pair.starts, pair.ordered) in
    let conflict : C (start + (a - start)) (start + (b - start)) = subst (λ (z : ℕ). C z (start + (b - start))) first (subst (C a) second pair.conflict) in
    let p = apart (a - start) (b - start) (omega (arith, pair.starts, pair.ordered)) (omega (arith, pair.starts, pair.ordered, pair.ends)) conflict in
    let place : (start + p.at) - start ≡ p.at = omega arith in
    let moved : slice_get g ((start + p.at) - start) ≡ slice_get g p.at = ap (slice_get g) place in
    let here : slice_get g p.at ≡ Some (get_or g p.at false) = slice_get-get_or g p.at false (fence_within g p.at p.fence) in (
      start + p.at,
      omega (arith, pair.starts, p.after),
      omega (arith, pair.starts, pair.ordered, p.up_to),
      (omega arith, moved ∙ (here ∙ ap Some p.fence)),
    )
