-- A batch whose missing fences are added up to some member.
use Rattle.std.proofs.Common.{◌≡◌, ℕ, suc, ◌+◌, ◌<◌, ◌≤◌, inl, inr, Bool, true, false, List, [], ◌∷◌, ◌++◌, length, get_or, take, refl, sym, subst, arith, length-append}
use Rattle.std.proofs.Math.ListN.{get_or-append}
use Rattle.std.proofs.Math.Seq.{get_or-append_seam}
use Rattle.std.proofs.lemmas.Bool.{true≢false, cases_lt}
use Rattle.dsa_settings.specs.Plan.{Group, fence_count}
use Rattle.dsa_audit.specs.declared.missing.FencePlace.{FencePlace}
use Rattle.dsa_audit.specs.declared.missing.FencePlace.TheVariants as fence_place
use Rattle.dsa_audit.specs.Audits.{HasFence, IsSeparated, Separates, HasFencesOf, PlaceHolds, IsCorrected}
use Rattle.dsa_audit.specs.Steps.{IsNextPlace, has_fence, epoch_after}
use Rattle.dsa_audit.proofs.Flags.{fence_within, pushed_before, pushed_back, pushed_last, pushed_old, separated_pushed, count_more, count_all, count_true, count_false}

-- the fences so far are no more than those of another group up to the last of them
pub record IsCounted (h : Group) (at epoch : ℕ) (other : Group) : Type 0 where
  pub end : ℕ
  pub within : end ≤ at
  pub up_to : end ≤ suc epoch
  pub counted : fence_count h ≤ fence_count (take end other)

pub record Scanned (C : ℕ → ℕ → Type 0) (g : Group) (at epoch : ℕ) (ms : List FencePlace) (h : Group) : Type 0 where
  pub count : length h ≡ at
  pub places : length ms ≡ at
  pub up_to : epoch ≤ at
  pub starts : 0 < epoch → HasFence h epoch
  pub opened : (k : ℕ) → epoch < k → ¬ HasFence h k
  pub kept : (k : ℕ) → k < at → HasFence g k → HasFence h k
  pub separates : (a b : ℕ) → a < b → b < at → C a b → IsSeparated h a b
  pub least : (other : Group) → HasFencesOf g other → Separates C other → IsCounted h at epoch other
  pub each : (k : ℕ) → k < at → PlaceHolds C g h k (get_or ms k fence_place.NoFence)

place_pushed : (C : ℕ → ℕ → Type 0) (g h : Group) (x : Bool) (k : ℕ) (m : FencePlace) → k < length h → PlaceHolds C g h k m → PlaceHolds C g (h ++ x ∷ []) k m
place_pushed C g h x k fence_place.NoFence lt (given, none) = (given, λ f. none (pushed_old h x k lt f))
place_pushed C g h x k fence_place.Given lt (given, there) = (given, pushed_before h x k there)
place_pushed C g h x k (fence_place.Missing i) lt is =
    record {
      before = is.before;
      conflict = is.conflict;
      unseparated = is.unseparated;
      added = pushed_before h x k is.added;
      alone = λ m after up_to f. is.alone m after up_to (pushed_old h x m (omega arith) f);
    }

each_pushed : (C : ℕ → ℕ → Type 0) (g h : Group) (x : Bool) (at : ℕ) (ms : List FencePlace) (m : FencePlace) → length h ≡ at → length ms ≡ at
    → ((k : ℕ) → k < at → PlaceHolds C g h k (get_or ms k fence_place.NoFence)) → PlaceHolds C g (h ++ x ∷ []) at m
    → (k : ℕ) → k < at + 1 → PlaceHolds C g (h ++ x ∷ []) k (get_or (ms ++ m ∷ []) k fence_place.NoFence)
each_pushed C g h x at ms m count places each last k lt =
    elim (cases_lt k at) [
      | inl below ↦
          subst (PlaceHolds C g (h ++ x ∷ []) k) (sym (get_or-append ms (m ∷ []) fence_place.NoFence k (omega arith)))
          (place_pushed C g h x k (get_or ms k fence_place.NoFence) (omega arith) (each k below))
      | inr above ↦
          let e : length ms ≡ k = omega arith in
          let here : get_or (ms ++ m ∷ []) k fence_place.NoFence ≡ m =
          subst (λ (z : ℕ). get_or (ms ++ m ∷ []) z fence_place.NoFence ≡ m) e (get_or-append_seam ms m [] fence_place.NoFence) in
          let same : at ≡ k = omega arith in
          subst (PlaceHolds C g (h ++ x ∷ []) k) (sym here) (subst (λ (z : ℕ). PlaceHolds C g (h ++ x ∷ []) z m) same last)
    ]

open_next : (C : ℕ → ℕ → Type 0) (g : Group) (at epoch : ℕ) (ms : List FencePlace) (h : Group) → Scanned C g at epoch ms h → at < length g
    → IsNextPlace C g epoch at fence_place.NoFence → Scanned C g (at + 1) epoch (ms ++ fence_place.NoFence ∷ []) (h ++ false ∷ [])
open_next C g at epoch ms h s lt (unfenced, none) =
    record {
      count = omega (arith, s.count, length-append h (false ∷ []));
      places = omega (arith, s.places, length-append ms (fence_place.NoFence ∷ []));
      up_to = omega (arith, s.up_to);
      starts = λ some. pushed_before h false epoch (s.starts some);
      opened = λ k after f.
          elim (pushed_back h false k f) [
            | inl old ↦ s.opened k after old
            | inr (_, e) ↦ true≢false (sym e)
          ];
      kept = λ k below f.
          elim (cases_lt k at) [
            | inl less ↦ pushed_before h false k (s.kept k less f)
            | inr more ↦ let e : k ≡ at = omega arith in absurd (unfenced (subst (HasFence g) e f))
          ];
      separates = λ a b ordered below conflict.
          elim (cases_lt b at) [
            | inl less ↦ separated_pushed h false a b (s.separates a b ordered less conflict)
            | inr more ↦
                let e : b ≡ at = omega arith in
                elim (cases_lt a epoch) [
                  | inl before ↦
                      record {
                        at = epoch;
                        after = before;
                        up_to = omega (arith, s.up_to);
                        fence = pushed_before h false epoch (s.starts (omega arith));
                      }
                  | inr from ↦ absurd (none a from (omega arith) (subst (C a) e conflict))
                ]
          ];
      least = λ other more separates.
          let l = s.least other more separates in
          record {
            end = l.end;
            within = omega (arith, l.within);
            up_to = l.up_to;
            counted = omega (arith, l.counted, count_false h);
          };
      each = each_pushed C g h false at ms fence_place.NoFence s.count s.places s.each (
        unfenced,
        λ f.
            elim (pushed_back h false at f) [
              | inl old ↦ let w : at < length h = fence_within h at old in absurd (omega (arith, s.count))
              | inr (_, e) ↦ true≢false (sym e)
            ],
      );
    }

-- some fence of another group up to `at` is after all counted ones
pub record IsMore (at epoch : ℕ) (other : Group) : Type 0 where
  pub place : ℕ
  pub after : (e : ℕ) → e ≤ at → e ≤ suc epoch → e ≤ place
  pub up_to : place ≤ at
  pub fence : HasFence other place

fenced_next : (C : ℕ → ℕ → Type 0) (g : Group) (at epoch : ℕ) (ms : List FencePlace) (h : Group) (m : FencePlace) → Scanned C g at epoch ms h → at < length g
    → PlaceHolds C g (h ++ true ∷ []) at m → ((other : Group) → HasFencesOf g other → Separates C other → IsMore at epoch other)
    → Scanned C g (at + 1) at (ms ++ m ∷ []) (h ++ true ∷ [])
fenced_next C g at epoch ms h m s lt is more_of =
    record {
      count = omega (arith, s.count, length-append h (true ∷ []));
      places = omega (arith, s.places, length-append ms (m ∷ []));
      up_to = omega arith;
      starts = λ some. pushed_last h at s.count;
      opened = λ k after f.
          elim (pushed_back h true k f) [
            | inl old ↦ let w : k < length h = fence_within h k old in absurd (omega (arith, s.count))
            | inr (e, _) ↦ absurd (omega (arith, s.count))
          ];
      kept = λ k below f.
          elim (cases_lt k at) [
            | inl less ↦ pushed_before h true k (s.kept k less f)
            | inr more ↦ pushed_last h k (omega (arith, s.count))
          ];
      separates = λ a b ordered below conflict.
          elim (cases_lt b at) [
            | inl less ↦ separated_pushed h true a b (s.separates a b ordered less conflict)
            | inr more ↦ record { at = at; after = omega arith; up_to = omega arith; fence = pushed_last h at s.count }
          ];
      least = λ other more separates.
          let l = s.least other more separates in
          let p = more_of other more separates in
          let c : fence_count (take l.end other) + 1 ≤ fence_count (take (at + 1) other) =
          count_more other l.end p.place (at + 1) (p.after l.end l.within l.up_to) (omega (arith, p.up_to)) p.fence in
          record {
            end = at + 1;
            within = omega arith;
            up_to = omega arith;
            counted = omega (arith, l.counted, count_true h);
          };
      each = each_pushed C g h true at ms m s.count s.places s.each is;
    }

pub scanned_next : (C : ℕ → ℕ → Type 0) (g : Group) (at epoch : ℕ) (ms : List FencePlace) (h : Group) (m : FencePlace) → Scanned C g at epoch ms h → at < length g
    → IsNextPlace C g epoch at m → Scanned C g (at + 1) (epoch_after m epoch at) (ms ++ m ∷ []) (h ++ has_fence m ∷ [])
scanned_next C g at epoch ms h fence_place.NoFence s lt is = open_next C g at epoch ms h s lt is
scanned_next C g at epoch ms h fence_place.Given s lt is =
    fenced_next C g at epoch ms h fence_place.Given s lt (is, pushed_last h at s.count)
    (λ other more separates. record {
      place = at;
      after = λ e within up_to. within;
      up_to = omega arith;
      fence = more.fences at is;
    })
scanned_next C g at epoch ms h (fence_place.Missing i) s lt (unfenced, last) =
    fenced_next C g at epoch ms h (fence_place.Missing i) s lt
    (record {
      before = last.ends;
      conflict = last.conflict;
      unseparated = λ k after up_to f.
          elim (cases_lt k at) [
            | inl less ↦ s.opened k (omega (arith, last.begun)) (s.kept k less f)
            | inr more ↦ let e : k ≡ at = omega arith in unfenced (subst (HasFence g) e f)
          ];
      added = pushed_last h at s.count;
      alone = λ k after up_to f. s.opened k (omega (arith, last.begun)) (pushed_old h true k (omega (arith, s.count)) f);
    })
    (λ other more separates.
    let p = separates i at last.ends (omega (arith, more.same_length)) last.conflict in
    record {
      place = p.at;
      after = λ e within up_to. omega (arith, p.after, last.begun);
      up_to = p.up_to;
      fence = p.fence;
    })

pub scanned_none : (C : ℕ → ℕ → Type 0) (g : Group) → Scanned C g 0 0 [] []
scanned_none C g =
    record {
      count = refl;
      places = refl;
      up_to = omega arith;
      starts = λ some. absurd (omega arith);
      opened = λ k after f. true≢false (sym f);
      kept = λ k below f. absurd (omega arith);
      separates = λ a b ordered below conflict. absurd (omega arith);
      least = λ other more separates. record { end = 0; within = omega arith; up_to = omega arith; counted = omega arith };
      each = λ k below. absurd (omega arith);
    }

pub scanned_all : (C : ℕ → ℕ → Type 0) (g : Group) (at epoch : ℕ) (ms : List FencePlace) (h : Group) → Scanned C g at epoch ms h → length g ≡ at → IsCorrected C g ms h
scanned_all C g at epoch ms h s all =
    record {
      more = record {
        same_length = omega (arith, s.count);
        fences = λ k f. s.kept k (let w : k < length g = fence_within g k f in omega arith) f;
      };
      separates = λ a b ordered below conflict. s.separates a b ordered (omega (arith, s.count)) conflict;
      least = λ other more separates.
          let l = s.least other more separates in
          omega (arith, l.counted, count_all other l.end);
      count = omega (arith, s.places);
      each = λ k below. s.each k (omega arith);
    }
