-- The first fence after a member, the last one before one, and the members that a fence guards against or signals by.
use Rattle.std.proofs.Common.{◌≡◌, ℕ, zero, suc, ◌+◌, ◌-◌, ◌<◌, ◌≤◌, ◌⊎◌, inl, inr, Bool, true, false, List, length, get_or, sym, ◌∙◌, subst, arith}
use Rattle.std.proofs.lemmas.Bool.{true≢false, cases_Bool, cases_lt}
use Rattle.dsa_settings.specs.Plan.{Group}
use Rattle.dsa_audit.specs.Audits.{HasFence, IsSeparated, ShareEpoch, KeepsGuards, KeepsSignals, IsGuard, IsFirstGuard, GuardsNone, IsSignal, IsFirstSignal, SignalsNone}
use Rattle.dsa_audit.specs.Steps.{NoneSet, IsFirstSet, IsNextFence, NoneShown, IsFirstShown}

pub record IsFirstAfter (g : Group) (a b : ℕ) : Type 0 where
  pub place : ℕ
  pub after : a < place
  pub up_to : place ≤ b
  pub fence : HasFence g place
  pub open_between : (n : ℕ) → a < n → n < place → ¬ HasFence g n

pub first_after : (g : Group) (a b : ℕ) → IsFirstAfter g a b ⊎ ShareEpoch g a b
first_after g a zero = inr (λ k after up_to f. absurd (omega arith))
first_after g a (suc b) =
    elim (first_after g a b) [
      | inl p ↦ inl (record { place = p.place; after = p.after; up_to = omega (arith, p.up_to); fence = p.fence; open_between = p.open_between })
      | inr share ↦
          elim (cases_Bool (get_or g (suc b) false)) [
            | inl fence ↦
                elim (cases_lt a (suc b)) [
                  | inl less ↦
                      inl (record {
                        place = suc b;
                        after = less;
                        up_to = omega arith;
                        fence = fence;
                        open_between = λ n after before. share n after (omega arith);
                      })
                  | inr more ↦ inr (λ k after up_to f. absurd (omega arith))
                ]
            | inr none ↦
                inr (λ k after up_to f.
                elim (cases_lt k (suc b)) [
                  | inl less ↦ share k after (omega arith) f
                  | inr more ↦ let e : k ≡ suc b = omega arith in let here : get_or g (suc b) false ≡ true = subst (HasFence g) e f in true≢false (sym here ∙ none)
                ])
          ]
    ]

-- a group that has the first fence after each member that can fail abandons the same members
pub keeps_guards : (bs : List Bool) (g h : Group) → ((m k : ℕ) → k < length g → IsGuard bs g k m → HasFence g k → HasFence h k) → KeepsGuards bs g h
keeps_guards bs g h kept m b fails within p =
    elim (first_after g m b) [
      | inl q ↦
          record {
            at = q.place;
            after = q.after;
            up_to = q.up_to;
            fence = kept m q.place (omega (arith, q.up_to)) (record { before = q.after; fails = fails; open_between = q.open_between }) q.fence;
          }
      | inr share ↦ absurd (share p.at p.after p.up_to p.fence)
    ]

-- the last fence before `at` is at `last`, or there is none and `last` is 0
pub record IsLastGiven (g : Group) (at last : ℕ) : Type 0 where
  pub up_to : last ≤ at
  pub below : 0 < last → last < at
  pub starts : 0 < last → HasFence g last
  pub open_after : (k : ℕ) → last < k → k < at → ¬ HasFence g k

pub given_none : (g : Group) → IsLastGiven g 0 0
given_none g =
    record {
      up_to = omega arith;
      below = λ some. absurd (omega arith);
      starts = λ some. absurd (omega arith);
      open_after = λ k after before f. absurd (omega arith);
    }

pub given_here : (g : Group) (at : ℕ) → HasFence g at → IsLastGiven g (at + 1) at
given_here g at fenced =
    record {
      up_to = omega arith;
      below = λ some. omega arith;
      starts = λ some. fenced;
      open_after = λ k after before f. absurd (omega arith);
    }

pub given_before : (g : Group) (at last : ℕ) → IsLastGiven g at last → ¬ HasFence g at → IsLastGiven g (at + 1) last
given_before g at last s none =
    record {
      up_to = omega (arith, s.up_to);
      below = λ some. let l : last < at = s.below some in omega arith;
      starts = s.starts;
      open_after = λ k after before f.
          elim (cases_lt k at) [
            | inl less ↦ s.open_after k after less f
            | inr more ↦ let e : k ≡ at = omega arith in none (subst (HasFence g) e f)
          ];
    }

-- what is before the last fence, that guards for no later one
not_before : (bs : List Bool) (g : Group) (at last m : ℕ) → IsLastGiven g at last → m < last → ¬ IsGuard bs g at m
not_before bs g at last m s early is =
    let some : 0 < last = omega arith in
    is.open_between last early (s.below some) (s.starts some)

pub none_guards : (bs : List Bool) (g : Group) (at last : ℕ) → IsLastGiven g at last → NoneSet bs last at → GuardsNone bs g at
none_guards bs g at last s none m is =
    elim (cases_lt m last) [
      | inl early ↦ not_before bs g at last m s early is
      | inr from ↦ none m from is.before is.fails
    ]

pub first_guards : (bs : List Bool) (g : Group) (at last m : ℕ) → IsLastGiven g at last → IsFirstSet bs last at m → IsFirstGuard bs g at m
first_guards bs g at last m s is =
    record {
      guard = record {
        before = is.ends;
        fails = is.here;
        open_between = λ n after before. s.open_after n (omega (arith, is.begun)) before;
      };
      first = λ n before other.
          elim (cases_lt n last) [
            | inl early ↦ not_before bs g at last n s early other
            | inr from ↦ is.first n from before other.fails
          ];
    }

-- whatever abandons the same members has the fence itself, of those given
pub guard_stays : (bs : List Bool) (g other : Group) (at m : ℕ) → ((k : ℕ) → HasFence other k → HasFence g k) → HasFence g at → IsGuard bs g at m → IsSeparated other m at → HasFence other at
guard_stays bs g other at m less fenced is p =
    elim (cases_lt p.at at) [
      | inl early ↦ absurd (is.open_between p.at p.after early (less p.at p.fence))
      | inr from ↦ let e : p.at ≡ at = omega (arith, p.up_to) in subst (HasFence other) e p.fence
    ]

-- ---- signals

pub record IsLastUpTo (g : Group) (a b : ℕ) : Type 0 where
  pub place : ℕ
  pub after : a < place
  pub up_to : place ≤ b
  pub fence : HasFence g place
  pub open_after : ShareEpoch g place b

pub last_up_to : (g : Group) (a b : ℕ) → IsLastUpTo g a b ⊎ ShareEpoch g a b
last_up_to g a zero = inr (λ k after up_to f. absurd (omega arith))
last_up_to g a (suc b) =
    elim (cases_Bool (get_or g (suc b) false)) [
      | inl fence ↦
          elim (cases_lt a (suc b)) [
            | inl less ↦
                inl (record {
                  place = suc b;
                  after = less;
                  up_to = omega arith;
                  fence = fence;
                  open_after = λ k after up_to f. absurd (omega arith);
                })
            | inr more ↦ inr (λ k after up_to f. absurd (omega arith))
          ]
      | inr none ↦
          let unfenced : (k : ℕ) → k ≡ suc b → ¬ HasFence g k =
          λ k e f. let here : get_or g (suc b) false ≡ true = subst (HasFence g) e f in true≢false (sym here ∙ none) in
          elim (last_up_to g a b) [
            | inl p ↦
                inl (record {
                  place = p.place;
                  after = p.after;
                  up_to = omega (arith, p.up_to);
                  fence = p.fence;
                  open_after = λ k after up_to f.
                      elim (cases_lt k (suc b)) [
                        | inl less ↦ p.open_after k after (omega arith) f
                        | inr more ↦ unfenced k (omega arith) f
                      ];
                })
            | inr share ↦
                inr (λ k after up_to f.
                elim (cases_lt k (suc b)) [
                  | inl less ↦ share k after (omega arith) f
                  | inr more ↦ unfenced k (omega arith) f
                ])
          ]
    ]

-- a group that has the last fence before each member that shows keeps what these wait for
pub keeps_signals : (vs : List Bool) (g h : Group) → ((k j : ℕ) → k < length g → IsSignal vs g k j → HasFence g k → HasFence h k) → KeepsSignals vs g h
keeps_signals vs g h kept a b shows within p =
    elim (last_up_to g a b) [
      | inl q ↦
          record {
            at = q.place;
            after = q.after;
            up_to = q.up_to;
            fence = kept q.place b (omega (arith, q.up_to)) (record {
              later = omega (arith, q.after);
              from = q.up_to;
              within = within;
              shows = shows;
              open_between = q.open_after;
            }) q.fence;
          }
      | inr share ↦ absurd (share p.at p.after p.up_to p.fence)
    ]

-- what is after the next fence shows nothing by this one
not_after : (vs : List Bool) (g : Group) (at end j : ℕ) → IsNextFence g at end → end ≤ j → ¬ IsSignal vs g at j
not_after vs g at end j next le is = is.open_between end next.after le (next.closed (omega (arith, is.within)))

pub none_signals : (vs : List Bool) (g : Group) (at end : ℕ) → IsNextFence g at end → NoneShown vs at end → SignalsNone vs g at
none_signals vs g at end next none j is =
    elim (cases_lt j end) [
      | inl before ↦ none is.later j is.from before is.shows
      | inr after ↦ not_after vs g at end j next after is
    ]

pub first_signals : (vs : List Bool) (g : Group) (at end j : ℕ) → IsNextFence g at end → IsFirstShown vs at end j → IsFirstSignal vs g at j
first_signals vs g at end j next (later, is) =
    record {
      signal = record {
        later = later;
        from = is.begun;
        within = omega (arith, is.ends, next.within);
        shows = is.here;
        open_between = λ k after up_to. next.open_between k after (omega (arith, up_to, is.ends));
      };
      first = λ n before other. is.first n other.from before other.shows;
    }

-- whatever keeps what members that show wait for has the fence itself, of those given
pub signal_stays : (vs : List Bool) (g other : Group) (at j : ℕ) → ((k : ℕ) → HasFence other k → HasFence g k) → HasFence g at → IsSignal vs g at j → KeepsSignals vs g other → HasFence other at
signal_stays vs g other at j less fenced is keeps =
    let below : at - 1 < at = omega (arith, is.later) in
    let p = keeps (at - 1) j is.shows is.within (record { at = at; after = below; up_to = is.from; fence = fenced }) in
    elim (cases_lt at p.at) [
      | inl after ↦ absurd (is.open_between p.at after p.up_to (less p.at p.fence))
      | inr up_to ↦ let e : p.at ≡ at = omega (arith, p.after, is.later) in subst (HasFence other) e p.fence
    ]
