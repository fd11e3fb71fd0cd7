-- A caller that goes by the tracker heeds all waits.
use Rattle.std.proofs.Common.{◌≡◌, ℕ, ◌+◌, ◌<◌, ◌⊎◌, inl, inr, Bool, true, false, IsTrue, List, [], ◌∷◌, slice_set, if◌then◌else◌, refl, sym, ap, ◌∙◌, subst, arith}
use Rattle.std.specs.Prelude.{nat_lt}
use Rattle.std.proofs.lemmas.Bool.{cases_eq}
use Rattle.std.proofs.lemmas.Bool.Decides.{eqb_tells, nat_tests}
use Rattle.dsa_image.specs.Memory.{Memory}
use Rattle.dsa_core.specs.Machine.{Machine}
use Rattle.dsa_core.specs.Run.{Setup, State}
use Rattle.dsa_core.specs.declared.event.Event.{Event}
use Rattle.dsa_flight.specs.Flight.{HasEnded, FlightStep, WaitsCover, AllFitting}
use Rattle.dsa_flight.specs.Laws.{EndsInTurn}
use Rattle.dsa_flight.specs.Caller.{Session, Act, with, SubmitsNext, Rings, Retires, Works, Does, DoesAll, open_session, MeetsCover, TrackedEndsInTurn}
use Rattle.dsa_flight.specs.Caller.Act.{Submit, Ring, Retire, Work}
use Rattle.dsa_flight.proofs.InTurn.{IsKept, start_kept, still_ended, step_kept, kept_ends}

not_both_values : (b : Bool) → b ≡ true → b ≡ false → ⊥
not_both_values b t f = let wrong : true ≡ false = sym t ∙ f in cc

true_or_false : (b : Bool) → (b ≡ true) ⊎ (b ≡ false)
true_or_false true = inl refl
true_or_false false = inr refl

-- both are true
abbrev both : Bool → Bool → Bool
both true b = b
both false b = false

both_true : (a b : Bool) → a ≡ true → b ≡ true → both a b ≡ true
both_true true b p q = q
both_true false b p q = p

first_true : (a b : Bool) → both a b ≡ true → a ≡ true
first_true true b h = refl
first_true false b h = h

second_true : (a b : Bool) → both a b ≡ true → b ≡ true
second_true true b h = h
second_true false b h = let wrong : false ≡ true = h in absurd cc

is_less : (x y : ℕ) → nat_lt x y ≡ true → x < y
is_less x y h = grind (arith, nat_tests)

less_is : (x y : ℕ) → x < y → nat_lt x y ≡ true
less_is x y h = grind (arith, nat_tests)

-- the changed value, and the others
pub with_same : (f : ℕ → Bool) (n : ℕ) (b : Bool) → with f n b n ≡ b
with_same f n b =
    elim (eqb_tells n n) [
      | inl (e, same) ↦ ap (λ t. if t then b else f n) e
      | inr (e, ne) ↦ absurd (ne refl)
    ]

pub with_other : (f : ℕ → Bool) (n x : ℕ) (b : Bool) → (x ≡ n → ⊥) → with f n b x ≡ f x
with_other f n x b ne =
    elim (eqb_tells x n) [
      | inl (e, same) ↦ absurd (ne same)
      | inr (e, other) ↦ ap (λ t. if t then b else f x) e
    ]

module _ {D P : Type 0} (machine : Machine D P) (subs : List (Setup D)) (meets : ℕ → ℕ → Bool) (m : Memory) (fits : AllFitting machine subs m) (cover : MeetsCover machine subs meets) where
  -- it is retired, and was never rung
  record Gone (s : Session P) (x : ℕ) : Type 0 where
    known : x < s.tracking.submitted
    retired : s.tracking.outstanding x ≡ false
    not_rung : s.tracking.rung x ≡ false

  gone_stays : (s new : Session P) (act : Act) (x : ℕ) → Does machine subs meets s act new → Gone s x → Gone new x
  gone_stays s new Submit x does gone =
      let ne : x ≡ s.tracking.submitted → ⊥ = λ e. let lt = gone.known in omega (arith, lt, e) in
      subst (λ o. Gone o x) (sym does)
      (record { known = let lt = gone.known in omega (arith, lt); retired = with_other s.tracking.outstanding s.tracking.submitted x true ne ∙ gone.retired; not_rung = gone.not_rung })
  gone_stays s new (Ring y) x does gone =
      let ne : x ≡ y → ⊥ = λ e. not_both_values (s.tracking.outstanding x) (subst (λ z. s.tracking.outstanding z ≡ true) (sym e) does.is_outstanding) gone.retired in
      subst (λ o. Gone o x) (sym does.after)
      (record { known = gone.known; retired = gone.retired; not_rung = with_other s.tracking.rung y x true ne ∙ gone.not_rung })
  gone_stays s new (Retire z) x does gone =
      subst (λ o. Gone o x) (sym does.after)
      (record { known = gone.known; retired = still; not_rung = gone.not_rung })
    where
      still : with s.tracking.outstanding z false x ≡ false
      still = elim (cases_eq x z) [ inl e ↦ ap (λ n. with s.tracking.outstanding z false n) e ∙ with_same s.tracking.outstanding z false | inr ne ↦ with_other s.tracking.outstanding z x false ne ∙ gone.retired ]
  gone_stays s new (Work y v) x does gone =
      subst (λ o. Gone o x) (sym does.after) (record { known = gone.known; retired = gone.retired; not_rung = gone.not_rung })

  rung_stays : (s new : Session P) (act : Act) (y : ℕ) → Does machine subs meets s act new → IsTrue (s.tracking.rung y) → IsTrue (new.tracking.rung y)
  rung_stays s new Submit y does rung = subst (λ o. IsTrue (o.tracking.rung y)) (sym does) rung
  rung_stays s new (Ring z) y does rung = subst (λ o. IsTrue (o.tracking.rung y)) (sym does.after) still
    where
      still : with s.tracking.rung z true y ≡ true
      still = elim (cases_eq y z) [ inl e ↦ ap (λ n. with s.tracking.rung z true n) e ∙ with_same s.tracking.rung z true | inr ne ↦ with_other s.tracking.rung z y true ne ∙ rung ]
  rung_stays s new (Retire z) y does rung = subst (λ o. IsTrue (o.tracking.rung y)) (sym does.after) rung
  rung_stays s new (Work z v) y does rung = subst (λ o. IsTrue (o.tracking.rung y)) (sym does.after) rung

  module _ (t : Session P) where
    gone_at_end : (acts : List Act) (s : Session P) (x : ℕ) → DoesAll machine subs meets s acts t → Gone s x → t.tracking.rung x ≡ false
    gone_at_end [] s x does gone = subst (λ o. o.tracking.rung x ≡ false) (sym does) gone.not_rung
    gone_at_end (act ∷ acts) s x does gone = gone_at_end acts does.0 x does.2 (gone_stays s does.0 act x does.1 gone)

    rung_at_end : (acts : List Act) (s : Session P) (y : ℕ) → DoesAll machine subs meets s acts t → IsTrue (s.tracking.rung y) → IsTrue (t.tracking.rung y)
    rung_at_end [] s y does rung = subst (λ o. IsTrue (o.tracking.rung y)) (sym does) rung
    rung_at_end (act ∷ acts) s y does rung = rung_at_end acts does.0 y does.2 (rung_stays s does.0 act y does.1 rung)

    -- those that are rung some time go, and wait for those that conflict, are earlier, and go
    abbrev goes : ℕ → Bool
    goes = t.tracking.rung

    abbrev waits : ℕ → ℕ → Bool
    waits x y = both (meets x y) (both (nat_lt x y) (t.tracking.rung x))

    waits_cover : WaitsCover machine subs goes waits
    waits_cover x y a b lt going is_a is_b conflict = both_true (meets x y) (both (nat_lt x y) (t.tracking.rung x)) (cover x y a b lt is_a is_b conflict) (both_true (nat_lt x y) (t.tracking.rung x) (less_is x y lt) going)

    -- what every moment keeps
    record Inv (s : Session P) : Type 0 where
      kept : IsKept machine subs goes waits m s.flight
      known : (x : ℕ) → s.tracking.outstanding x ≡ true → x < s.tracking.submitted
      retired : (x : ℕ) → x < s.tracking.submitted → s.tracking.outstanding x ≡ false → HasEnded subs s.flight x ⊎ (s.tracking.rung x ≡ false)
      heeded : (x y : ℕ) → x < y → meets x y ≡ true → s.tracking.rung y ≡ true → HasEnded subs s.flight x ⊎ Gone s x

    start_inv : Inv (open_session machine subs m)
    start_inv =
        record {
          kept = start_kept machine subs goes waits m fits waits_cover;
          known = λ x o. let wrong : false ≡ true = o in absurd cc;
          retired = λ x lt o. absurd (omega (arith, lt));
          heeded = λ x y lt meet rung. let wrong : false ≡ true = rung in absurd cc;
        }

    submit_inv : (s new : Session P) → Inv s → SubmitsNext s new → Inv new
    submit_inv s new inv does = subst (λ o. Inv o) (sym does) (record { kept = inv.kept; known = known; retired = retired; heeded = heeded })
      where
        known : (x : ℕ) → with s.tracking.outstanding s.tracking.submitted true x ≡ true → x < s.tracking.submitted + 1
        known x o =
            elim (cases_eq x s.tracking.submitted) [
              | inl e ↦ omega (arith, e)
              | inr ne ↦ let lt = inv.known x (sym (with_other s.tracking.outstanding s.tracking.submitted x true ne) ∙ o) in omega (arith, lt)
            ]

        retired : (x : ℕ) → x < s.tracking.submitted + 1 → with s.tracking.outstanding s.tracking.submitted true x ≡ false → HasEnded subs s.flight x ⊎ (s.tracking.rung x ≡ false)
        retired x lt o =
            elim (cases_eq x s.tracking.submitted) [
              | inl e ↦ absurd (not_both_values (with s.tracking.outstanding s.tracking.submitted true x) (ap (λ z. with s.tracking.outstanding s.tracking.submitted true z) e ∙ with_same s.tracking.outstanding s.tracking.submitted true) o)
              | inr ne ↦ inv.retired x (omega (arith, lt, ne)) (sym (with_other s.tracking.outstanding s.tracking.submitted x true ne) ∙ o)
            ]

        heeded :
            (x y : ℕ) → x < y → meets x y ≡ true → s.tracking.rung y ≡ true →
            HasEnded subs s.flight x ⊎ Gone (record { tracking = record { submitted = s.tracking.submitted + 1; outstanding = with s.tracking.outstanding s.tracking.submitted true; rung = s.tracking.rung }; flight = s.flight }) x
        heeded x y lt meet rung = elim (inv.heeded x y lt meet rung) [ inl ended ↦ inl ended | inr gone ↦ inr (gone_stays s _ Submit x refl gone) ]

    abbrev after_ring : Session P → ℕ → Session P
    after_ring s z = record s { tracking = record { submitted = s.tracking.submitted; outstanding = s.tracking.outstanding; rung = with s.tracking.rung z true } }

    abbrev after_retire : Session P → ℕ → Session P
    after_retire s z = record s { tracking = record { submitted = s.tracking.submitted; outstanding = with s.tracking.outstanding z false; rung = s.tracking.rung } }

    abbrev after_work : Session P → ℕ → State P → Session P
    after_work s y stepped = record s { flight = record { memory = stepped.memory; lanes = slice_set s.flight.lanes y stepped.progress } }

    ring_inv : (s new : Session P) (z : ℕ) → Inv s → Rings meets s z new → Inv new
    ring_inv s new z inv does = subst (λ o. Inv o) (sym does.after) (record { kept = inv.kept; known = inv.known; retired = retired; heeded = heeded })
      where
        apart : (x : ℕ) → s.tracking.outstanding x ≡ false → x ≡ z → ⊥
        apart x o e = not_both_values (s.tracking.outstanding x) (subst (λ k. s.tracking.outstanding k ≡ true) (sym e) does.is_outstanding) o

        retired : (x : ℕ) → x < s.tracking.submitted → s.tracking.outstanding x ≡ false → HasEnded subs s.flight x ⊎ (with s.tracking.rung z true x ≡ false)
        retired x lt o =
            elim (inv.retired x lt o) [
              | inl ended ↦ inl ended
              | inr not_rung ↦ inr (with_other s.tracking.rung z x true (apart x o) ∙ not_rung)
            ]

        stays : (x : ℕ) → Gone s x → Gone (after_ring s z) x
        stays x gone = gone_stays s (after_ring s z) (Ring z) x (record { is_outstanding = does.is_outstanding; not_rung = does.not_rung; is_ready = does.is_ready; after = refl }) gone

        of_ready : (x : ℕ) → x < z → meets x z ≡ true → HasEnded subs s.flight x ⊎ Gone (after_ring s z) x
        of_ready x lt meet =
            elim (true_or_false (s.tracking.outstanding x)) [
              | inl o ↦ absurd (not_both_values (meets x z) meet (does.is_ready x lt o))
              | inr o ↦
                  let z_known = inv.known z does.is_outstanding in
                  let x_known : x < s.tracking.submitted = omega (arith, lt, z_known) in
                  elim (inv.retired x x_known o) [
                    | inl ended ↦ inl ended
                    | inr not_rung ↦ inr (stays x (record { known = x_known; retired = o; not_rung = not_rung }))
                  ]
            ]

        heeded : (x y : ℕ) → x < y → meets x y ≡ true → with s.tracking.rung z true y ≡ true → HasEnded subs s.flight x ⊎ Gone (after_ring s z) x
        heeded x y lt meet rung =
            elim (cases_eq y z) [
              | inl e ↦ of_ready x (subst (λ k. x < k) e lt) (subst (λ k. meets x k ≡ true) e meet)
              | inr ne ↦
                  elim (inv.heeded x y lt meet (sym (with_other s.tracking.rung z y true ne) ∙ rung)) [
                    | inl ended ↦ inl ended
                    | inr gone ↦ inr (stays x gone)
                  ]
            ]

    retire_inv : (s new : Session P) (z : ℕ) → Inv s → Retires subs s z new → Inv new
    retire_inv s new z inv does = subst (λ o. Inv o) (sym does.after) (record { kept = inv.kept; known = known; retired = retired; heeded = heeded })
      where
        known : (x : ℕ) → with s.tracking.outstanding z false x ≡ true → x < s.tracking.submitted
        known x o =
            elim (cases_eq x z) [
              | inl e ↦ absurd (not_both_values (with s.tracking.outstanding z false x) o (ap (λ k. with s.tracking.outstanding z false k) e ∙ with_same s.tracking.outstanding z false))
              | inr ne ↦ inv.known x (sym (with_other s.tracking.outstanding z x false ne) ∙ o)
            ]

        retired : (x : ℕ) → x < s.tracking.submitted → with s.tracking.outstanding z false x ≡ false → HasEnded subs s.flight x ⊎ (s.tracking.rung x ≡ false)
        retired x lt o =
            elim (cases_eq x z) [
              | inl e ↦ subst (λ k. HasEnded subs s.flight k ⊎ (s.tracking.rung k ≡ false)) (sym e) does.honest
              | inr ne ↦ inv.retired x lt (sym (with_other s.tracking.outstanding z x false ne) ∙ o)
            ]

        heeded : (x y : ℕ) → x < y → meets x y ≡ true → s.tracking.rung y ≡ true → HasEnded subs s.flight x ⊎ Gone (after_retire s z) x
        heeded x y lt meet rung =
            elim (inv.heeded x y lt meet rung) [
              | inl ended ↦ inl ended
              | inr gone ↦ inr (gone_stays s (after_retire s z) (Retire z) x (record { is_outstanding = does.is_outstanding; honest = does.honest; after = refl }) gone)
            ]

    work_inv : (s new : Session P) (y : ℕ) (v : Event) (acts : List Act) → Inv s → Works machine subs s y v new → DoesAll machine subs meets s (Work y v ∷ acts) t → Inv new
    work_inv s new y v acts inv does rest =
        subst (λ o. Inv o) (sym does.after)
        (record {
          kept = step_kept machine subs goes waits m fits waits_cover s.flight (after_work s y does.stepped).flight y v inv.kept step;
          known = inv.known;
          retired = λ x lt o. elim (inv.retired x lt o) [ inl ended ↦ inl (stays x ended) | inr not_rung ↦ inr not_rung ];
          heeded = λ x z lt meet rung. elim (inv.heeded x z lt meet rung) [
            | inl ended ↦ inl (stays x ended)
            | inr gone ↦ inr (record { known = gone.known; retired = gone.retired; not_rung = gone.not_rung })
          ];
        })
      where
        heeds : (x : ℕ) → waits x y ≡ true → HasEnded subs s.flight x
        heeds x w =
            let more = second_true (meets x y) (both (nat_lt x y) (t.tracking.rung x)) w in
            let lt = is_less x y (first_true (nat_lt x y) (t.tracking.rung x) more) in
            let going = second_true (nat_lt x y) (t.tracking.rung x) more in
            elim (inv.heeded x y lt (first_true (meets x y) (both (nat_lt x y) (t.tracking.rung x)) w) does.is_rung) [
              | inl ended ↦ ended
              | inr gone ↦ absurd (not_both_values (t.tracking.rung x) going (gone_at_end (Work y v ∷ acts) s x rest gone))
            ]

        step : FlightStep machine subs goes waits s.flight y v (after_work s y does.stepped).flight
        step =
            record {
              not_withdrawn = rung_at_end (Work y v ∷ acts) s y rest does.is_rung;
              setup = does.setup;
              is_sub = does.is_sub;
              lane = does.lane;
              is_lane = does.is_lane;
              stepped = does.stepped;
              step = does.step;
              heeds = heeds;
              after = refl;
            }

        stays : (x : ℕ) → HasEnded subs s.flight x → HasEnded subs (after_work s y does.stepped).flight x
        stays x ended = still_ended machine subs goes waits m fits waits_cover s.flight (after_work s y does.stepped).flight x y v inv.kept step ended

    does_inv : (s new : Session P) (act : Act) (acts : List Act) → Inv s → Does machine subs meets s act new → DoesAll machine subs meets s (act ∷ acts) t → Inv new
    does_inv s new Submit acts inv does rest = submit_inv s new inv does
    does_inv s new (Ring z) acts inv does rest = ring_inv s new z inv does
    does_inv s new (Retire z) acts inv does rest = retire_inv s new z inv does
    does_inv s new (Work y v) acts inv does rest = work_inv s new y v acts inv does rest

    all_inv : (acts : List Act) (s : Session P) → Inv s → DoesAll machine subs meets s acts t → Inv t
    all_inv [] s inv does = subst (λ o. Inv o) (sym does) inv
    all_inv (act ∷ acts) s inv does = all_inv acts does.0 (does_inv s does.0 act acts inv does.1 does) does.2

    tracked_ends : (acts : List Act) → DoesAll machine subs meets (open_session machine subs m) acts t → ((x : ℕ) → IsTrue (t.tracking.rung x) → HasEnded subs t.flight x) → EndsInTurn machine t.tracking.rung subs t.flight.lanes m t.flight.memory
    tracked_ends acts does ended =
        kept_ends machine subs goes waits m fits waits_cover t.flight (all_inv acts (open_session machine subs m) start_inv does).kept (λ x a is_a going. ended x going)

pub tracked_ends_in_turn : {D P : Type 0} (machine : Machine D P) → TrackedEndsInTurn machine
tracked_ends_in_turn machine subs meets m acts s fits cover does ended = tracked_ends machine subs meets m fits cover s acts does ended
