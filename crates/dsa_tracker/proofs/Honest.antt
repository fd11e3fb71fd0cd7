-- A caller that goes by the tracker is one that the laws of flights speak of.
use Rattle.std.proofs.Common.{◌≡◌, ℕ, ◌+◌, ◌<◌, inl, inr, Bool, true, false, List, [], ◌∷◌, Option, Some, None, length, slice_get, slice_set, if◌then◌else◌, refl, sym, ap, ◌∙◌, subst, arith}
use Rattle.std.specs.Prelude.{flat_map}
use Rattle.std.proofs.lemmas.Bool.{cases_eq}
use Rattle.std.proofs.lemmas.Bool.Decides.{eqb_tells}
use Rattle.std.proofs.lemmas.Option.{same_Some, slice_get_within}
use Rattle.dsa_descriptor.specs.declared.span.Span.{Span}
use Rattle.dsa_ranges.specs.Ranges.{SpansConflict}
use Rattle.dsa_image.specs.Memory.{Memory}
use Rattle.dsa_core.specs.Machine.{Machine}
use Rattle.dsa_core.specs.Run.{Setup}
use Rattle.dsa_flight.specs.Caller as caller
use Rattle.dsa_flight.specs.Caller.{Tracking, Session, with, MeetsCover}
use Rattle.dsa_flight.specs.Spans.{SpansTell}
use Rattle.dsa_flight.proofs.Caller.{tracked_ends_in_turn, with_same, with_other}
use Rattle.dsa_tracker.specs.declared.slots.Slots.{Slots}
use Rattle.dsa_tracker.specs.declared.submitted.Submitted.{Submitted}
use Rattle.dsa_tracker.specs.Calls.{Releases}
use Rattle.dsa_tracker.specs.Honest.{Moment, Act, with_number, Covers, SubmitsNext, DoesAll, TrackerEndsInTurn}
use Rattle.dsa_tracker.specs.Honest.Act.{Submit, Ring, Complete, Withdraw, Work}
use Rattle.dsa_tracker.specs.Sets.{Has}
use Rattle.dsa_tracker.specs.Table.{Outstanding, Table, IsHeld, IsReady}
use Rattle.dsa_tracker.proofs.Deciding.{Decided, spans_conflict}
use Rattle.dsa_tracker.proofs.Lists.{set_same, set_other, element}
use Rattle.dsa_tracker.proofs.Tables.{one_way}

number_same : (f : ℕ → ℕ) (slot n : ℕ) → with_number f slot n slot ≡ n
number_same f slot n =
    elim (eqb_tells slot slot) [
      | inl (e, same) ↦ ap (λ (t : Bool). if t then n else f slot) e
      | inr (e, ne) ↦ absurd (ne refl)
    ]

number_other : (f : ℕ → ℕ) (slot n s : ℕ) → (s ≡ slot → ⊥) → with_number f slot n s ≡ f s
number_other f slot n s ne =
    elim (eqb_tells s slot) [
      | inl (e, same) ↦ absurd (ne same)
      | inr (e, other) ↦ ap (λ (t : Bool). if t then n else f s) e
    ]

both_values : (b : Bool) → b ≡ true → b ≡ false → ⊥
both_values b t f = let wrong : true ≡ false = sym t ∙ f in cc

-- a conflict of what pieces read and write is one of what they are said to
covered :
    (reads writes reads' writes' said_reads said_writes said_reads' said_writes' : List Span) →
    Covers reads writes said_reads said_writes → Covers reads' writes' said_reads' said_writes' →
    SpansConflict reads writes reads' writes' → SpansConflict said_reads said_writes said_reads' said_writes'
covered reads writes reads' writes' said_reads said_writes said_reads' said_writes' one two (inl (a, w, t)) = inl (a, one.1 a w, elim t [ inl r ↦ two.0 a r | inr x ↦ inr (two.1 a x) ])
covered reads writes reads' writes' said_reads said_writes said_reads' said_writes' one two (inr (a, w, t)) = inr (a, two.1 a w, elim t [ inl r ↦ one.0 a r | inr x ↦ inr (one.1 a x) ])

-- the truth value of what is decided
truth : {A : Type 0} → Decided A → Bool
truth (inl holds) = true
truth (inr fails) = false

truth_true : {A : Type 0} (d : Decided A) → A → truth d ≡ true
unfolding truth
truth_true (inl holds) h = refl
truth_true (inr fails) h = absurd (fails h)

truth_false : {A : Type 0} (d : Decided A) → (A → ⊥) → truth d ≡ false
unfolding truth
truth_false (inl holds) h = absurd (h holds)
truth_false (inr fails) h = refl

module _ {D P : Type 0} (machine : Machine D P) (r w : D → List Span) (tells : SpansTell machine r w) (subs : List (Setup D)) (m : Memory) where
  -- whether what two submissions read and write conflicts
  conflict_of : (a b : Setup D) → Decided (SpansConflict (flat_map r a.pieces) (flat_map w a.pieces) (flat_map r b.pieces) (flat_map w b.pieces))
  conflict_of a b = spans_conflict (flat_map r a.pieces) (flat_map w a.pieces) (flat_map r b.pieces) (flat_map w b.pieces)

  meet_at : Option (Setup D) → Option (Setup D) → Bool
  meet_at (Some a) (Some b) = truth (conflict_of a b)
  meet_at (Some a) None = false
  meet_at None b = false

  meets : ℕ → ℕ → Bool
  meets x y = meet_at (slice_get subs x) (slice_get subs y)

  meets_at : (x y : ℕ) (a b : Setup D) → slice_get subs x ≡ Some a → slice_get subs y ≡ Some b → meets x y ≡ truth (conflict_of a b)
  unfolding meets meet_at
  meets_at x y a b is_a is_b = ap (λ (o : Option (Setup D)). meet_at o (slice_get subs y)) is_a ∙ ap (λ (o : Option (Setup D)). meet_at (Some a) o) is_b

  cover : MeetsCover machine subs meets
  cover x y a b lt is_a is_b conflict = meets_at x y a b is_a is_b ∙ truth_true (conflict_of a b) ((tells a b).0 conflict)

  -- two submissions do not meet if their spans don't conflict, or one of them is none of the submissions
  apart : (x y : ℕ) → ((a b : Setup D) → slice_get subs x ≡ Some a → slice_get subs y ≡ Some b → SpansConflict (flat_map r a.pieces) (flat_map w a.pieces) (flat_map r b.pieces) (flat_map w b.pieces) → ⊥) → meets x y ≡ false
  unfolding meets meet_at
  apart x y none = by (slice_get subs x) (slice_get subs y) refl refl
    where
      by : (o q : Option (Setup D)) → slice_get subs x ≡ o → slice_get subs y ≡ q → meet_at (slice_get subs x) (slice_get subs y) ≡ false
      by (Some a) (Some b) is_a is_b = ap (λ (o : Option (Setup D)). meet_at o (slice_get subs y)) is_a ∙ ap (λ (o : Option (Setup D)). meet_at (Some a) o) is_b ∙ truth_false (conflict_of a b) (none a b is_a is_b)
      by (Some a) None is_a is_b = ap (λ (o : Option (Setup D)). meet_at o (slice_get subs y)) is_a ∙ ap (λ (o : Option (Setup D)). meet_at (Some a) o) is_b
      by None q is_a is_b = ap (λ (o : Option (Setup D)). meet_at o (slice_get subs y)) is_a

  -- the moment as the laws of flights see it
  abbrev seen : (ℕ → Bool) → Moment P → Session P
  seen out s = record { tracking = record { submitted = s.submitted; outstanding = out; rung = s.rung }; flight = s.flight }

  abbrev HeldAs : Moment P → ℕ → Outstanding → Type 0
  HeldAs s k o = slice_get s.table.slots k ≡ Some (Some o)

  -- the table has just the outstanding submissions, each in one slot with what it reads and writes, and each waits for the
  -- earlier ones that it conflicts with
  record Sim (out : ℕ → Bool) (s : Moment P) : Type 0 where
    of_out : (x : ℕ) → out x ≡ true → (k : ℕ) × IsHeld s.table.slots k × (s.number k ≡ x)
    of_held : (k : ℕ) → IsHeld s.table.slots k → (out (s.number k) ≡ true) × (s.number k < s.submitted)
    one_slot : (k l : ℕ) → IsHeld s.table.slots k → IsHeld s.table.slots l → s.number k ≡ s.number l → k ≡ l
    covers : (k : ℕ) (o : Outstanding) (a : Setup D) → HeldAs s k o → slice_get subs (s.number k) ≡ Some a → Covers (flat_map r a.pieces) (flat_map w a.pieces) o.reads o.writes
    waits :
        (k l : ℕ) (o q : Outstanding) → HeldAs s k o → HeldAs s l q → s.number k < s.number l →
        SpansConflict o.reads o.writes q.reads q.writes → Has q.waits k

  start_sim : (s : Moment P) → ((k : ℕ) → IsHeld s.table.slots k → ⊥) → Sim (λ x. false) s
  start_sim s none =
      record {
        of_out = λ x is. let wrong : false ≡ true = is in absurd cc;
        of_held = λ k held. absurd (none k held);
        one_slot = λ k l held. absurd (none k held);
        covers = λ k o a is. absurd (none k (o, is));
        waits = λ k l o q is. absurd (none k (o, is));
      }

  -- ---- a submission
  module _ (out : ℕ → Bool) (s : Moment P) (reads writes : List Span) (also : Slots) (submitted : Submitted) (new : Moment P) (sim : Sim out s) (does : SubmitsNext r w subs s reads writes also submitted new) where
    abbrev slot : ℕ
    slot = submitted.slot

    abbrev taken : Outstanding
    taken = does.call.taken

    abbrev after_submit : Moment P
    after_submit =
        record {
          table = does.table;
          submitted = s.submitted + 1;
          number = with_number s.number submitted.slot s.submitted;
          rung = s.rung;
          flight = s.flight;
        }

    slots_are : does.table.slots ≡ slice_set s.table.slots slot (Some taken)
    slots_are = ap (λ (t : Table). t.slots) does.call.after

    here : HeldAs after_submit slot taken
    here = ap (λ xs. slice_get xs slot) slots_are ∙ set_same s.table.slots slot None (Some taken) does.call.slot.0

    there : (k : ℕ) → (k ≡ slot → ⊥) → slice_get does.table.slots k ≡ slice_get s.table.slots k
    there k ne = ap (λ xs. slice_get xs k) slots_are ∙ set_other s.table.slots slot k (Some taken) ne

    was_free : (k : ℕ) (o : Outstanding) → HeldAs s k o → k ≡ slot → ⊥
    was_free k o held e =
        let wrong : ◌≡◌ {A = Option (Option Outstanding)} (Some None) (Some (Some o)) = sym does.call.slot.0 ∙ ap (λ n. slice_get s.table.slots n) (sym e) ∙ held in
        cc

    only : (o : Outstanding) → HeldAs after_submit slot o → taken ≡ o
    only o held = same_Some taken o (same_Some (Some taken) (Some o) (sym here ∙ held))

    abbrev out' : ℕ → Bool
    out' = with out s.submitted true

    submit_sim : Sim out' after_submit
    submit_sim = record { of_out = of_out; of_held = of_held; one_slot = one_slot; covers = covers; waits = waits }
      where
        of_out : (x : ℕ) → out' x ≡ true → (k : ℕ) × IsHeld does.table.slots k × (with_number s.number slot s.submitted k ≡ x)
        of_out x is =
            elim (cases_eq x s.submitted) [
              | inl e ↦ (slot, (taken, here), number_same s.number slot s.submitted ∙ sym e)
              | inr ne ↦
                  let old = sim.of_out x (sym (with_other out s.submitted x true ne) ∙ is) in
                  let apart = was_free old.0 old.1.0 old.1.1 in
                  (old.0, (old.1.0, there old.0 apart ∙ old.1.1), number_other s.number slot s.submitted old.0 apart ∙ old.2)
            ]

        of_held : (k : ℕ) → IsHeld does.table.slots k → (out' (with_number s.number slot s.submitted k) ≡ true) × (with_number s.number slot s.submitted k < s.submitted + 1)
        of_held k held =
            elim (cases_eq k slot) [
              | inl e ↦
                  let n_is : with_number s.number slot s.submitted k ≡ s.submitted = ap (λ n. with_number s.number slot s.submitted n) e ∙ number_same s.number slot s.submitted in
                  (ap out' n_is ∙ with_same out s.submitted true, omega (arith, n_is))
              | inr ne ↦
                  let old = sim.of_held k (held.0, sym (there k ne) ∙ held.1) in
                  let lt = old.1 in
                  let n_is : with_number s.number slot s.submitted k ≡ s.number k = number_other s.number slot s.submitted k ne in
                  (ap out' n_is ∙ with_other out s.submitted (s.number k) true (λ e. omega (arith, lt, e)) ∙ old.0, omega (arith, lt, n_is))
            ]

        one_slot : (k l : ℕ) → IsHeld does.table.slots k → IsHeld does.table.slots l → with_number s.number slot s.submitted k ≡ with_number s.number slot s.submitted l → k ≡ l
        one_slot k l held_k held_l same =
            elim (cases_eq k slot) [
              | inl e ↦
                  elim (cases_eq l slot) [
                    | inl f ↦ e ∙ sym f
                    | inr nf ↦
                        let lt = (sim.of_held l (held_l.0, sym (there l nf) ∙ held_l.1)).1 in
                        let n_k : with_number s.number slot s.submitted k ≡ s.submitted = ap (λ n. with_number s.number slot s.submitted n) e ∙ number_same s.number slot s.submitted in
                        let n_l = number_other s.number slot s.submitted l nf in
                        absurd (omega (arith, lt, n_k, n_l, same))
                  ]
              | inr ne ↦
                  elim (cases_eq l slot) [
                    | inl f ↦
                        let lt = (sim.of_held k (held_k.0, sym (there k ne) ∙ held_k.1)).1 in
                        let n_l : with_number s.number slot s.submitted l ≡ s.submitted = ap (λ n. with_number s.number slot s.submitted n) f ∙ number_same s.number slot s.submitted in
                        let n_k = number_other s.number slot s.submitted k ne in
                        absurd (omega (arith, lt, n_k, n_l, same))
                    | inr nf ↦
                        sim.one_slot k l (held_k.0, sym (there k ne) ∙ held_k.1) (held_l.0, sym (there l nf) ∙ held_l.1)
                        (sym (number_other s.number slot s.submitted k ne) ∙ same ∙ number_other s.number slot s.submitted l nf)
                  ]
            ]

        covers : (k : ℕ) (o : Outstanding) (a : Setup D) → HeldAs after_submit k o → slice_get subs (with_number s.number slot s.submitted k) ≡ Some a → Covers (flat_map r a.pieces) (flat_map w a.pieces) o.reads o.writes
        covers k o a held is =
            elim (cases_eq k slot) [
              | inl e ↦
                  let o_is : taken ≡ o = only o (subst (λ n. HeldAs after_submit n o) e held) in
                  let n_is : with_number s.number slot s.submitted k ≡ s.submitted = ap (λ n. with_number s.number slot s.submitted n) e ∙ number_same s.number slot s.submitted in
                  subst (λ (q : Outstanding). Covers (flat_map r a.pieces) (flat_map w a.pieces) q.reads q.writes) o_is
                  (let said = does.covers a (ap (λ n. slice_get subs n) (sym n_is) ∙ is) in (
                    λ x h. elim (said.0 x h) [ inl r ↦ inl ((does.call.keeps.what_it_reads x).1 r) | inr w ↦ inr ((does.call.keeps.what_it_writes x).1 w) ],
                    λ x h. (does.call.keeps.what_it_writes x).1 (said.1 x h),
                  ))
              | inr ne ↦ sim.covers k o a (sym (there k ne) ∙ held) (ap (λ n. slice_get subs n) (sym (number_other s.number slot s.submitted k ne)) ∙ is)
            ]

        waits :
            (k l : ℕ) (o q : Outstanding) → HeldAs after_submit k o → HeldAs after_submit l q → with_number s.number slot s.submitted k < with_number s.number slot s.submitted l →
            SpansConflict o.reads o.writes q.reads q.writes → Has q.waits k
        waits k l o q held_k held_l lt conflict =
            elim (cases_eq k slot) [
              | inl e ↦
                  let n_k : with_number s.number slot s.submitted k ≡ s.submitted = ap (λ n. with_number s.number slot s.submitted n) e ∙ number_same s.number slot s.submitted in
                  let below = (of_held l (q, held_l)).1 in
                  absurd (omega (arith, n_k, below, lt))
              | inr ne ↦
                  let old_k : HeldAs s k o = sym (there k ne) ∙ held_k in
                  elim (cases_eq l slot) [
                    | inl f ↦
                        let q_is : taken ≡ q = only q (subst (λ n. HeldAs after_submit n q) f held_l) in
                        let with_taken : SpansConflict o.reads o.writes taken.reads taken.writes = subst (λ (x : Outstanding). SpansConflict o.reads o.writes x.reads x.writes) (sym q_is) conflict in
                        let conflict' = one_way o taken.reads taken.writes reads writes (λ a. (does.call.keeps.what_it_reads a).0) (λ a. (does.call.keeps.what_it_writes a).0) with_taken in
                        subst (λ (x : Outstanding). Has x.waits k) q_is (subst (λ (w : Slots). Has w k) (sym does.call.keeps.what_it_awaits) ((does.call.waits k).1 (o, old_k, inl conflict')))
                    | inr nf ↦
                        let n_k = number_other s.number slot s.submitted k ne in
                        let n_l = number_other s.number slot s.submitted l nf in
                        sim.waits k l o q old_k (sym (there l nf) ∙ held_l) (omega (arith, lt, n_k, n_l)) conflict
                  ]
            ]

  -- ---- a slot that is freed
  module _ (out : ℕ → Bool) (s : Moment P) (slot : ℕ) (table : Table) (sim : Sim out s) (held : IsHeld s.table.slots slot) (released : Releases s.table.slots slot table.slots) where
    abbrev after_take_off : Moment P
    after_take_off = record s { table = table }

    abbrev out_off : ℕ → Bool
    out_off = with out (s.number slot) false

    -- what is outstanding now was so before, in another slot, with the waits but for this one
    record Was (k : ℕ) (o : Outstanding) : Type 0 where
      old : Outstanding
      was : HeldAs s k old
      apart : k ≡ slot → ⊥
      reads : o.reads ≡ old.reads
      writes : o.writes ≡ old.writes
      waits : (j : ℕ) → Has old.waits j → (j ≡ slot → ⊥) → Has o.waits j

    was : (k : ℕ) (o : Outstanding) → HeldAs after_take_off k o → Was k o
    was k o is = by (element s.table.slots k (omega (arith, within, same)))
      where
        within : k < length table.slots
        within = slice_get_within table.slots k (Some o) is

        same : length table.slots ≡ length s.table.slots
        same = released.count

        not_slot : k ≡ slot → ⊥
        not_slot e =
            let wrong : ◌≡◌ {A = Option (Option Outstanding)} (Some None) (Some (Some o)) = sym released.freed ∙ ap (λ n. slice_get table.slots n) (sym e) ∙ is in
            cc

        by : ((x : Option Outstanding) × (slice_get s.table.slots k ≡ Some x)) → Was k o
        by (None, h) =
            let wrong : ◌≡◌ {A = Option (Option Outstanding)} (Some None) (Some (Some o)) = sym (released.free k h) ∙ is in
            absurd cc
        by (Some p, h) =
            let now = released.others k p not_slot h in
            let o_is : record p { waits = now.0 } ≡ o = same_Some (record p { waits = now.0 }) o (same_Some (Some (record p { waits = now.0 })) (Some o) (sym now.1 ∙ is)) in
            record {
              old = p;
              was = h;
              apart = not_slot;
              reads = ap (λ (x : Outstanding). x.reads) (sym o_is);
              writes = ap (λ (x : Outstanding). x.writes) (sym o_is);
              waits = λ j has ne. subst (λ (x : Outstanding). Has x.waits j) o_is ((now.2 j).1 (has, ne));
            }

    take_off_sim : Sim out_off after_take_off
    take_off_sim = record { of_out = of_out; of_held = of_held; one_slot = one_slot; covers = covers; waits = waits }
      where
        of_out : (x : ℕ) → out_off x ≡ true → (k : ℕ) × IsHeld table.slots k × (s.number k ≡ x)
        of_out x is =
            elim (cases_eq x (s.number slot)) [
              | inl e ↦ absurd (both_values (out_off x) is (ap out_off e ∙ with_same out (s.number slot) false))
              | inr ne ↦
                  let old = sim.of_out x (sym (with_other out (s.number slot) x false ne) ∙ is) in
                  let now = released.others old.0 old.1.0 (λ e. ne (sym old.2 ∙ ap s.number e)) old.1.1 in
                  (old.0, (record old.1.0 { waits = now.0 }, now.1), old.2)
            ]

        of_held : (k : ℕ) → IsHeld table.slots k → (out_off (s.number k) ≡ true) × (s.number k < s.submitted)
        of_held k is =
            let before = was k is.0 is.1 in
            let old = sim.of_held k (before.old, before.was) in
            (with_other out (s.number slot) (s.number k) false (λ e. before.apart (sim.one_slot k slot (before.old, before.was) held e)) ∙ old.0, old.1)

        one_slot : (k l : ℕ) → IsHeld table.slots k → IsHeld table.slots l → s.number k ≡ s.number l → k ≡ l
        one_slot k l is_k is_l same =
            let k_was = was k is_k.0 is_k.1 in
            let l_was = was l is_l.0 is_l.1 in
            sim.one_slot k l (k_was.old, k_was.was) (l_was.old, l_was.was) same

        covers : (k : ℕ) (o : Outstanding) (a : Setup D) → HeldAs after_take_off k o → slice_get subs (s.number k) ≡ Some a → Covers (flat_map r a.pieces) (flat_map w a.pieces) o.reads o.writes
        covers k o a is is_a =
            let before = was k o is in
            subst (λ xs. Covers (flat_map r a.pieces) (flat_map w a.pieces) xs o.writes) (sym before.reads)
            (subst (λ xs. Covers (flat_map r a.pieces) (flat_map w a.pieces) before.old.reads xs) (sym before.writes) (sim.covers k before.old a before.was is_a))

        waits :
            (k l : ℕ) (o q : Outstanding) → HeldAs after_take_off k o → HeldAs after_take_off l q → s.number k < s.number l →
            SpansConflict o.reads o.writes q.reads q.writes → Has q.waits k
        waits k l o q is_k is_l lt conflict =
            let k_was = was k o is_k in
            let l_was = was l q is_l in
            let one : SpansConflict k_was.old.reads o.writes q.reads q.writes = subst (λ xs. SpansConflict xs o.writes q.reads q.writes) k_was.reads conflict in
            let two : SpansConflict k_was.old.reads k_was.old.writes q.reads q.writes = subst (λ xs. SpansConflict k_was.old.reads xs q.reads q.writes) k_was.writes one in
            let three : SpansConflict k_was.old.reads k_was.old.writes l_was.old.reads q.writes = subst (λ xs. SpansConflict k_was.old.reads k_was.old.writes xs q.writes) l_was.reads two in
            let four : SpansConflict k_was.old.reads k_was.old.writes l_was.old.reads l_was.old.writes = subst (λ xs. SpansConflict k_was.old.reads k_was.old.writes l_was.old.reads xs) l_was.writes three in
            l_was.waits k (sim.waits k l k_was.old l_was.old k_was.was l_was.was lt four) k_was.apart

  -- ---- all acts
  -- a submission that waits for none meets no earlier one that is outstanding
  ready : (out : ℕ → Bool) (s : Moment P) (slot : ℕ) → Sim out s → IsReady s.table.slots slot → caller.IsReady meets (seen out s).tracking (s.number slot)
  ready out s slot sim is x lt out_x =
      let other = sim.of_out x out_x in
      apart x (s.number slot) (λ a b is_a is_b conflict.
      let cover_x = sim.covers other.0 other.1.0 a other.1.1 (ap (λ n. slice_get subs n) other.2 ∙ is_a) in
      let cover_y = sim.covers slot is.0 b is.1 is_b in
      let said = covered (flat_map r a.pieces) (flat_map w a.pieces) (flat_map r b.pieces) (flat_map w b.pieces) other.1.0.reads other.1.0.writes is.0.reads is.0.writes cover_x cover_y conflict in
      is.2 other.0 (sim.waits other.0 slot other.1.0 is.0 other.1.1 is.1 (subst (λ n. n < s.number slot) (sym other.2) lt) said))

  record Seen (out : ℕ → Bool) (s end : Moment P) : Type 0 where
    acts : List caller.Act
    out_end : ℕ → Bool
    does : caller.DoesAll machine subs meets (seen out s) acts (seen out_end end)

  honest : (acts : List Act) (out : ℕ → Bool) (s end : Moment P) → Sim out s → DoesAll machine r w subs s acts end → Seen out s end
  honest [] out s end sim does = record { acts = []; out_end = out; does = ap (seen out) does }
  honest (Submit reads writes also submitted ∷ acts) out s end sim (mid, does, rest) =
      let next = after_submit out s reads writes also submitted mid sim does in
      let later = honest acts (with out s.submitted true) next end (submit_sim out s reads writes also submitted mid sim does) (subst (λ x. DoesAll machine r w subs x acts end) does.after rest) in
      record { acts = caller.Act.Submit ∷ later.acts; out_end = later.out_end; does = (seen (with out s.submitted true) next, refl, later.does) }
  honest (Ring slot ∷ acts) out s end sim (mid, does, rest) =
      let next : Moment P = record s { rung = with s.rung (s.number slot) true } in
      let still : Sim out next = record { of_out = sim.of_out; of_held = sim.of_held; one_slot = sim.one_slot; covers = sim.covers; waits = sim.waits } in
      let later = honest acts out next end still (subst (λ x. DoesAll machine r w subs x acts end) does.after rest) in
      let ring : caller.Rings meets (seen out s) (s.number slot) (seen out next) =
      record {
        is_outstanding = (sim.of_held slot (does.is_ready.0, does.is_ready.1)).0;
        not_rung = does.not_rung;
        is_ready = ready out s slot sim does.is_ready;
        after = refl;
      } in
      record { acts = caller.Act.Ring (s.number slot) ∷ later.acts; out_end = later.out_end; does = (seen out next, ring, later.does) }
  honest (Complete slot retired ∷ acts) out s end sim (mid, (is_ready, ended, does), rest) =
      let next : Moment P = record s { table = does.table } in
      let later = honest acts (with out (s.number slot) false) next end (take_off_sim out s slot does.table sim does.is_held does.call.released) (subst (λ x. DoesAll machine r w subs x acts end) does.after rest) in
      let retire : caller.Retires subs (seen out s) (s.number slot) (seen (with out (s.number slot) false) next) =
      record { is_outstanding = (sim.of_held slot does.is_held).0; honest = inl ended; after = refl } in
      record { acts = caller.Act.Retire (s.number slot) ∷ later.acts; out_end = later.out_end; does = (seen (with out (s.number slot) false) next, retire, later.does) }
  honest (Withdraw slot retired ∷ acts) out s end sim (mid, (not_rung, does), rest) =
      let next : Moment P = record s { table = does.table } in
      let later = honest acts (with out (s.number slot) false) next end (take_off_sim out s slot does.table sim does.is_held does.call.released) (subst (λ x. DoesAll machine r w subs x acts end) does.after rest) in
      let retire : caller.Retires subs (seen out s) (s.number slot) (seen (with out (s.number slot) false) next) =
      record { is_outstanding = (sim.of_held slot does.is_held).0; honest = inr not_rung; after = refl } in
      record { acts = caller.Act.Retire (s.number slot) ∷ later.acts; out_end = later.out_end; does = (seen (with out (s.number slot) false) next, retire, later.does) }
  honest (Work y v ∷ acts) out s end sim (mid, does, rest) =
      let next : Moment P = record s { flight = record { memory = does.stepped.memory; lanes = slice_set s.flight.lanes y does.stepped.progress } } in
      let still : Sim out next = record { of_out = sim.of_out; of_held = sim.of_held; one_slot = sim.one_slot; covers = sim.covers; waits = sim.waits } in
      let later = honest acts out next end still (subst (λ x. DoesAll machine r w subs x acts end) does.after rest) in
      let work : caller.Works machine subs (seen out s) y v (seen out next) =
      record {
        is_rung = does.is_rung;
        setup = does.setup;
        is_sub = does.is_sub;
        lane = does.lane;
        is_lane = does.is_lane;
        stepped = does.stepped;
        step = does.step;
        after = refl;
      } in
      record { acts = caller.Act.Work y v ∷ later.acts; out_end = later.out_end; does = (seen out next, work, later.does) }

pub tracker_ends_in_turn : {D P : Type 0} (machine : Machine D P) (r w : D → List Span) → SpansTell machine r w → TrackerEndsInTurn machine r w
tracker_ends_in_turn {D} {P} machine r w tells subs m start s acts fits starts does ended =
    let got = honest machine r w tells subs m acts (λ x. false) start s (start_sim machine r w tells subs m start starts.0) does in
    let opened : ◌≡◌ {A = Session P} (seen machine r w tells subs m (λ x. false) start) (caller.open_session machine subs m) =
    λ i. record { tracking = record { submitted = starts.1 i; outstanding = λ x. false; rung = starts.2 i }; flight = starts.3 i } in
    tracked_ends_in_turn machine subs (meets machine r w tells subs m) m got.acts (seen machine r w tells subs m got.out_end s) fits (cover machine r w tells subs m)
    (subst (λ o. caller.DoesAll machine subs (meets machine r w tells subs m) o got.acts (seen machine r w tells subs m got.out_end s)) opened got.does) ended
