-- What the table of a tracker is, by its words.
use Rattle.std.proofs.Common.{◌≡◌, ◌≢◌, ◌↔◌, ℕ, ◌+◌, ◌*◌, ◌<◌, inl, inr, List, Option, Some, length, slice_set, refl, sym, ap, ◌∙◌, subst, arith}
use Rattle.dsa_descriptor.specs.declared.span.Span.{Span}
use Rattle.dsa_descriptor.specs.Spans.{InSome}
use Rattle.dsa_ranges.specs.Ranges.{SpansConflict}
use Rattle.dsa_tracker.specs.declared.board.Board.{Board}
use Rattle.dsa_tracker.specs.declared.grid.Shape.{Shape}
use Rattle.dsa_tracker.specs.declared.owner.Owner.{Owner}
use Rattle.dsa_tracker.specs.declared.slots.Slots.{Slots}
use Rattle.dsa_tracker.specs.declared.submitted.Retired.{Retired}
use Rattle.dsa_tracker.specs.declared.fault.TrackFault.{TrackFault}
use Rattle.dsa_tracker.specs.declared.fault.TrackFault.TheVariants.{NoSlot, TooManySpans, NotOutstanding, Held, Wrap, OtherOwner, OtherPlan, FewSlots}
use Rattle.dsa_tracker.specs.Calls.{IsListFault, IsRefused, IsSpanFault, Releases, Retires, SameAddresses, Submits}
use Rattle.dsa_tracker.specs.Finding.{Covers, reads_store, writes_store}
use Rattle.dsa_tracker.specs.Keeping.{AreOtherStores}
use Rattle.dsa_tracker.specs.Kept.{kept, store_at}
use Rattle.dsa_tracker.specs.Sets.{Has, IsEmpty}
use Rattle.dsa_tracker.specs.State.{IsShaped, IsState, all_shown, kept_at, waits_of}
use Rattle.dsa_tracker.specs.Table.{ConflictsWith, HasToWait, IsExactly, IsFirstFree, IsFull, IsHeld, IsReady, Outstanding, Table, WaitsFor}
use Rattle.dsa_tracker.proofs.Bits.{zero_has_none}
use Rattle.dsa_tracker.proofs.Showing.{count, free_is, held_is, is_free, is_held, one_at, same_all}

-- an access conflicts by its addresses
pub one_way : (o : Outstanding) (reads writes reads' writes' : List Span) → ((a : ℕ) → InSome reads a → InSome reads' a) → ((a : ℕ) → InSome writes a → InSome writes' a) → SpansConflict o.reads o.writes reads writes → SpansConflict o.reads o.writes reads' writes'
one_way o reads writes reads' writes' r w (inl (a, into, t)) = inl (a, into, elim t [ inl x ↦ inl (r a x) | inr y ↦ inr (w a y) ])
one_way o reads writes reads' writes' r w (inr (a, into, t)) = inr (a, w a into, t)

pub same_waits : (slots : List (Option Outstanding)) (reads writes reads' writes' : List Span) (also set : Slots) → SameAddresses reads reads' → SameAddresses writes writes' → IsExactly set (HasToWait slots reads writes also) → IsExactly set (HasToWait slots reads' writes' also)
same_waits slots reads writes reads' writes' also set r w exact s = (
  λ h. let was = (exact s).0 h in (was.0, was.1, elim was.2 [ inl c ↦ inl (one_way was.0 reads writes reads' writes' (λ a. (r a).0) (λ a. (w a).0) c) | inr n ↦ inr n ]),
  λ h. (exact s).1 (h.0, h.1, elim h.2 [ inl c ↦ inl (one_way h.0 reads' writes' reads writes (λ a. (r a).1) (λ a. (w a).1) c) | inr n ↦ inr n ]),
)

module _ (board : Board) (waits stores rows : List ℕ) (shape : Shape) (shaped : IsShaped board waits stores rows shape) (t : Table) (slots_are : all_shown shape.width board waits stores ≡ t.slots) where
  pub full : ((s : ℕ) → s < length waits → s < 64 → Has board.outstanding s) → IsFull t.slots
  full all =
      subst IsFull slots_are
      (λ k lt.
      let low : k < length waits = omega (arith, lt, count shape.width board waits stores) in
      (kept_at shape.width waits stores k, held_is shape.width board waits stores shaped.within k (all k low (omega (arith, low, shaped.few)))))

  pub first_free : (slot : ℕ) → slot < length waits → (Has board.outstanding slot → ⊥) → ((k : ℕ) → k < slot → Has board.outstanding k) → IsFirstFree t.slots slot
  first_free slot inside free before =
      subst (λ xs. IsFirstFree xs slot) slots_are
      (free_is shape.width board waits stores shaped.within slot inside free, λ k lt. (kept_at shape.width waits stores k, held_is shape.width board waits stores shaped.within k (before k lt)))

  pub from_first : (slot : ℕ) → IsFirstFree t.slots slot → (slot < length waits) × (Has board.outstanding slot → ⊥) × ((k : ℕ) → k < slot → Has board.outstanding k)
  from_first slot h =
      let was = subst (λ (xs : List (Option Outstanding)). IsFirstFree xs slot) (sym slots_are) h in
      let free = is_free shape.width board waits stores shaped.within slot was.0 in
      (free.0, free.1, λ k lt. let other = was.1 k lt in (is_held shape.width board waits stores shaped.within k other.0 other.1).0)

  pub held : (slot : ℕ) → Has board.outstanding slot → IsHeld t.slots slot
  held slot h = subst (λ xs. IsHeld xs slot) slots_are (kept_at shape.width waits stores slot, held_is shape.width board waits stores shaped.within slot h)

  pub not_held : (slot : ℕ) → (Has board.outstanding slot → ⊥) → IsHeld t.slots slot → ⊥
  not_held slot free h =
      let was = subst (λ xs. IsHeld xs slot) (sym slots_are) h in
      free (is_held shape.width board waits stores shaped.within slot was.0 was.1).0

  pub ready : (slot : ℕ) → Has board.outstanding slot → IsEmpty (waits_of waits slot) → IsReady t.slots slot
  ready slot h none = subst (λ xs. IsReady xs slot) slots_are ((one_at shape.width board waits stores shaped.within slot (λ o. IsEmpty o.waits)).1 (h, none))

  pub is_ready : (slot : ℕ) → IsReady t.slots slot → Has board.outstanding slot × IsEmpty (waits_of waits slot)
  is_ready slot h = (one_at shape.width board waits stores shaped.within slot (λ o. IsEmpty o.waits)).0 (subst (λ xs. IsReady xs slot) (sym slots_are) h)

  pub waits_for : (slot s : ℕ) → WaitsFor t.slots s slot ↔ (Has board.outstanding slot × Has (waits_of waits slot) s)
  waits_for slot s =
      let at = one_at shape.width board waits stores shaped.within slot (λ o. Has o.waits s) in (
        λ h. at.0 (subst (λ xs. WaitsFor xs s slot) (sym slots_are) h),
        λ h. subst (λ xs. WaitsFor xs s slot) slots_are (at.1 h),
      )

  pub awaited : (slot : ℕ) → Has board.outstanding slot → IsExactly (waits_of waits slot) (λ s. WaitsFor t.slots s slot)
  awaited slot out s = (λ h. (waits_for slot s).1 (out, h), λ h. ((waits_for slot s).0 h).1)

  pub none_awaited : (slot : ℕ) → (Has board.outstanding slot → ⊥) → IsExactly (record { 0 = 0 }) (λ s. WaitsFor t.slots s slot)
  none_awaited slot free s = (λ h. absurd (zero_has_none 0 s refl h), λ h. absurd (free ((waits_for slot s).0 h).0))

  pub in_the_way : (reads writes : List Span) (found : Slots) → IsExactly found (λ k. Has board.outstanding k × SpansConflict (kept (reads_store shape.width stores k)) (kept (writes_store shape.width stores k)) reads writes) → IsExactly found (ConflictsWith t.slots reads writes)
  in_the_way reads writes found exact s =
      let at = one_at shape.width board waits stores shaped.within s (λ o. SpansConflict o.reads o.writes reads writes) in (
        λ h. subst (λ xs. ConflictsWith xs reads writes s) slots_are (at.1 ((exact s).0 h)),
        λ h. (exact s).1 (at.0 (subst (λ xs. ConflictsWith xs reads writes s) (sym slots_are) h)),
      )

  -- the stores of a free slot are filled
  module _ (slot : ℕ) (free : Has board.outstanding slot → ⊥) (mid stores' : List ℕ) (len : length stores' ≡ length stores) (one : AreOtherStores shape.width (2 * slot) stores mid) (two : AreOtherStores shape.width (2 * slot + 1) mid stores') where
    other : (place : ℕ) → place ≢ 2 * slot → place ≢ 2 * slot + 1 → store_at shape.width stores' place ≡ store_at shape.width stores place
    other place first second = two place second ∙ one place first

    same_kept : (s : ℕ) → Has board.outstanding s → kept_at shape.width waits stores' s ≡ kept_at shape.width waits stores s
    same_kept s h =
        let apart : s ≢ slot = λ same. free (subst (λ n. Has board.outstanding n) same h) in
        let reads = other (2 * s) (λ e. apart (omega (arith, e))) (λ e. omega (arith, e)) in
        let writes = other (2 * s + 1) (λ e. omega (arith, e)) (λ e. apart (omega (arith, e))) in
        λ i. record { reads = kept (reads i); writes = kept (writes i); waits = waits_of waits s }

    pub filled_shaped : IsShaped board waits stores' rows shape
    filled_shaped = record { few = shaped.few; wide = shaped.wide; stored = len ∙ shaped.stored; sized = shaped.sized; within = shaped.within; held = shaped.held }

    pub filled_state : IsState board waits stores rows shape → IsState board waits stores' rows shape
    filled_state state =
        record {
          shaped = filled_shaped;
          blocked = state.blocked;
          covered = λ k h.
              let same = same_kept k h in
              subst (λ (o : Outstanding). Covers shape.grid rows board.wide o.reads o.writes k) (sym same) (state.covered k h);
        }

    pub filled_shown : all_shown shape.width board waits stores' ≡ all_shown shape.width board waits stores
    filled_shown = same_all shape.width board waits stores stores' same_kept

    pub submits :
        (new : Board) (waits' : List ℕ) (reads writes : List Span) (also answer : Slots) (owner owner' : Option Owner) (room : ℕ) → slot < length waits → ((k : ℕ) → k < slot → Has board.outstanding k) →
        SameAddresses (kept (reads_store shape.width stores' slot)) reads → SameAddresses (kept (writes_store shape.width stores' slot)) writes →
        IsExactly answer (HasToWait (all_shown shape.width board waits stores') (kept (reads_store shape.width stores' slot)) (kept (writes_store shape.width stores' slot)) also) →
        all_shown shape.width new waits' stores' ≡ slice_set (all_shown shape.width board waits stores') slot (Some (kept_at shape.width waits' stores' slot)) → waits_of waits' slot ≡ answer →
        room ≡ t.room → owner' ≡ owner →
        Submits t reads writes also owner (record { slot = slot; waits = answer }) (record { slots = all_shown shape.width new waits' stores'; room = room; owner = owner' })
    submits new waits' reads writes also answer owner owner' room inside before reads_are writes_are exact new_is here room_is owner_is =
        record {
          slot = first_free slot inside free before;
          waits =
              subst (λ xs. IsExactly answer (HasToWait xs reads writes also)) (filled_shown ∙ slots_are)
              (same_waits (all_shown shape.width board waits stores') (kept (reads_store shape.width stores' slot)) (kept (writes_store shape.width stores' slot)) reads writes also answer reads_are writes_are exact);
          taken = kept_at shape.width waits' stores' slot;
          keeps = record { what_it_reads = reads_are; what_it_writes = writes_are; what_it_awaits = here };
          after =
              let slots_is = new_is ∙ ap (λ xs. slice_set xs slot (Some (kept_at shape.width waits' stores' slot))) (filled_shown ∙ slots_are) in
              λ i. record { slots = slots_is i; room = room_is i; owner = owner_is i };
        }

  pub retires :
      (new : Board) (waits' : List ℕ) (slot : ℕ) (retired : Retired) (room : ℕ) (owner : Option Owner) → room ≡ t.room → owner ≡ t.owner →
      Releases (all_shown shape.width board waits stores) slot (all_shown shape.width new waits' stores) →
      IsExactly retired.waited (WaitsFor (all_shown shape.width board waits stores) slot) →
      IsExactly retired.ready (λ s. WaitsFor (all_shown shape.width board waits stores) slot s × IsReady (all_shown shape.width new waits' stores) s) →
      Retires t slot retired (record { slots = all_shown shape.width new waits' stores; room = room; owner = owner })
  retires new waits' slot retired room owner room_is owner_is released waited ready_now =
      record {
        released = subst (λ xs. Releases xs slot (all_shown shape.width new waits' stores)) slots_are released;
        room = room_is;
        owner = owner_is;
        waited = subst (λ xs. IsExactly retired.waited (WaitsFor xs slot)) slots_are waited;
        ready = subst (λ xs. IsExactly retired.ready (λ s. WaitsFor xs slot s × IsReady (all_shown shape.width new waits' stores) s)) slots_are ready_now;
      }

-- what is against the spans is why a submission is refused that found a slot
pub refused_spans : (t : Table) (s : ℕ) (reads writes : List Span) (f : TrackFault) → IsFirstFree t.slots s → IsSpanFault t.room reads writes f → IsRefused t f (IsSpanFault t.room reads writes f)
refused_spans t s reads writes NoSlot first h = absurd h
refused_spans t s reads writes (TooManySpans spans) first h = ((s, first), h)
refused_spans t s reads writes (NotOutstanding slot) first h = absurd h
refused_spans t s reads writes (Held slot) first h = absurd h
refused_spans t s reads writes (Wrap span) first h = ((s, first), h)
refused_spans t s reads writes (OtherOwner piece) first h = absurd h
refused_spans t s reads writes OtherPlan first h = absurd h
refused_spans t s reads writes (FewSlots groups) first h = absurd h

pub refused_list :
    {P : Type 0} (named : P → Owner) (t : Table) (s : ℕ) (owner : Option Owner) (pieces : List P) (staging : Span) (f : TrackFault) → IsFirstFree t.slots s →
    IsListFault named t.room owner pieces staging f → IsRefused t f (IsListFault named t.room owner pieces staging f)
refused_list named t s owner pieces staging NoSlot first h = absurd h
refused_list named t s owner pieces staging (TooManySpans spans) first h = ((s, first), h)
refused_list named t s owner pieces staging (NotOutstanding slot) first h = absurd h
refused_list named t s owner pieces staging (Held slot) first h = absurd h
refused_list named t s owner pieces staging (Wrap span) first h = ((s, first), h)
refused_list named t s owner pieces staging (OtherOwner piece) first h = ((s, first), h)
refused_list named t s owner pieces staging OtherPlan first h = absurd h
refused_list named t s owner pieces staging (FewSlots groups) first h = absurd h
