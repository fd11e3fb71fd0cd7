-- What calls over words answer, by the head of the words.
use Rattle.std.proofs.Common.{◌≡◌, ℕ, ◌+◌, ◌*◌, ◌^◌, ◌<◌, ◌≤◌, ◌⊎◌, inl, inr, List, ◌++◌, Option, Some, None, length, drop, get_or, replicate, slice_set, refl, sym, ap, ◌∙◌, subst, arith}
use Rattle.std.proofs.lemmas.List.{length-drop, length-take-le}
use Rattle.dsa_descriptor.specs.declared.span.Span.{Span}
use Rattle.dsa_tracker.specs.declared.board.Board.{Board}
use Rattle.dsa_tracker.specs.declared.head.Head.{Head}
use Rattle.dsa_tracker.specs.declared.owner.Owner.{Owner}
use Rattle.dsa_tracker.specs.declared.slots.Slots.{Slots}
use Rattle.dsa_tracker.specs.declared.submitted.Retired.{Retired}
use Rattle.dsa_tracker.specs.Calls.{Releases, Retires, SameAddresses, Submits}
use Rattle.dsa_tracker.specs.Finding.{reads_store, writes_store}
use Rattle.dsa_tracker.specs.Groups.{free_count}
use Rattle.dsa_tracker.specs.Head.{IsHeadOf, head_words, with_board}
use Rattle.dsa_tracker.specs.Kept.{kept}
use Rattle.dsa_tracker.specs.Sets.{Has, IsEmpty}
use Rattle.dsa_tracker.specs.State.{IsShaped, all_shown, kept_at, waits_of}
use Rattle.dsa_tracker.specs.Table.{HasToWait, IsExactly, IsFirstFree, IsFull, IsHeld, IsReady, Outstanding, WaitsFor}
use Rattle.dsa_tracker.specs.Words.{AreMeasures, IsShapedIn, IsStateIn, IsTracker, board_in, log2_rows_in, rows_in, shown_in, slots_in, stores_in, table_in, waits_in, width_in, words_needed}
use Rattle.dsa_tracker.proofs.Parted.{Parts, head_written, shaped_out, shown_is, tracker_of}
use Rattle.dsa_tracker.proofs.Showing.{none_shown}
use Rattle.dsa_tracker.proofs.Tables.{awaited, first_free, full, held, is_ready, not_held, ready, same_waits}

module _ (words : List ℕ) (h : Head) (shaped : IsShapedIn words) (head : IsHeadOf words h) where
  its_parts : Parts words h (waits_in words) (stores_in words) (rows_in words)
  its_parts = record { head = head; waits_are = refl; stores_are = refl; rows_are = refl }

  width_same : width_in words ≡ h.shape.width
  width_same = ap (λ (n : ℕ). 2 * n + 1) head.room ∙ sym head.width

  waits_len : length (waits_in words) ≡ h.slots
  waits_len =
      let all = shaped.enough in
      length-take-le (slots_in words) (drop 16 words) (let len = length-drop 16 words in omega (arith, len, all)) ∙ head.slots

  stores_len : length (stores_in words) ≡ 2 * h.slots * h.shape.width
  stores_len =
      let all = shaped.enough in
      length-take-le (2 * slots_in words * width_in words) (drop (slots_in words) (drop 16 words))
      (let one = length-drop 16 words in let two = length-drop (slots_in words) (drop 16 words) in omega (arith, one, two, all))
      ∙ (λ i. 2 * head.slots i * width_same i)

  rows_len : length (rows_in words) ≡ 2 * 2 ^ h.shape.grid.log2_rows
  rows_len =
      let all = shaped.enough in
      length-take-le (2 * 2 ^ log2_rows_in words) (drop (2 * slots_in words * width_in words) (drop (slots_in words) (drop 16 words)))
      (let one = length-drop 16 words in let two = length-drop (slots_in words) (drop 16 words) in let three = length-drop (2 * slots_in words * width_in words) (drop (slots_in words) (drop 16 words)) in omega (arith, one, two, three, all))
      ∙ (λ i. 2 * 2 ^ head.log2_rows i)

  its_shape : IsShaped h.board (waits_in words) (stores_in words) (rows_in words) h.shape
  its_shape = shaped_out words h (waits_in words) (stores_in words) (rows_in words) shaped head waits_len stores_len rows_len

  slots_are : all_shown h.shape.width h.board (waits_in words) (stores_in words) ≡ shown_in words
  slots_are = sym (shown_is words h (waits_in words) (stores_in words) (rows_in words) its_parts)

  pub free_in : (n : ℕ) → ((width : ℕ) (waits stores : List ℕ) → length waits ≡ h.slots → n ≡ free_count (all_shown width h.board waits stores)) → n ≡ free_count (shown_in words)
  free_in n counted = counted h.shape.width (waits_in words) (stores_in words) waits_len ∙ ap free_count slots_are

  pub full_in : ((s : ℕ) → s < h.slots → s < 64 → Has h.board.outstanding s) → IsFull (shown_in words)
  full_in all = full h.board (waits_in words) (stores_in words) (rows_in words) h.shape its_shape (table_in words) slots_are (λ s lt low. all s (omega (arith, lt, waits_len)) low)

  pub first_free_in : (slot : ℕ) → slot < h.slots → (Has h.board.outstanding slot → ⊥) → ((k : ℕ) → k < slot → Has h.board.outstanding k) → IsFirstFree (shown_in words) slot
  first_free_in slot lt free before = first_free h.board (waits_in words) (stores_in words) (rows_in words) h.shape its_shape (table_in words) slots_are slot (omega (arith, lt, waits_len)) free before

  pub held_in : (slot : ℕ) → Has h.board.outstanding slot → IsHeld (shown_in words) slot
  held_in slot has = held h.board (waits_in words) (stores_in words) (rows_in words) h.shape its_shape (table_in words) slots_are slot has

  pub not_held_in : (slot : ℕ) → (Has h.board.outstanding slot → ⊥) → IsHeld (shown_in words) slot → ⊥
  not_held_in slot free is = not_held h.board (waits_in words) (stores_in words) (rows_in words) h.shape its_shape (table_in words) slots_are slot free is

  pub ready_in : (slot : ℕ) (w : Slots) → Has h.board.outstanding slot × (w ≡ waits_of (waits_in words) slot) → IsEmpty w → IsReady (shown_in words) slot
  ready_in slot w is none = ready h.board (waits_in words) (stores_in words) (rows_in words) h.shape its_shape (table_in words) slots_are slot is.0 (subst IsEmpty is.1 none)

  pub is_ready_in : (slot : ℕ) (w : Slots) → w ≡ waits_of (waits_in words) slot → IsReady (shown_in words) slot → IsEmpty w
  is_ready_in slot w is ready_now = subst IsEmpty (sym is) (is_ready h.board (waits_in words) (stores_in words) (rows_in words) h.shape its_shape (table_in words) slots_are slot ready_now).1

  pub not_ready_in : (slot : ℕ) → (Has h.board.outstanding slot → ⊥) → IsReady (shown_in words) slot → ⊥
  not_ready_in slot free ready_now = free (is_ready h.board (waits_in words) (stores_in words) (rows_in words) h.shape its_shape (table_in words) slots_are slot ready_now).0

  pub awaited_in : (slot : ℕ) (w : Slots) → Has h.board.outstanding slot × (w ≡ waits_of (waits_in words) slot) → IsExactly w (λ s. WaitsFor (shown_in words) s slot)
  awaited_in slot w is = subst (λ (x : Slots). IsExactly x (λ s. WaitsFor (shown_in words) s slot)) (sym is.1) (awaited h.board (waits_in words) (stores_in words) (rows_in words) h.shape its_shape (table_in words) slots_are slot is.0)

  -- the stores of the first free slot were filled, and it was taken
  pub submits_in :
      (mid new : List ℕ) (slot : ℕ) (reads writes : List Span) (also answer : Slots) (owner expected : Option Owner) → slot < h.slots → (Has h.board.outstanding slot → ⊥) → ((k : ℕ) → k < slot → Has h.board.outstanding k) →
      shown_in mid ≡ shown_in words → SameAddresses (kept (reads_store h.shape.width (stores_in mid) slot)) reads → SameAddresses (kept (writes_store h.shape.width (stores_in mid) slot)) writes →
      IsExactly answer (HasToWait (shown_in mid) (kept (reads_store h.shape.width (stores_in mid) slot)) (kept (writes_store h.shape.width (stores_in mid) slot)) also) →
      stores_in new ≡ stores_in mid → shown_in new ≡ slice_set (shown_in mid) slot (Some (kept_at h.shape.width (waits_in new) (stores_in new) slot)) → waits_of (waits_in new) slot ≡ answer →
      IsHeadOf new (with_board h (board_in new) owner) → owner ≡ expected →
      Submits (table_in words) reads writes also expected (record { slot = slot; waits = answer }) (table_in new)
  submits_in mid new slot reads writes also answer owner expected lt free before shown reads_are writes_are exact stores slots here new_head owner_is =
      record {
        slot = first_free_in slot lt free before;
        waits =
            subst (λ (xs : List (Option Outstanding)). IsExactly answer (HasToWait xs reads writes also)) shown
            (same_waits (shown_in mid) (kept (reads_store h.shape.width (stores_in mid) slot)) (kept (writes_store h.shape.width (stores_in mid) slot)) reads writes also answer reads_are writes_are exact);
        taken = kept_at h.shape.width (waits_in new) (stores_in new) slot;
        keeps = record {
          what_it_reads = subst (λ (ss : List ℕ). SameAddresses (kept (reads_store h.shape.width ss slot)) reads) (sym stores) reads_are;
          what_it_writes = subst (λ (ss : List ℕ). SameAddresses (kept (writes_store h.shape.width ss slot)) writes) (sym stores) writes_are;
          what_it_awaits = here;
        };
        after =
            let slots_is = slots ∙ ap (λ (xs : List (Option Outstanding)). slice_set xs slot (Some (kept_at h.shape.width (waits_in new) (stores_in new) slot))) shown in
            λ i. record { slots = slots_is i; room = (new_head.room ∙ sym head.room) i; owner = (new_head.owner ∙ owner_is) i };
      }

  -- a slot was given back
  pub retires_in :
      (new : List ℕ) (slot : ℕ) (retired : Retired) → IsHeadOf new (with_board h (board_in new) h.owner) → Releases (shown_in words) slot (shown_in new) → IsExactly retired.waited (WaitsFor (shown_in words) slot) →
      IsExactly retired.ready (λ s. WaitsFor (shown_in words) slot s × IsReady (shown_in new) s) → Retires (table_in words) slot retired (table_in new)
  retires_in new slot retired new_head released waited ready_now =
      record { released = released; room = new_head.room ∙ sym head.room; owner = new_head.owner ∙ sym head.owner; waited = waited; ready = ready_now }

-- ---- the beginning

module _ (h : Head) (slots room log2_rows log2_unit : ℕ) (front rest : List ℕ) (slots_is : h.slots ≡ slots) (room_is : h.room ≡ room) (width_is : h.shape.width ≡ 2 * room + 1)
    (rows_is : h.shape.grid.log2_rows ≡ log2_rows) (unit_is : h.shape.grid.log2_unit ≡ log2_unit) (none : (s : ℕ) → Has h.board.outstanding s ⊎ Has h.board.blocked s → ⊥) (owner_is : h.owner ≡ None)
    (measures : AreMeasures slots room log2_rows log2_unit) (front_is : front ≡ head_words h) (low : get_or front 9 0 < 2 ^ 32) (enough : words_needed slots room log2_rows ≤ length (front ++ rest)) where
  begun_head : IsHeadOf (front ++ rest) h
  begun_head = head_written h front rest (width_is ∙ ap (λ (n : ℕ). 2 * n + 1) (sym room_is)) front_is low

  begun_shaped : IsShapedIn (front ++ rest)
  begun_shaped =
      record {
        mark = begun_head.mark;
        measures =
            subst (λ (x : ℕ × ℕ × ℕ × ℕ). AreMeasures x.0 x.1 x.2 x.3)
            (λ i. (sym (begun_head.slots ∙ slots_is) i, sym (begun_head.room ∙ room_is) i, sym (begun_head.log2_rows ∙ rows_is) i, sym (begun_head.log2_unit ∙ unit_is) i)) measures;
        enough =
            subst (λ (x : ℕ × ℕ × ℕ). words_needed x.0 x.1 x.2 ≤ length (front ++ rest))
            (λ i. (sym (begun_head.slots ∙ slots_is) i, sym (begun_head.room ∙ room_is) i, sym (begun_head.log2_rows ∙ rows_is) i)) enough;
        pasid = begun_head.pasid;
        board = (
          λ s in_it. absurd (none s (inl (subst (λ (b : Board). Has b.outstanding s) begun_head.board in_it))),
          λ s in_it. absurd (none s (inr (subst (λ (b : Board). Has b.blocked s) begun_head.board in_it))),
        );
      }

  none_in_it : (s : ℕ) → Has (board_in (front ++ rest)).outstanding s → ⊥
  none_in_it s in_it = none s (inl (subst (λ (b : Board). Has b.outstanding s) begun_head.board in_it))

  begun_state : IsStateIn (front ++ rest) h.shape
  begun_state =
      record {
        shaped = subst (λ (b : Board). IsShaped b (waits_in (front ++ rest)) (stores_in (front ++ rest)) (rows_in (front ++ rest)) h.shape) (sym begun_head.board) (its_shape (front ++ rest) h begun_shaped begun_head);
        blocked = λ s. (λ in_it. absurd (none s (inr (subst (λ (b : Board). Has b.blocked s) begun_head.board in_it))), λ both. absurd (none_in_it s both.0));
        covered = λ s in_it. absurd (none_in_it s in_it);
      }

  pub begun_tracker : IsTracker (front ++ rest)
  begun_tracker = tracker_of (front ++ rest) h begun_head begun_shaped begun_state

  pub begun_table : table_in (front ++ rest) ≡ record { slots = replicate slots None; room = room; owner = None }
  begun_table =
      let shown : shown_in (front ++ rest) ≡ replicate slots None = none_shown (width_in (front ++ rest)) (board_in (front ++ rest)) (waits_in (front ++ rest)) (stores_in (front ++ rest)) slots (waits_len (front ++ rest) h begun_shaped begun_head ∙ slots_is) none_in_it in
      λ i. record { slots = shown i; room = (begun_head.room ∙ room_is) i; owner = (begun_head.owner ∙ owner_is) i }
