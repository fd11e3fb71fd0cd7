-- What the words show once a call has written into their parts.
use Rattle.std.proofs.Common.{◌≡◌, ℕ, ◌+◌, ◌*◌, ◌%◌, ◌^◌, ◌<◌, ◌≤◌, List, ◌++◌, Option, Some, length, take, get_or, slice_set, refl, sym, ap, ◌∙◌, subst, arith}
use Rattle.std.proofs.Math.Pow.{pow_mono}
use Rattle.std.proofs.lemmas.List.{length-append, length-take-le, take_at}
use Rattle.dsa_descriptor.specs.declared.span.Span.{Span}
use Rattle.dsa_ranges.specs.Ranges.{SpansConflict}
use Rattle.dsa_tracker.specs.declared.board.Board.{Board}
use Rattle.dsa_tracker.specs.declared.head.Head.{Head}
use Rattle.dsa_tracker.specs.declared.owner.Owner.{Owner}
use Rattle.dsa_tracker.specs.declared.slots.Slots.{Slots}
use Rattle.dsa_tracker.specs.Calls.{Releases, SameAddresses}
use Rattle.dsa_tracker.specs.Finding.{AreCovered, reads_store, writes_store}
use Rattle.dsa_tracker.specs.Head.{IsHeadOf, head_words, with_board}
use Rattle.dsa_tracker.specs.Keeping.{AreOtherStores}
use Rattle.dsa_tracker.specs.Kept.{kept, store_at}
use Rattle.dsa_tracker.specs.Sets.{Has}
use Rattle.dsa_tracker.specs.State.{IsShaped, IsState, all_shown, kept_at, waits_of}
use Rattle.dsa_tracker.specs.Table.{ConflictsWith, HasToWait, IsExactly, IsReady, Outstanding, Table, WaitsFor}
use Rattle.dsa_tracker.specs.Words.{IsBoard, IsShapedIn, IsStateIn, board_in, shown_in, stores_in, waits_in}
use Rattle.dsa_tracker.proofs.Parted.{Parts, head_kept, head_written, parts, shaped_again, shaped_out, shown_is, state_in, state_out}
use Rattle.dsa_tracker.proofs.Tables.{filled_shown, filled_state, in_the_way}

rows_fit : (k : ℕ) → k ≤ 32 → 2 * 2 ^ k % 18446744073709551616 ≡ 2 * 2 ^ k
rows_fit k few = let low : 2 ^ k ≤ 2 ^ 32 = pow_mono few in omega (arith, low)

pub board_of : (words : List ℕ) (h : Head) → IsShapedIn words → IsHeadOf words h → IsBoard h.board h.slots
board_of words h shaped head = subst (λ (x : Board × ℕ). IsBoard x.0 x.1) (λ i. (head.board i, head.slots i)) shaped.board

module _ (words front body waits after stores rest : List ℕ) (h : Head) (is : words ≡ front ++ body) (body_is : body ≡ waits ++ after) (after_is : after ≡ stores ++ rest)
    (front_len : length front ≡ 16) (waits_len : length waits ≡ h.slots) (stores_len : length stores ≡ 2 * h.slots * h.shape.width)
    (shaped : IsShapedIn words) (head : IsHeadOf words h) where
  abbrev count : ℕ
  count = 2 * 2 ^ h.shape.grid.log2_rows

  whole : length words ≡ 16 + (h.slots + (2 * h.slots * h.shape.width + length rest))
  whole =
      ap length is ∙ length-append front body ∙ ap (λ (n : ℕ). n + length body) front_len
      ∙ ap (λ (n : ℕ). 16 + n) (ap length body_is ∙ length-append waits after ∙ ap (λ (n : ℕ). n + length after) waits_len
      ∙ ap (λ (n : ℕ). h.slots + n) (ap length after_is ∙ length-append stores rest ∙ ap (λ (n : ℕ). n + length rest) stores_len))

  enough : count ≤ length rest
  enough =
      let le : 16 + h.slots + 2 * h.slots * (2 * h.room + 1) + 2 * 2 ^ h.shape.grid.log2_rows ≤ length words = subst (λ (x : ℕ × ℕ × ℕ). 16 + x.0 + 2 * x.0 * (2 * x.1 + 1) + 2 * 2 ^ x.2 ≤ length words) (λ i. (head.slots i, head.room i, head.log2_rows i)) shaped.enough in
      let same : 2 * h.slots * h.shape.width ≡ 2 * h.slots * (2 * h.room + 1) = ap (λ (n : ℕ). 2 * h.slots * n) head.width in
      omega (arith, le, whole, same)

  -- ---- the stores of a free slot are filled

  module _ (slot : ℕ) (free : Has h.board.outstanding slot → ⊥) (mid new_stores : List ℕ) (len : length new_stores ≡ length stores)
      (one : AreOtherStores h.shape.width (2 * slot) stores mid) (two : AreOtherStores h.shape.width (2 * slot + 1) mid new_stores) where
    abbrev filled : List ℕ
    filled = front ++ (waits ++ (new_stores ++ rest))

    shape_old : IsShaped h.board waits stores (take count rest) h.shape
    shape_old = shaped_out words h waits stores (take count rest) shaped head waits_len stores_len (length-take-le count rest enough)

    abbrev shown : Table
    shown = record { slots = all_shown h.shape.width h.board waits stores; room = h.room; owner = h.owner }

    old : Parts words h waits stores (take count rest)
    old = parts words front body waits after stores rest h is body_is after_is front_len waits_len stores_len head

    head_now : IsHeadOf filled h
    head_now = head_kept words front body (waits ++ (new_stores ++ rest)) h is front_len head

    now : Parts filled h waits new_stores (take count rest)
    now = parts filled front (waits ++ (new_stores ++ rest)) waits (new_stores ++ rest) new_stores rest h refl refl refl front_len waits_len (len ∙ stores_len) head_now

    same_len : length filled ≡ length words
    same_len = omega (arith, whole, length-append front (waits ++ (new_stores ++ rest)), length-append waits (new_stores ++ rest), length-append new_stores rest, front_len, waits_len, stores_len, len)

    pub filled_shaped_in : IsShapedIn filled
    filled_shaped_in = shaped_again words filled h h.board h.owner shaped head head_now (board_of words h shaped head) same_len

    pub filled_shown_in : shown_in filled ≡ shown_in words
    filled_shown_in =
        shown_is filled h waits new_stores (take count rest) now
        ∙ filled_shown h.board waits stores (take count rest) h.shape shape_old shown refl slot free mid new_stores len one two
        ∙ sym (shown_is words h waits stores (take count rest) old)

    pub filled_state_in : IsStateIn words h.shape → IsStateIn filled h.shape
    filled_state_in state =
        state_in filled h waits new_stores (take count rest) now h.shape
        (filled_state h.board waits stores (take count rest) h.shape shape_old shown refl slot free mid new_stores len one two (state_out words h waits stores (take count rest) old h.shape state))

    pub filled_reads : (spans : List Span) → SameAddresses (kept (store_at h.shape.width mid (2 * slot))) spans → SameAddresses (kept (reads_store h.shape.width (stores_in filled) slot)) spans
    filled_reads spans same =
        subst (λ (xs : List ℕ). SameAddresses (kept xs) spans)
        (sym (ap (λ (ss : List ℕ). store_at h.shape.width ss (2 * slot)) now.stores_are ∙ two (2 * slot) (λ e. omega (arith, e)))) same

    pub filled_writes : (spans : List Span) → SameAddresses (kept (store_at h.shape.width new_stores (2 * slot + 1))) spans → SameAddresses (kept (writes_store h.shape.width (stores_in filled) slot)) spans
    filled_writes spans same = subst (λ (ss : List ℕ). SameAddresses (kept (writes_store h.shape.width ss slot)) spans) (sym now.stores_are) same

  -- ---- accesses are asked for

  pub asked_in :
      (rows tail : List ℕ) → rest ≡ rows ++ tail → length rows ≡ 2 * 2 ^ h.shape.grid.log2_rows % 18446744073709551616 → (found : Slots) (reads writes : List Span) →
      (AreCovered h.shape.width stores h.shape.grid rows h.board.wide h.board.outstanding → IsExactly found (λ k. Has h.board.outstanding k × SpansConflict (kept (reads_store h.shape.width stores k)) (kept (writes_store h.shape.width stores k)) reads writes)) →
      IsStateIn words h.shape → IsExactly found (ConflictsWith (shown_in words) reads writes)
  asked_in rows tail rest_is rows_len found reads writes exact state =
      in_the_way h.board waits stores rows h.shape its_state.shaped (record { slots = shown_in words; room = h.room; owner = h.owner }) (sym (shown_is words h waits stores rows its_parts)) reads writes found (exact its_state.covered)
    where
      rows_are : length rows ≡ count
      rows_are = let few = h.shape.grid.in_range.1 in rows_len ∙ rows_fit h.shape.grid.log2_rows few

      its_parts : Parts words h waits stores rows
      its_parts =
          subst (λ (r : List ℕ). Parts words h waits stores r) (ap (λ xs. take count xs) rest_is ∙ take_at rows tail count rows_are)
          (parts words front body waits after stores rest h is body_is after_is front_len waits_len stores_len head)

      its_state : IsState h.board waits stores rows h.shape
      its_state = state_out words h waits stores rows its_parts h.shape state

  -- ---- a slot is taken or given back, and the head is written

  module _ (rows tail : List ℕ) (rest_is : rest ≡ rows ++ tail) (rows_len : length rows ≡ 2 * 2 ^ h.shape.grid.log2_rows % 18446744073709551616)
      (new_front new_waits new_rows : List ℕ) (board : Board) (owner : Option Owner) (front_is : new_front ≡ head_words (with_board h board owner)) (low : get_or new_front 9 0 < 2 ^ 32)
      (new_waits_len : length new_waits ≡ length waits) (new_rows_len : length new_rows ≡ length rows) (now_shaped : IsShaped board new_waits stores new_rows h.shape) where
    abbrev changed : List ℕ
    changed = new_front ++ (new_waits ++ (stores ++ (new_rows ++ tail)))

    rows_count : length rows ≡ count
    rows_count = let few = h.shape.grid.in_range.1 in rows_len ∙ rows_fit h.shape.grid.log2_rows few

    rows_is : take count rest ≡ rows
    rows_is = ap (λ xs. take count xs) rest_is ∙ take_at rows tail count rows_count

    was : Parts words h waits stores rows
    was = subst (λ (r : List ℕ). Parts words h waits stores r) rows_is (parts words front body waits after stores rest h is body_is after_is front_len waits_len stores_len head)

    new_head : IsHeadOf changed (with_board h board owner)
    new_head = head_written (with_board h board owner) new_front (new_waits ++ (stores ++ (new_rows ++ tail))) head.width front_is low

    new_front_len : length new_front ≡ 16
    new_front_len = ap length front_is

    then : Parts changed (with_board h board owner) new_waits stores new_rows
    then =
        subst (λ (r : List ℕ). Parts changed (with_board h board owner) new_waits stores r) (take_at new_rows tail count (new_rows_len ∙ rows_count))
        (parts changed new_front (new_waits ++ (stores ++ (new_rows ++ tail))) new_waits (stores ++ (new_rows ++ tail)) stores (new_rows ++ tail) (with_board h board owner)
        refl refl refl new_front_len (new_waits_len ∙ waits_len) stores_len new_head)

    changed_len : length changed ≡ length words
    changed_len =
        let tail_len : length rest ≡ length rows + length tail = ap length rest_is ∙ length-append rows tail in
        omega (arith, whole, tail_len, length-append new_front (new_waits ++ (stores ++ (new_rows ++ tail))), length-append new_waits (stores ++ (new_rows ++ tail)), length-append stores (new_rows ++ tail), length-append new_rows tail, new_front_len, new_waits_len, waits_len, stores_len, new_rows_len)

    pub changed_head : IsHeadOf changed (with_board h (board_in changed) owner)
    changed_head = subst (λ (b : Board). IsHeadOf changed (with_board h b owner)) (sym new_head.board) new_head

    pub changed_shaped : IsShapedIn changed
    changed_shaped =
        shaped_again words changed h board owner shaped head new_head
        (λ s in_it. let lt = now_shaped.within s in_it in omega (arith, lt, new_waits_len, waits_len), now_shaped.held) changed_len

    shown_old : shown_in words ≡ all_shown h.shape.width h.board waits stores
    shown_old = shown_is words h waits stores rows was

    shown_now : shown_in changed ≡ all_shown h.shape.width board new_waits stores
    shown_now = shown_is changed (with_board h board owner) new_waits stores new_rows then

    pub changed_state : (IsState h.board waits stores rows h.shape → IsState board new_waits stores new_rows h.shape) → IsStateIn words h.shape → IsStateIn changed h.shape
    changed_state goes state = state_in changed (with_board h board owner) new_waits stores new_rows then h.shape (goes (state_out words h waits stores rows was h.shape state))

    pub old_state : IsStateIn words h.shape → IsState h.board waits stores rows h.shape
    old_state state = state_out words h waits stores rows was h.shape state

    pub awaited_now :
        (answer : Slots) (slot : ℕ) (also : Slots) →
        IsExactly answer (HasToWait (all_shown h.shape.width h.board waits stores) (kept (reads_store h.shape.width stores slot)) (kept (writes_store h.shape.width stores slot)) also) →
        IsExactly answer (HasToWait (shown_in words) (kept (reads_store h.shape.width (stores_in words) slot)) (kept (writes_store h.shape.width (stores_in words) slot)) also)
    awaited_now answer slot also =
        subst (λ (x : List (Option Outstanding) × List ℕ). IsExactly answer (HasToWait x.0 (kept (reads_store h.shape.width x.1 slot)) (kept (writes_store h.shape.width x.1 slot)) also))
        (λ i. (sym shown_old i, sym was.stores_are i))

    pub taken_now :
        (slot : ℕ) → all_shown h.shape.width board new_waits stores ≡ slice_set (all_shown h.shape.width h.board waits stores) slot (Some (kept_at h.shape.width new_waits stores slot)) →
        shown_in changed ≡ slice_set (shown_in words) slot (Some (kept_at h.shape.width (waits_in changed) (stores_in changed) slot))
    taken_now slot goes = shown_now ∙ goes ∙ (λ i. slice_set (sym shown_old i) slot (Some (kept_at h.shape.width (sym then.waits_are i) (sym then.stores_are i) slot)))

    pub here_now : (slot : ℕ) (answer : Slots) → waits_of new_waits slot ≡ answer → waits_of (waits_in changed) slot ≡ answer
    here_now slot answer goes = ap (λ (ws : List ℕ). waits_of ws slot) then.waits_are ∙ goes

    pub stores_now : stores_in changed ≡ stores_in words
    stores_now = then.stores_are ∙ sym was.stores_are

    pub released_now : (slot : ℕ) → Releases (all_shown h.shape.width h.board waits stores) slot (all_shown h.shape.width board new_waits stores) → Releases (shown_in words) slot (shown_in changed)
    released_now slot =
        subst (λ (x : List (Option Outstanding) × List (Option Outstanding)). Releases x.0 slot x.1) (λ i. (sym shown_old i, sym shown_now i))

    pub waited_now : (slot : ℕ) (answer : Slots) → IsExactly answer (WaitsFor (all_shown h.shape.width h.board waits stores) slot) → IsExactly answer (WaitsFor (shown_in words) slot)
    waited_now slot answer = subst (λ (x : List (Option Outstanding)). IsExactly answer (WaitsFor x slot)) (sym shown_old)

    pub ready_now :
        (slot : ℕ) (answer : Slots) → IsExactly answer (λ s. WaitsFor (all_shown h.shape.width h.board waits stores) slot s × IsReady (all_shown h.shape.width board new_waits stores) s) →
        IsExactly answer (λ s. WaitsFor (shown_in words) slot s × IsReady (shown_in changed) s)
    ready_now slot answer =
        subst (λ (x : List (Option Outstanding) × List (Option Outstanding)). IsExactly answer (λ s. WaitsFor x.0 slot s × IsReady x.1 s)) (λ i. (sym shown_old i, sym shown_now i))
