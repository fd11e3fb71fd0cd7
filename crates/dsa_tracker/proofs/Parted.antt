-- The parts of a tracker in an array of words.
use Rattle.std.proofs.Common.{nat_eq, ◌≡◌, ℕ, ◌+◌, ◌*◌, ◌^◌, ◌<◌, ◌≤◌, List, ◌++◌, Bool, true, false, Option, Some, None, length, take, drop, get_or, refl, sym, ap, ◌∙◌, subst, arith}
use Rattle.std.proofs.Props.{props}
use Rattle.std.proofs.lemmas.List.{drop_at, get_or_append_left, take_at}
use mathlib.Core.HLevel.{is_prop→PathP}
use Rattle.dsa_tracker.specs.declared.board.Board.{Board}
use Rattle.dsa_tracker.specs.declared.grid.Grid.{Grid}
use Rattle.dsa_tracker.specs.declared.grid.Shape.{Shape}
use Rattle.dsa_tracker.specs.declared.head.Head.{Head}
use Rattle.dsa_tracker.specs.declared.owner.Owner.{Owner}
use Rattle.dsa_tracker.specs.Head.{IsHeadOf, head_words, owner_words, with_board, word_of}
use Rattle.dsa_tracker.specs.Sets.{Has}
use Rattle.dsa_tracker.specs.State.{IsShaped, IsState, all_shown}
use Rattle.dsa_tracker.specs.Words.{AreMeasures, IsBoard, IsShapeIn, IsShapedIn, IsStateIn, IsTracker, owner_by, board_in, log2_rows_in, log2_unit_in, room_in, rows_in, shown_in, slots_in, stores_in, waits_in, width_in, words_needed}

-- ---- heads

-- words that begin alike have the same head
head_same : (old new : List ℕ) (h : Head) → ((i : ℕ) → i < 11 → get_or new i 0 ≡ get_or old i 0) → IsHeadOf old h → IsHeadOf new h
head_same old new h same is =
    record {
      mark = same 0 (omega arith) ∙ is.mark;
      slots = same 1 (omega arith) ∙ is.slots;
      room = same 2 (omega arith) ∙ is.room;
      width = is.width;
      log2_rows = same 3 (omega arith) ∙ is.log2_rows;
      log2_unit = same 4 (omega arith) ∙ is.log2_unit;
      board = board ∙ is.board;
      owner = (λ i. owner_by (same 8 (omega arith) i) (same 9 (omega arith) i) (same 10 (omega arith) i)) ∙ is.owner;
      pasid = subst (λ (n : ℕ). n < 2 ^ 32) (sym (same 9 (omega arith))) is.pasid;
    }
  where
    board : board_in new ≡ board_in old
    board = λ i. record { outstanding = record { 0 = same 5 (omega arith) i }; blocked = record { 0 = same 6 (omega arith) i }; wide = record { 0 = same 7 (omega arith) i } }

pub head_kept : (words front rest new : List ℕ) (h : Head) → words ≡ front ++ rest → length front ≡ 16 → IsHeadOf words h → IsHeadOf (front ++ new) h
head_kept words front rest new h is len head =
    head_same words (front ++ new) h
    (λ i lt.
    let low : i < length front = omega (arith, lt, len) in
    get_or_append_left front new 0 i low ∙ sym (ap (λ (ws : List ℕ). get_or ws i 0) is ∙ get_or_append_left front rest 0 i low))
    head

bit_back : (b : Bool) → nat_eq (word_of b) 1 ≡ b
bit_back true = refl
bit_back false = refl

owner_back : (o : Option Owner) → owner_by (owner_words o).0 (owner_words o).1 (owner_words o).2 ≡ o
owner_back (Some o) = λ i. Some (record { pasid = o.pasid; privileged = bit_back o.privileged i })
owner_back None = refl

-- words that begin with the words of a head
pub head_written : (h : Head) (front rest : List ℕ) → h.shape.width ≡ 2 * h.room + 1 → front ≡ head_words h → get_or front 9 0 < 2 ^ 32 → IsHeadOf (front ++ rest) h
head_written h front rest width is low =
    subst (λ (f : List ℕ). IsHeadOf (f ++ rest) h) (sym is)
    (record {
      mark = refl;
      slots = refl;
      room = refl;
      width = width;
      log2_rows = refl;
      log2_unit = refl;
      board = refl;
      owner = owner_back h.owner;
      pasid = subst (λ (f : List ℕ). get_or f 9 0 < 2 ^ 32) is low;
    })

pub shape_is : (words : List ℕ) (h : Head) → IsHeadOf words h → IsShapeIn words h.shape
shape_is words h head = (head.width ∙ ap (λ (n : ℕ). 2 * n + 1) (sym head.room), sym head.log2_rows, sym head.log2_unit)

abbrev InRange : ℕ → ℕ → Type 0
InRange rows unit = (1 ≤ rows) × (rows ≤ 32) × (1 ≤ unit) × (unit ≤ 63)

in_range_prop : (rows unit : ℕ) → IsProp (InRange rows unit)
in_range_prop rows unit = hlevel props

same_grid : (a b : Grid) → a.log2_rows ≡ b.log2_rows → a.log2_unit ≡ b.log2_unit → a ≡ b
same_grid a b rows unit = λ i. record {
  log2_rows = rows i;
  log2_unit = unit i;
  in_range = is_prop→PathP (λ i. InRange (rows i) (unit i)) (λ i. in_range_prop (rows i) (unit i)) a.in_range b.in_range i;
}

-- the shape of a tracker is that of its head
pub state_of : (words : List ℕ) (h : Head) → IsHeadOf words h → IsTracker words → IsStateIn words h.shape
state_of words h head t =
    let mine = shape_is words h head in
    let same : t.shape ≡ h.shape = λ i. record { width = (t.is_shape.0 ∙ sym mine.0) i; grid = same_grid t.shape.grid h.shape.grid (t.is_shape.1 ∙ sym mine.1) (t.is_shape.2 ∙ sym mine.2) i } in
    subst (λ (shape : Shape). IsStateIn words shape) same t.state

pub tracker_of : (words : List ℕ) (h : Head) → IsHeadOf words h → IsShapedIn words → IsStateIn words h.shape → IsTracker words
tracker_of words h head shaped state = record { shaped = shaped; shape = h.shape; is_shape = shape_is words h head; state = state }

-- ---- parts

-- the words have this head and these parts
pub record Parts (words : List ℕ) (h : Head) (waits stores rows : List ℕ) : Type 0 where
  pub head : IsHeadOf words h
  pub waits_are : waits_in words ≡ waits
  pub stores_are : stores_in words ≡ stores
  pub rows_are : rows_in words ≡ rows

pub parts :
    (words front body waits after stores rest : List ℕ) (h : Head) → words ≡ front ++ body → body ≡ waits ++ after → after ≡ stores ++ rest →
    length front ≡ 16 → length waits ≡ h.slots → length stores ≡ 2 * h.slots * h.shape.width → IsHeadOf words h →
    Parts words h waits stores (take (2 * 2 ^ h.shape.grid.log2_rows) rest)
parts words front body waits after stores rest h is body_is after_is front_len waits_len stores_len head =
    record {
      head = head;
      waits_are = (λ i. take (head.slots i) (one i)) ∙ ap (λ xs. take h.slots xs) body_is ∙ take_at waits after h.slots waits_len;
      stores_are = (λ i. take (size i) (two i)) ∙ ap (λ xs. take (2 * h.slots * h.shape.width) xs) after_is ∙ take_at stores rest (2 * h.slots * h.shape.width) stores_len;
      rows_are = λ i. take (2 * 2 ^ head.log2_rows i) (three i);
    }
  where
    width : width_in words ≡ h.shape.width
    width = ap (λ (n : ℕ). 2 * n + 1) head.room ∙ sym head.width

    size : 2 * slots_in words * width_in words ≡ 2 * h.slots * h.shape.width
    size = λ i. 2 * head.slots i * width i

    one : drop 16 words ≡ body
    one = ap (λ xs. drop 16 xs) is ∙ drop_at front body 16 front_len

    two : drop (slots_in words) (drop 16 words) ≡ after
    two = (λ i. drop (head.slots i) (one i)) ∙ ap (λ xs. drop h.slots xs) body_is ∙ drop_at waits after h.slots waits_len

    three : drop (2 * slots_in words * width_in words) (drop (slots_in words) (drop 16 words)) ≡ rest
    three = (λ i. drop (size i) (two i)) ∙ ap (λ xs. drop (2 * h.slots * h.shape.width) xs) after_is ∙ drop_at stores rest (2 * h.slots * h.shape.width) stores_len

module _ (words : List ℕ) (h : Head) (waits stores rows : List ℕ) (p : Parts words h waits stores rows) where
  pub width_is : width_in words ≡ h.shape.width
  width_is = ap (λ (n : ℕ). 2 * n + 1) p.head.room ∙ sym p.head.width

  pub shown_is : shown_in words ≡ all_shown h.shape.width h.board waits stores
  shown_is = λ i. all_shown (width_is i) (p.head.board i) (p.waits_are i) (p.stores_are i)

  abbrev Fields : Type 0
  Fields = Board × List ℕ × List ℕ × List ℕ

  pub state_out : (shape : Shape) → IsStateIn words shape → IsState h.board waits stores rows shape
  state_out shape state = subst (λ (x : Fields). IsState x.0 x.1 x.2 x.3 shape) (λ i. (p.head.board i, p.waits_are i, p.stores_are i, p.rows_are i)) state

  pub state_in : (shape : Shape) → IsState h.board waits stores rows shape → IsStateIn words shape
  state_in shape state = subst (λ (x : Fields). IsState x.0 x.1 x.2 x.3 shape) (λ i. (sym p.head.board i, sym p.waits_are i, sym p.stores_are i, sym p.rows_are i)) state

-- parts of these lengths are of the shape
pub shaped_out :
    (words : List ℕ) (h : Head) (waits stores rows : List ℕ) → IsShapedIn words → IsHeadOf words h → length waits ≡ h.slots → length stores ≡ 2 * h.slots * h.shape.width →
    length rows ≡ 2 * 2 ^ h.shape.grid.log2_rows → IsShaped h.board waits stores rows h.shape
shaped_out words h waits stores rows shaped head waits_len stores_len rows_len =
    record {
      few = let few = shaped.measures.0 in omega (arith, few, head.slots, waits_len);
      wide = omega (arith, head.width);
      stored = stores_len ∙ ap (λ (n : ℕ). 2 * n * h.shape.width) (sym waits_len);
      sized = rows_len;
      within = λ s in_it. let lt = shaped.board.0 s (subst (λ (b : Board). Has b.outstanding s) (sym head.board) in_it) in omega (arith, lt, head.slots, waits_len);
      held = λ s in_it. subst (λ (b : Board). Has b.outstanding s) head.board (shaped.board.1 s (subst (λ (b : Board). Has b.blocked s) (sym head.board) in_it));
    }

-- the form stays where a board of the slots is written
pub shaped_again :
    (old new : List ℕ) (h : Head) (board : Board) (owner : Option Owner) → IsShapedIn old → IsHeadOf old h → IsHeadOf new (with_board h board owner) → IsBoard board h.slots →
    length new ≡ length old → IsShapedIn new
shaped_again old new h board owner shaped head now is_board len =
    record {
      mark = now.mark;
      measures = subst (λ (x : Four). AreMeasures x.0 x.1 x.2 x.3) (λ i. (slots i, room i, rows i, unit i)) shaped.measures;
      enough = subst (λ (x : Four). words_needed x.0 x.1 x.2 ≤ x.3) (λ i. (slots i, room i, rows i, sym len i)) shaped.enough;
      pasid = now.pasid;
      board = subst (λ (x : Board × ℕ). IsBoard x.0 x.1) (λ i. (sym now.board i, sym now.slots i)) is_board;
    }
  where
    Four : Type 0
    Four = ℕ × ℕ × ℕ × ℕ

    slots : slots_in old ≡ slots_in new
    slots = head.slots ∙ sym now.slots

    room : room_in old ≡ room_in new
    room = head.room ∙ sym now.room

    rows : log2_rows_in old ≡ log2_rows_in new
    rows = head.log2_rows ∙ sym now.log2_rows

    unit : log2_unit_in old ≡ log2_unit_in new
    unit = head.log2_unit ∙ sym now.log2_unit
