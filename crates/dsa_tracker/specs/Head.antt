-- The head of a tracker in an array of words. Private clauses alone cite these.
use Rattle.std.specs.Prelude.{◌≡◌, ℕ, ◌+◌, ◌*◌, ◌^◌, ◌<◌, Bool, true, false, List, [], ◌∷◌, Option, Some, None, slice_index}
use Rattle.dsa_tracker.specs.declared.board.Board.{Board}
use Rattle.dsa_tracker.specs.declared.head.Head.{Head}
use Rattle.dsa_tracker.specs.declared.owner.Owner.{Owner}
use Rattle.dsa_tracker.specs.Words.{board_in, log2_rows_in, log2_unit_in, owner_in, room_in, slots_in, tracker_mark}

-- the words begin with this head
pub record IsHeadOf (words : List ℕ) (head : Head) : Type 0 where
  pub mark : slice_index words 0 ≡ tracker_mark
  pub slots : slots_in words ≡ head.slots
  pub room : room_in words ≡ head.room
  pub width : head.shape.width ≡ 2 * head.room + 1
  pub log2_rows : log2_rows_in words ≡ head.shape.grid.log2_rows
  pub log2_unit : log2_unit_in words ≡ head.shape.grid.log2_unit
  pub board : board_in words ≡ head.board
  pub owner : owner_in words ≡ head.owner
  pub pasid : slice_index words 9 < 2 ^ 32

-- 1 if it is true
abbrev pub word_of : Bool → ℕ
word_of true = 1
word_of false = 0

-- the three words of an owner
abbrev pub owner_words : Option Owner → ℕ × ℕ × ℕ
owner_words (Some owner) = (1, owner.pasid, word_of owner.privileged)
owner_words None = (0, 0, 0)

-- the words of a head
abbrev pub head_words : Head → List ℕ
head_words head =
    tracker_mark ∷ head.slots ∷ head.room ∷ head.shape.grid.log2_rows ∷ head.shape.grid.log2_unit ∷ head.board.outstanding.0 ∷ head.board.blocked.0
    ∷ head.board.wide.0 ∷ (owner_words head.owner).0 ∷ (owner_words head.owner).1 ∷ (owner_words head.owner).2 ∷ 0 ∷ 0 ∷ 0 ∷ 0 ∷ 0 ∷ []

-- the head with another board and owner
abbrev pub with_board : Head → Board → Option Owner → Head
with_board head board owner = record head { board = board; owner = owner }
