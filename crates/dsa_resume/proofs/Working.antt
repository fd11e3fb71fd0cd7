-- What the theory of resuming asks of pieces of work.
use Rattle.std.proofs.Common.{◌≡◌, ℕ, List, [], ◌∷◌}
use Rattle.std.specs.List.{All, AllByRecursion}
use Rattle.std.proofs.lemmas.List.Elements.{All-head, All-tail}
use Rattle.dsa_descriptor.specs.Spans.{InSome}
use Rattle.dsa_ranges.specs.Pieces.{ConflictAsTouched, PieceConflictAt}
use Rattle.dsa_ranges.specs.Ranges.{SpansConflict}
use Rattle.dsa_image.specs.Lines.{AgreeOn}
use Rattle.dsa_image.specs.Memory.{Memory, SameAddresses, byte_at}
use Rattle.dsa_core.proofs.Bytes.{has_byte}
use Rattle.dsa_resume.specs.Work.{HoldsWork, Work}

-- two pieces conflict
abbrev pub Clash : {P : Type 0} → Work P → P → P → Type 0
Clash work p q = SpansConflict (work.reads p) (work.writes p) (work.reads q) (work.writes q)

-- those at two places of a list do
abbrev pub ClashAt : {P : Type 0} → Work P → List P → ℕ → ℕ → Type 0
ClashAt work ps i j = PieceConflictAt work.reads work.writes ps i j

-- what a piece does and overwrites rests on what it reads; it changes only what it writes; and pieces that don't conflict may
-- change places
pub record IsWork {P : Type 0} (work : Work P) : Type 0 where
  pub conflict : ConflictAsTouched work.reads work.writes work.conflict
  pub alike : (p : P) (m n : Memory) → SameAddresses m n → SameAddresses (work.done p m) (work.done p n)
  pub keeps : (p : P) (m n : Memory) (a : ℕ) → SameAddresses m n → AgreeOn (work.reads p) m n → byte_at m a ≡ byte_at n a → byte_at (work.done p m) a ≡ byte_at (work.done p n) a
  pub over : (p : P) (m n : Memory) (a : ℕ) → SameAddresses m n → AgreeOn (work.reads p) m n → work.overwrites p m a → byte_at (work.done p m) a ≡ byte_at (work.done p n) a
  pub over_same : (p : P) (m n : Memory) (a : ℕ) → AgreeOn (work.reads p) m n → work.overwrites p m a → work.overwrites p n a
  pub over_writes : (p : P) (m : Memory) (a : ℕ) → work.overwrites p m a → InSome (work.writes p) a
  pub same_after : (p : P) (m : Memory) → HoldsWork work m p → SameAddresses m (work.done p m)
  pub kept : (p : P) (m : Memory) (a : ℕ) → HoldsWork work m p → (InSome (work.writes p) a → ⊥) → byte_at (work.done p m) a ≡ byte_at m a
  pub swapped : (p q : P) (m : Memory) → HoldsWork work m p → HoldsWork work m q → (Clash work p q → ⊥) → work.done p (work.done q m) ≡ work.done q (work.done p m)

module _ {P : Type 0} (work : Work P) (is : IsWork work) where
  pub clash_at : (ps : List P) (i j : ℕ) → ClashAt work ps i j → work.conflict ps i j
  clash_at ps i j = (is.conflict ps i j).1

  -- what memory has it still has after a piece
  pub still : (p q : P) (m : Memory) → HoldsWork work m p → HoldsWork work m q → HoldsWork work (work.done p m) q
  still p q m held held_q = λ a t. has_byte m (work.done p m) a (is.same_after p m held) (held_q a t)

  pub all_still : (p : P) (qs : List P) (m : Memory) → HoldsWork work m p → AllByRecursion (HoldsWork work m) qs → AllByRecursion (HoldsWork work (work.done p m)) qs
  all_still p [] m held all = tt
  all_still p (q ∷ qs) m held (here, all) = (still p q m held here, all_still p qs m held all)

-- each piece of a list by recursion
pub one_by_one : {P : Type 0} (work : Work P) (ps : List P) (m : Memory) → All (HoldsWork work m) ps → AllByRecursion (HoldsWork work m) ps
one_by_one work [] m all = tt
one_by_one work (p ∷ ps) m all = (All-head (HoldsWork work m) p ps all, one_by_one work ps m (All-tail (HoldsWork work m) p ps all))
