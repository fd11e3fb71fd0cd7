-- What pieces leave of memories that differ in bytes that they rewrite.
use Rattle.std.proofs.Common.{◌≡◌, ◌⊎◌, inl, inr, ℕ, List, [], ◌∷◌, sym}
use Rattle.dsa_descriptor.specs.Spans.{InSome}
use Rattle.dsa_image.specs.Lines.{AgreeOn}
use Rattle.dsa_image.specs.Memory.{Memory, SameAddresses, byte_at}
use Rattle.dsa_image.proofs.MemoryLemmas.{same_memory}
use Rattle.dsa_resume.specs.Laws.{HasLeft, IsRewritten}
use Rattle.dsa_resume.specs.Work.{Work, in_order}
use Rattle.dsa_resume.proofs.Working.{IsWork}

module _ {P : Type 0} (work : Work P) (is : IsWork work) where
  agrees_by : (p : P) (ps : List P) (m n : Memory) (a : ℕ) → (byte_at m a ≡ byte_at n a) ⊎ IsRewritten work (p ∷ ps) m a → InSome (work.reads p) a → byte_at m a ≡ byte_at n a
  agrees_by p ps m n a (inl same) reads = same
  agrees_by p ps m n a (inr (unread, rest)) reads = absurd (unread reads)

  next_by : (p : P) (ps : List P) (m n : Memory) (a : ℕ) → SameAddresses m n → AgreeOn (work.reads p) m n → (byte_at m a ≡ byte_at n a) ⊎ IsRewritten work (p ∷ ps) m a
      → (byte_at (work.done p m) a ≡ byte_at (work.done p n) a) ⊎ IsRewritten work ps (work.done p m) a
  next_by p ps m n a s agree (inl same) = inl (is.keeps p m n a s agree same)
  next_by p ps m n a s agree (inr (unread, inl over)) = inl (is.over p m n a s agree over)
  next_by p ps m n a s agree (inr (unread, inr later)) = inr later

  next_left : (p : P) (ps : List P) (m n : Memory) → HasLeft work (p ∷ ps) m n → HasLeft work ps (work.done p m) (work.done p n)
  next_left p ps m n left =
      let agree : AgreeOn (work.reads p) m n = λ a reads. agrees_by p ps m n a (left.bytes a) reads in
      record {
        addresses = is.alike p m n left.addresses;
        bytes = λ a. next_by p ps m n a left.addresses agree (left.bytes a);
      }

  all_same : (m n : Memory) (a : ℕ) → (byte_at m a ≡ byte_at n a) ⊎ IsRewritten work [] m a → byte_at m a ≡ byte_at n a
  all_same m n a (inl same) = same
  all_same m n a (inr never) = absurd never

  -- bytes that are rewritten before they are read don't matter
  pub redone : (ps : List P) (m n : Memory) → HasLeft work ps m n → in_order work ps n ≡ in_order work ps m
  redone [] m n left = sym (same_memory m n left.addresses (λ a held. all_same m n a (left.bytes a)))
  redone (p ∷ ps) m n left = redone ps (work.done p m) (work.done p n) (next_left p ps m n left)
