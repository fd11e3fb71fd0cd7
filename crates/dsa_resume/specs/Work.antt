-- Pieces of work: what each reads and writes, and what it does to memory.
use Rattle.std.specs.Prelude.{◌⊎◌, ℕ, List, [], ◌∷◌, IsSome}
use Rattle.dsa_descriptor.specs.declared.descriptor.Descriptor.{Descriptor}
use Rattle.dsa_descriptor.specs.declared.span.Span.{Span}
use Rattle.dsa_descriptor.specs.Data.{record_span}
use Rattle.dsa_descriptor.specs.Descriptors.{fields}
use Rattle.dsa_descriptor.specs.Spans.{InSome, InSpan}
use Rattle.dsa_ranges.specs.Pieces.{DescriptorConflictAt, reads_of, writes_of}
use Rattle.dsa_image.specs.Effects.{done, new_data}
use Rattle.dsa_image.specs.Memory.{Holds, Memory}

-- what pieces of a kind read and write, which of a list conflict, whether one that is done in a memory writes a new byte to an
-- address, and the memory after it is done
pub record Work (P : Type 0) : Type 1 where
  pub reads : P → List Span
  pub writes : P → List Span
  pub conflict : List P → ℕ → ℕ → Type 0
  pub overwrites : P → Memory → ℕ → Type 0
  pub done : P → Memory → Memory

-- the memory after the pieces, one after another, whatever their statuses
abbrev pub in_order : {P : Type 0} → Work P → List P → Memory → Memory
in_order work [] m = m
in_order work (p ∷ ps) m = in_order work ps (work.done p m)

-- the memory has each address that the piece reads or writes
abbrev pub HoldsWork : {P : Type 0} → Work P → Memory → P → Type 0
HoldsWork work m p = (a : ℕ) → InSome (work.reads p) a ⊎ InSome (work.writes p) a → Holds m a

-- a descriptor that is done writes new bytes of its data, and its completion record
abbrev pub descriptor_overwrites : Descriptor → Memory → ℕ → Type 0
descriptor_overwrites d m a = IsSome (new_data (fields d) m a) ⊎ InSpan (record_span d.record_at) a

-- descriptors as pieces of work
abbrev pub descriptor_work : Work Descriptor
descriptor_work =
    record {
      reads = reads_of;
      writes = writes_of;
      conflict = DescriptorConflictAt;
      overwrites = descriptor_overwrites;
      done = λ d m. done (fields d) m;
    }
