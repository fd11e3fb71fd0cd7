-- Descriptors, and what the host does itself: it reads bytes (data, and results in records), and writes some (data, staging
-- bytes, and records that it clears). (This project's choice.)
use Rattle.std.specs.Prelude.{◌≡◌, ℕ, ◌+◌, ◌<◌, ◌≤◌, List, length}
use Rattle.dsa_descriptor.specs.Fields.{Fields}
use Rattle.dsa_image.specs.declared.partial.Partial.{Partial}
use Rattle.dsa_image.specs.Memory.{After, Memory, byte_at, changed, written}
use Rattle.dsa_core.specs.DescriptorMachine.{descriptor_machine}
use Rattle.dsa_core.specs.Machine.{Machine}

-- the host reads the byte at an address, or writes these bytes from an address on
pub data Host : Type 0 where
  HostRead : (address : ℕ) → Host
  HostWrite : (at : ℕ) (bytes : List ℕ) → Host

-- the host reads the address
abbrev pub host_reads : Host → ℕ → Type 0
host_reads (HostRead address) a = a ≡ address
host_reads (HostWrite at bytes) a = ⊥

-- the host writes the address
abbrev pub host_writes : Host → ℕ → Type 0
host_writes (HostRead address) a = ⊥
host_writes (HostWrite at bytes) a = (at ≤ a) × (a < at + length bytes)

-- what it leaves, and its status: the byte that it read, or 1
abbrev pub host_does : Host → Memory → After ℕ
host_does (HostRead address) m = record { memory = m; answer = byte_at m address }
host_does (HostWrite at bytes) m = record { memory = changed m (written at bytes); answer = 1 }

-- a descriptor, or an access of the host
pub data AnyPiece : Type 0 where
  Device : (d : Fields) → AnyPiece
  OfHost : (h : Host) → AnyPiece

-- what either reads
abbrev pub either_reads : AnyPiece → ℕ → Type 0
either_reads (Device d) a = descriptor_machine.reads d a
either_reads (OfHost h) a = host_reads h a

-- what either writes
abbrev pub either_writes : AnyPiece → ℕ → Type 0
either_writes (Device d) a = descriptor_machine.writes d a
either_writes (OfHost h) a = host_writes h a

-- how many lines either has; an access of the host has none
abbrev pub either_lines : AnyPiece → ℕ
either_lines (Device d) = descriptor_machine.lines d
either_lines (OfHost h) = 0

-- a line of either
abbrev pub either_line : AnyPiece → ℕ → Memory → Partial → After Partial
either_line (Device d) t m p = descriptor_machine.line d t m p
either_line (OfHost h) t m p = record { memory = m; answer = p }

-- how either finishes: the host's access is done at once
abbrev pub either_finish : AnyPiece → Memory → Partial → After ℕ
either_finish (Device d) m p = descriptor_machine.finish d m p
either_finish (OfHost h) m p = host_does h m

-- both as pieces of work
abbrev pub hosted_machine : Machine AnyPiece Partial
hosted_machine =
    record {
      start = descriptor_machine.start;
      reads = either_reads;
      writes = either_writes;
      lines = either_lines;
      line = either_line;
      finish = either_finish;
    }
