-- Checksums of nine digits, on which the definitions are computed.
use Rattle.std.specs.Prelude.{◌≡◌, ℕ, false, List, [], ◌∷◌, ◌++◌, codes, replicate}
use Rattle.dsa_core.specs.declared.event.Event.{Event}
use Rattle.dsa_core.specs.Run.{State}
use Rattle.dsa_core.specs.Samples.{fenced_pair, sample_members}
use Rattle.dsa_image.specs.Memory.{Memory, bytes_from}
use Rattle.dsa_operations.specs.declared.checksum.Checksum.{Checksum}
use Rattle.dsa_operations.specs.declared.checksum_op.ChecksumOp.{ChecksumOp}
use Rattle.dsa_operations.specs.declared.checksum_op.ChecksumOp.TheVariants.{Crc, CopyCrc}
use Rattle.dsa_operations.specs.declared.checksum_op.Seed.TheVariants.{At, Given}
use Rattle.dsa_operations.specs.declared.operation.Operation.TheVariants as operation
use Rattle.dsa_operations.specs.Checksums.{checksum_fields}
use Rattle.dsa_operations.specs.Fields.{ChecksumFields}
use Rattle.dsa_execution.specs.Headline.{CanExecute, IsExecution}
use Rattle.dsa_core.specs.declared.partial.OperationPartial.{OperationPartial}

-- a checksum with these flags, record address, size and operation, and with zero elsewhere
abbrev pub sample : ℕ → ℕ → ℕ → ChecksumOp → ChecksumFields
sample flags record_at size op =
    record { pasid = 0; privileged = false; flags = flags; record_at = record_at; size = size; int_handle = 0; op = op }

-- the digits from 1 to 9
abbrev pub digits : List ℕ
digits = codes "123456789"

-- 128 bytes that begin with them
abbrev pub digits_memory : Memory
digits_memory = record { first = 0; bytes = digits ++ replicate 119 0 }

-- the completion record of their CRC-32C, 0xe3069283: a value that others have published
abbrev pub digits_record : List ℕ
digits_record = 1 ∷ replicate 15 0 ++ (0x83 ∷ 0x92 ∷ 0x06 ∷ 0xe3 ∷ []) ++ replicate 12 0

-- their checksum, with the record at 0x20
abbrev pub digits_checksum : ChecksumFields
digits_checksum = sample 0x0c 0x20 9 (Crc 0 (Given 0))

-- the memory after it
abbrev pub after_digits_checksum : Memory
after_digits_checksum = record { first = 0; bytes = digits ++ replicate 23 0 ++ digits_record ++ replicate 64 0 }

-- the same with a copy to 0x10
abbrev pub digits_copy : ChecksumFields
digits_copy = sample 0x0c 0x20 9 (CopyCrc 0 0x10 (Given 0))

-- the memory after it
abbrev pub after_digits_copy : Memory
after_digits_copy =
    record { first = 0; bytes = digits ++ replicate 7 0 ++ digits ++ replicate 7 0 ++ digits_record ++ replicate 64 0 }

-- the first five digits
abbrev pub first_digits : ChecksumFields
first_digits = sample 0x0c 0x20 5 (Crc 0 (Given 0))

-- and the others, from the value in the record of the first
abbrev pub last_digits : ChecksumFields
last_digits = sample 0x01000c 0x40 4 (Crc 5 (At 0x30))

-- in every complete run of the two in one batch, the second fenced, the second record ends with the checksum of all digits
abbrev pub EveryRunLeavesTheValue : Type 0
EveryRunLeavesTheValue =
    (c d : Checksum) (engines : ℕ) (events : List Event) (s : State OperationPartial) →
    checksum_fields c ≡ first_digits → checksum_fields d ≡ last_digits →
    IsExecution fenced_pair (operation.Checksum c ∷ operation.Checksum d ∷ []) engines digits_memory events s →
    bytes_from s.memory 0x50 8 ≡ 0x83 ∷ 0x92 ∷ 0x06 ∷ 0xe3 ∷ 0 ∷ 0 ∷ 0 ∷ 0 ∷ []

-- and such runs are possible
abbrev pub TheyCanExecute : Type 0
TheyCanExecute =
    (c d : Checksum) → checksum_fields c ≡ first_digits → checksum_fields d ≡ last_digits →
    CanExecute sample_members (operation.Checksum c ∷ operation.Checksum d ∷ []) fenced_pair digits_memory
