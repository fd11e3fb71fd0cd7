-- The fields of each operation that makes a checksum. A field that an operation does not
-- have is zero (specification 341204, reserved fields).
use Rattle.std.specs.Prelude.{ℕ, ◌==◌, Bool, true, false, bit_and}
use Rattle.dsa_operations.specs.declared.checksum_op.ChecksumOp.{ChecksumOp}
use Rattle.dsa_operations.specs.declared.checksum_op.ChecksumOp.TheVariants.{Crc, CopyCrc}
use Rattle.dsa_operations.specs.declared.checksum_op.Seed.{Seed}
use Rattle.dsa_operations.specs.declared.checksum_op.Seed.TheVariants.{Given, At}

-- the flag is set
abbrev pub has_flag : ℕ → ℕ → Bool
has_flag flags flag = bit_and flags flag == flag

-- the operation code (linux/idxd.h)
abbrev pub code_of : ChecksumOp → ℕ
code_of (Crc src seed) = 0x10
code_of (CopyCrc src dst seed) = 0x11

-- the seed
abbrev pub seed_of : ChecksumOp → Seed
seed_of (Crc src seed) = seed
seed_of (CopyCrc src dst seed) = seed

-- whether the seed is read from memory
abbrev pub is_in_memory : Seed → Bool
is_in_memory (Given value) = false
is_in_memory (At address) = true

-- the seed's value, if the descriptor has it
abbrev pub given_value : Seed → ℕ
given_value (Given value) = value
given_value (At address) = 0

-- the seed's address, if it is read from memory
abbrev pub seed_address : Seed → ℕ
seed_address (Given value) = 0
seed_address (At address) = address

-- bytes 16 to 23, the source (linux/idxd.h)
abbrev pub source_field : ChecksumOp → ℕ
source_field (Crc src seed) = src
source_field (CopyCrc src dst seed) = src

-- bytes 24 to 31, the destination of a copy (linux/idxd.h)
abbrev pub destination_field : ChecksumOp → ℕ
destination_field (Crc src seed) = 0
destination_field (CopyCrc src dst seed) = dst

-- bytes 40 to 43, the seed's value (linux/idxd.h)
abbrev pub given_field : ChecksumOp → ℕ
given_field op = given_value (seed_of op)

-- bytes 48 to 55, the seed's address (linux/idxd.h)
abbrev pub address_field : ChecksumOp → ℕ
address_field op = seed_address (seed_of op)
