-- Which checksum the 64 bytes of a descriptor name.
use Rattle.std.specs.Prelude.{ℕ, ◌==◌, List, Option, Some, None, if◌then◌else◌}
use Rattle.dsa_descriptor.specs.Places.{u32_at, u64_at, flags_at, code_at}
use Rattle.dsa_operations.specs.declared.checksum_op.ChecksumOp.{ChecksumOp}
use Rattle.dsa_operations.specs.declared.checksum_op.ChecksumOp.TheVariants.{Crc, CopyCrc}
use Rattle.dsa_operations.specs.declared.checksum_op.Seed.{Seed}
use Rattle.dsa_operations.specs.declared.checksum_op.Seed.TheVariants.{Given, At}
use Rattle.dsa_operations.specs.Operands.{has_flag}

-- the seed: with the flag 0x010000 it is read from the address in bytes 48 to 55, else bytes 40 to 43 have it (specification
-- 341204, CRC generation; places of linux/idxd.h)
abbrev pub seed_at : List ℕ → Seed
seed_at bytes = if has_flag (flags_at bytes) 0x010000 then At (u64_at 48 bytes) else Given (u32_at 40 bytes)

-- the operation that the bytes name, if its code is that of a checksum (linux/idxd.h)
unfoldable pub checksum_at : List ℕ → Option ChecksumOp
checksum_at bytes =
    if code_at bytes == 0x10 then Some (Crc (u64_at 16 bytes) (seed_at bytes)) else
    if code_at bytes == 0x11 then Some (CopyCrc (u64_at 16 bytes) (u64_at 24 bytes) (seed_at bytes)) else
    None
