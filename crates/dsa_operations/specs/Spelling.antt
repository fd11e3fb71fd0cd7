-- The one spelling of each checksum.
use Rattle.std.specs.Prelude.{ℕ, ◌+◌, ◌*◌, ◌^◌, List, ◌++◌, replicate, if◌then◌else◌}
use Rattle.std.specs.Int.{w16, w32, w64, to_le_bytes}
use Rattle.dsa_operations.specs.Fields.{ChecksumFields}
use Rattle.dsa_operations.specs.Operands.{address_field, code_of, destination_field, given_field, source_field}

-- the PASID in bits 0 to 19, the privilege in bit 31
abbrev pub owner_word : ChecksumFields → ℕ
owner_word f = f.pasid + (if f.privileged then 2 ^ 31 else 0)

-- the flags in bits 0 to 23, the operation code in bits 24 to 31
abbrev pub operation_word : ChecksumFields → ℕ
operation_word f = f.flags + code_of f.op * 2 ^ 24

-- the 64 bytes of a checksum (specification 341204, descriptor format; places and codes of linux/idxd.h)
unfoldable pub checksum_spelling : ChecksumFields → List ℕ
checksum_spelling f =
    to_le_bytes w32 (owner_word f)
    ++ to_le_bytes w32 (operation_word f)
    ++ to_le_bytes w64 f.record_at
    ++ to_le_bytes w64 (source_field f.op)
    ++ to_le_bytes w64 (destination_field f.op)
    ++ to_le_bytes w32 f.size
    ++ to_le_bytes w16 f.int_handle
    ++ replicate 2 0
    ++ to_le_bytes w32 (given_field f.op)
    ++ replicate 4 0
    ++ to_le_bytes w64 (address_field f.op)
    ++ replicate 8 0
