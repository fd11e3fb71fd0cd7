-- A checksum as its fields, and which checksum these ask for.
use Rattle.dsa_checksum.specs.declared.variant.Variant.{Variant}
use Rattle.dsa_operations.specs.declared.checksum.Checksum.{Checksum}
use Rattle.dsa_operations.specs.Fields.{ChecksumFields}
use Rattle.dsa_operations.specs.Operands.{has_flag}

-- the fields of a checksum, without the fact that they meet the profile
abbrev pub checksum_fields : Checksum → ChecksumFields
checksum_fields c =
    record {
      pasid = c.pasid;
      privileged = c.privileged;
      flags = c.flags.0;
      record_at = c.record_at;
      size = c.size;
      int_handle = c.int_handle;
      op = c.op;
    }

-- by the flags 0x020000, neither invert nor reflect the seed and the checksum, and 0x040000, do not reflect the bits of each
-- byte of data (specification 341204, CRC generation)
abbrev pub variant_of : ChecksumFields → Variant
variant_of f = record { bypasses_inversion = has_flag f.flags 0x020000; bypasses_data_reflection = has_flag f.flags 0x040000 }
