-- The options after the record of a line, and the flags that they set.
use Rattle.std.specs.Prelude.{ℕ, ◌==◌, Bool, false, not, Option, Some, None, bit_and, bit_or, if◌then◌else◌}
use Rattle.dsa_descriptor.specs.Profile.{required_flags}
use Rattle.dsa_operations.specs.declared.checksum_op.Seed.{Seed}
use Rattle.dsa_operations.specs.declared.checksum_op.Seed.TheVariants.{Given, At}
use Rattle.dsa_operations.specs.OperationFields.{OperationFields}
use Rattle.dsa_operations.specs.OperationFields.OperationFields.{OfDescriptor, OfChecksum}
use Rattle.dsa_operations.specs.Operands.{seed_of}
use Rattle.dsa_operations.specs.declared.listed_op.ListedOp.{ListedOp}
use Rattle.dsa_operations.specs.declared.listed_op.ListedOp.TheVariants as either
use Rattle.dsa_lines.specs.declared.options.Options.{Options}

-- no option has been read yet
abbrev pub no_options : Options
no_options = record { pasid = None; privileged = false; check = false; flags = None; handle = None }

-- the flags that are carried and have no name here: 0x0002, 0x0020, 0x0100 to 0x8000, and those of a checksum, 0x020000 and
-- 0x040000. That its seed is read from memory, 0x010000, the seed says
abbrev pub carried_mask : ℕ
carried_mask = 0x06ff22

-- check result
abbrev pub check_mask : ℕ
check_mask = 0x80

-- the number, or 0 if there is none
abbrev pub or_zero : Option ℕ → ℕ
or_zero None = 0
or_zero (Some n) = n

-- the required flags, those under `flags`, and check result under `check`
abbrev pub flags_with : ℕ → Bool → ℕ
flags_with carried check = bit_or (bit_or required_flags carried) (if check then check_mask else 0)

-- 0x010000, if the seed is read from memory (specification 341204, CRC generation)
abbrev pub seed_flag : Seed → ℕ
seed_flag (Given value) = 0
seed_flag (At address) = 0x010000

-- the flags of the line of this operation: for a checksum, also that of its seed
abbrev pub line_flags : ListedOp → ℕ → Bool → ℕ
line_flags (either.Descriptor op) carried check = flags_with carried check
line_flags (either.Checksum op) carried check = bit_or (flags_with carried check) (seed_flag (seed_of op))

-- the fields of this operation: its owner's PASID and privilege, its flags, the address of its record, its size and its
-- interrupt handle
abbrev pub fields_by : ListedOp → ℕ → Bool → (flags record_at size int_handle : ℕ) → OperationFields
fields_by (either.Descriptor op) pasid privileged flags record_at size int_handle =
    OfDescriptor (record {
      pasid = pasid;
      privileged = privileged;
      flags = flags;
      record_at = record_at;
      size = size;
      int_handle = int_handle;
      op = op;
    })
fields_by (either.Checksum op) pasid privileged flags record_at size int_handle =
    OfChecksum (record {
      pasid = pasid;
      privileged = privileged;
      flags = flags;
      record_at = record_at;
      size = size;
      int_handle = int_handle;
      op = op;
    })

-- the number of an option that the line leaves out is 0
abbrev pub fields_with : ListedOp → ℕ → ℕ → Options → OperationFields
fields_with op size record_at o =
    fields_by op (or_zero o.pasid) o.privileged (line_flags op (or_zero o.flags) o.check) record_at size (or_zero o.handle)

-- the flags of an operation that are written under `flags`
abbrev pub carried_flags : ℕ → ℕ
carried_flags flags = bit_and flags carried_mask

-- `check` is written: the flag check result is set
abbrev pub writes_check : ℕ → Bool
writes_check flags = not (bit_and flags check_mask == 0)
