-- Which checksums a list may hold, by their fields.
use Rattle.std.specs.Prelude.{◌≡◌, ℕ, ◌%◌, ◌^◌, ◌<◌, bit_and}
use Rattle.std.specs.List.{AllByRecursion}
use Rattle.dsa_descriptor.specs.Data.{record_span}
use Rattle.dsa_descriptor.specs.Profile.{required_flags}
use Rattle.dsa_descriptor.specs.Spans.{ApartFrom, IsAddressable}
use Rattle.dsa_ranges.specs.Hazards.{AreApart}
use Rattle.dsa_operations.specs.declared.checksum_op.ChecksumOp.{ChecksumOp}
use Rattle.dsa_operations.specs.declared.checksum_op.ChecksumOp.TheVariants.{Crc, CopyCrc}
use Rattle.dsa_operations.specs.declared.checksum_op.Seed.{Seed}
use Rattle.dsa_operations.specs.declared.checksum_op.Seed.TheVariants.{Given, At}
use Rattle.dsa_operations.specs.Data.{data_of, sources, targets}
use Rattle.dsa_operations.specs.Fields.{ChecksumFields}
use Rattle.dsa_operations.specs.Operands.{has_flag, is_in_memory, seed_of}

-- the flags of a checksum that change what it does: 0x010000, its seed is read from memory, and 0x020000 and 0x040000, which
-- checksum it is (specification 341204, CRC generation)
abbrev pub checksum_flags : ℕ
checksum_flags = 0x070000

-- 0x0001, fence; 0x0010, interrupt; 0x0040; 0x0080, check result; and the bits 19 to 23 (this project's choice, as for
-- descriptors; the bits 16 to 18 are flags of a checksum)
abbrev pub refused_flags : ℕ
refused_flags = 0xf800d1

-- each required flag is set, and no refused flag is
pub record AreListedFlags (flags : ℕ) : Type 0 where
  pub required : bit_and flags required_flags ≡ required_flags
  pub refused : bit_and flags refused_flags ≡ 0

-- the seed fits its place
abbrev pub SeedFits : Seed → Type 0
SeedFits (Given value) = value < 2 ^ 32
SeedFits (At address) = address < 2 ^ 64

-- the fields of the operation fit their places
abbrev pub FieldsFit : ChecksumOp → Type 0
FieldsFit (Crc src seed) = (src < 2 ^ 64) × SeedFits seed
FieldsFit (CopyCrc src dst seed) = (src < 2 ^ 64) × (dst < 2 ^ 64) × SeedFits seed

-- no address of the destination is read: neither of the source (specification 341204, restrictions, as of a dualcast) nor of a
-- seed in memory, since it is not said when that is read (this project's choice)
abbrev pub RegionsApart : ChecksumOp → ℕ → Type 0
RegionsApart op size = AreApart (targets op size) (sources op size)

-- the flag 0x010000 says whether the seed is read from memory (specification 341204, CRC generation)
abbrev pub TellsSeed : ℕ → ChecksumOp → Type 0
TellsSeed flags op = has_flag flags 0x010000 ≡ is_in_memory (seed_of op)

-- what a list may hold: each field fits its place, and each rule is kept (this project's choice, on the formats of
-- specification 341204)
pub record IsListedChecksum (f : ChecksumFields) : Type 0 where
  -- each field fits its place
  pub pasid_fits : f.pasid < 2 ^ 20
  pub flags_fit : f.flags < 2 ^ 24
  pub record_at_fits : f.record_at < 2 ^ 64
  pub size_fits : f.size < 2 ^ 32
  pub int_handle_fits : f.int_handle < 2 ^ 16
  pub op_fits : FieldsFit f.op
  pub seed_told : TellsSeed f.flags f.op
  -- the rules
  pub flags_listed : AreListedFlags f.flags
  pub size_positive : 0 < f.size
  pub record_addressable : IsAddressable (record_span f.record_at)
  pub data_addressable : AllByRecursion IsAddressable (data_of f.op f.size)
  pub record_aligned : f.record_at % 32 ≡ 0
  pub regions_apart : RegionsApart f.op f.size
  pub record_apart : ApartFrom (record_span f.record_at) (data_of f.op f.size)
