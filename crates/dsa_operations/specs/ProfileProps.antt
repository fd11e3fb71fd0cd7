-- There is at most one proof that a checksum is listed, as the ghost field of `Checksum` requires.
use Rattle.std.proofs.Props.{props}
use Rattle.dsa_operations.specs.declared.checksum_op.ChecksumOp.{ChecksumOp}
use Rattle.dsa_operations.specs.declared.checksum_op.ChecksumOp.TheVariants.{Crc, CopyCrc}
use Rattle.dsa_operations.specs.declared.checksum_op.Seed.{Seed}
use Rattle.dsa_operations.specs.declared.checksum_op.Seed.TheVariants.{Given, At}
use Rattle.dsa_operations.specs.Fields.{ChecksumFields}
use Rattle.dsa_operations.specs.Profile.{FieldsFit, IsListedChecksum, SeedFits}

-- at most one proof that a seed fits
SeedFits-prop : (seed : Seed) → IsProp (SeedFits seed)
SeedFits-prop (Given value) = hlevel props
SeedFits-prop (At address) = hlevel props

-- at most one proof that the fields of an operation fit
FieldsFit-prop : (op : ChecksumOp) → IsProp (FieldsFit op)
FieldsFit-prop (Crc src seed) = hlevel (SeedFits-prop, props)
FieldsFit-prop (CopyCrc src dst seed) = hlevel (SeedFits-prop, props)

-- at most one proof that fields are listed
pub IsListedChecksum-prop : (f : ChecksumFields) → IsProp (IsListedChecksum f)
IsListedChecksum-prop f = hlevel (FieldsFit-prop, props)
