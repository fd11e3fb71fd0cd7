-- What a checksum leaves, address by address.
use Rattle.std.specs.Prelude.{◌≡◌, ℕ, ◌+◌, ◌<◌}
use Rattle.std.specs.Int.{to_le_bytes, w64}
use Rattle.dsa_descriptor.specs.Data.{record_span}
use Rattle.dsa_descriptor.specs.Spans.{InSome}
use Rattle.dsa_image.specs.Memory.{Holds, HoldsSpan, Memory, byte_at, bytes_from}
use Rattle.dsa_operations.specs.declared.checksum_op.ChecksumOp.TheVariants.{CopyCrc}
use Rattle.dsa_operations.specs.declared.checksum_op.Seed.{Seed}
use Rattle.dsa_operations.specs.Data.{checksum_writes}
use Rattle.dsa_operations.specs.Fields.{ChecksumFields}
use Rattle.dsa_operations.specs.Profile.{IsListedChecksum}
use Rattle.dsa_core.specs.Checksums.{checksum_done, checksum_value, value_record}

-- the completion record is there, with the value
abbrev pub RecordIsLeft : Type 0
RecordIsLeft =
    (f : ChecksumFields) (m : Memory) → HoldsSpan m (record_span f.record_at) →
    bytes_from (checksum_done f m) f.record_at 32 ≡ value_record (checksum_value f m)

-- the value is in its bytes 16 to 23
abbrev pub ValueIsLeft : Type 0
ValueIsLeft =
    (f : ChecksumFields) (m : Memory) → HoldsSpan m (record_span f.record_at) →
    bytes_from (checksum_done f m) (f.record_at + 16) 8 ≡ to_le_bytes w64 (checksum_value f m)

-- a copy's destination has the bytes of its source
abbrev pub CopyIsLeft : Type 0
CopyIsLeft =
    (f : ChecksumFields) (src dst : ℕ) (seed : Seed) (m : Memory) (k : ℕ) → IsListedChecksum f → f.op ≡ CopyCrc src dst seed →
    k < f.size → Holds m (dst + k) → byte_at (checksum_done f m) (dst + k) ≡ byte_at m (src + k)

-- every other byte is as before
abbrev pub OthersAreLeft : Type 0
OthersAreLeft =
    (f : ChecksumFields) (m : Memory) (a : ℕ) → (InSome (checksum_writes f) a → ⊥) → byte_at (checksum_done f m) a ≡ byte_at m a
