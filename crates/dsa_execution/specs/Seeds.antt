-- Checksums that go on from each other: each reads its seed from the completion record of the one before.
use Rattle.std.specs.Prelude.{◌≡◌, ⊤, ℕ, ◌+◌, All, List, [], ◌∷◌}
use Rattle.dsa_checksum.specs.Checksum.{checksum}
use Rattle.dsa_descriptor.specs.Data.{record_span}
use Rattle.dsa_descriptor.specs.Spans.{span}
use Rattle.dsa_image.specs.Memory.{HoldsSpan, Memory, bytes_from}
use Rattle.dsa_operations.specs.declared.checksum_op.Seed.TheVariants.{At}
use Rattle.dsa_operations.specs.Checksums.{variant_of}
use Rattle.dsa_operations.specs.Data.{checksum_writes}
use Rattle.dsa_operations.specs.Fields.{ChecksumFields}
use Rattle.dsa_operations.specs.Operands.{seed_of, source_field}
use Rattle.dsa_ranges.specs.Hazards.{AreApart}
use Rattle.dsa_core.specs.Checksums.{begun_value, checksum_done, checksum_value}

-- the second goes on where the first ends: over the bytes after its source, from the value in its record, in the same variant
pub record GoesOn (f g : ChecksumFields) : Type 0 where
  pub source : source_field g.op ≡ source_field f.op + f.size
  pub seed : seed_of g.op ≡ At (f.record_at + 16)
  pub variant : variant_of g ≡ variant_of f

-- how many bytes the sources have together
abbrev pub total_size : ChecksumFields → List ChecksumFields → ℕ
total_size f [] = f.size
total_size f (g ∷ gs) = f.size + total_size g gs

-- each goes on where the one before ends, and writes nothing that a later one has as its source
abbrev pub IsChain : ChecksumFields → List ChecksumFields → Type 0
IsChain f [] = ⊤
IsChain f (g ∷ gs) = GoesOn f g × AreApart (checksum_writes f) (span (source_field g.op) (total_size g gs) ∷ []) × IsChain g gs

-- the value of the last one, if they are done one after another
abbrev pub last_value : ChecksumFields → List ChecksumFields → Memory → ℕ
last_value f [] m = checksum_value f m
last_value f (g ∷ gs) m = last_value g gs (checksum_done f m)

-- the last value is that of one checksum over all the bytes together
abbrev pub ChainsGoOn : Type 0
ChainsGoOn =
    (f : ChecksumFields) (gs : List ChecksumFields) (m : Memory) →
    IsChain f gs → All (λ h. HoldsSpan m (record_span h.record_at)) (f ∷ gs) →
    last_value f gs m ≡ checksum (variant_of f) (begun_value f m) (bytes_from m (source_field f.op) (total_size f gs))
