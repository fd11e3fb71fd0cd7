-- The regions of a copy with a checksum.
use Rattle.std.proofs.Common.{◌≡◌, ℕ, inl, inr, sym, subst}
use Rattle.std.specs.Prelude.{◌↔◌}
use Rattle.dsa_descriptor.specs.Spans.{ApartFrom, span}
use Rattle.dsa_operations.specs.declared.checksum_op.ChecksumOp.{ChecksumOp}
use Rattle.dsa_operations.specs.declared.checksum_op.ChecksumOp.TheVariants.{CopyCrc}
use Rattle.dsa_operations.specs.declared.checksum_op.Seed.{Seed}
use Rattle.dsa_operations.specs.Data.{sources}
use Rattle.dsa_operations.specs.Profile.{RegionsApart}

copied : (src dst size : ℕ) (seed : Seed) → ApartFrom (span dst size) (sources (CopyCrc src dst seed) size) ↔ RegionsApart (CopyCrc src dst seed) size
copied src dst size seed = ((λ h a t s. elim t [ inl x ↦ h a x s | inr none ↦ none ]), λ h a x s. h a (inl x) s)

pub copied_apart : (op : ChecksumOp) (src dst size : ℕ) (seed : Seed) → op ≡ CopyCrc src dst seed → ApartFrom (span dst size) (sources op size) ↔ RegionsApart op size
copied_apart op src dst size seed is = subst (λ (x : ChecksumOp). ApartFrom (span dst size) (sources x size) ↔ RegionsApart x size) (sym is) (copied src dst size seed)
