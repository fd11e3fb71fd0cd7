-- The definitions computed on the samples.
use Rattle.std.proofs.Common.{◌≡◌, ℕ, inl, inr, [], ◌∷◌, refl, arith}
use Rattle.dsa_checksum.specs.Checksum.{bits_of}
use Rattle.dsa_descriptor.specs.Spans.{InSome, span}
use Rattle.dsa_image.specs.Basics.{copied}
use Rattle.dsa_image.specs.Memory.{byte_at, bytes_from, changed, is_between, written}
use Rattle.dsa_operations.specs.Data.{checksum_writes}
use Rattle.dsa_core.specs.Checksums.{checksum_done}
use Rattle.dsa_execution.specs.Samples.{after_digits_checksum, after_digits_copy, digits_checksum, digits_copy, digits_memory, first_digits, last_digits}
use Rattle.dsa_execution.specs.Seeds.{IsChain, last_value}

pub checksum_left : checksum_done digits_checksum digits_memory ≡ after_digits_checksum
unfolding bits_of byte_at bytes_from changed is_between written
checksum_left = refl

pub copy_left : checksum_done digits_copy digits_memory ≡ after_digits_copy
unfolding bits_of byte_at bytes_from changed copied is_between written
copy_left = refl

pub chain_value : last_value first_digits (last_digits ∷ []) digits_memory ≡ 0xe3069283
unfolding bits_of byte_at bytes_from changed is_between written
chain_value = refl

apart : (a : ℕ) → InSome (checksum_writes first_digits) a → InSome (span 5 4 ∷ []) a → ⊥
apart a (inl there) (inl here) = omega (arith, there.0, here.1)
apart a (inl there) (inr none) = none
apart a (inr none) here = none

pub is_chain : IsChain first_digits (last_digits ∷ [])
is_chain = (record { source = refl; seed = refl; variant = refl }, apart, tt)
