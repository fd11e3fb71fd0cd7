-- What a checksum leaves, address by address, and what another reads of it.
use Rattle.std.proofs.Common.{◌≡◌, ℕ, ◌+◌, ◌-◌, ◌<◌, ◌≤◌, inl, inr, List, ◌++◌, length, get_or, sym, ap, ◌∙◌, arith, subst}
use Rattle.std.specs.Prelude.{drop, take, unwrap_or}
use Rattle.std.specs.Int.{bytes_low_first, from_le_bytes, to_le_bytes, w32, w64}
use Rattle.std.proofs.Math.ListN.{get_or-append}
use Rattle.std.proofs.lemmas.List.{get_or-append-add, get_or_default, same_lists}
use Rattle.std.proofs.lemmas.Nat.{from_le_bytes-to_le_bytes_4}
use Rattle.dsa_descriptor.specs.Records.{layout}
use Rattle.dsa_image.specs.Basics.{plain_record}
use Rattle.dsa_operations.specs.Data.{data_of}
use Rattle.dsa_descriptor.specs.Data.{record_span}
use Rattle.dsa_descriptor.specs.Spans.{InSome}
use Rattle.dsa_image.specs.Memory.{Holds, HoldsSpan, Memory, SameAddresses, byte_at, bytes_from, changed, written}
use Rattle.dsa_image.proofs.ImageBytes.{get_or-bytes_from, length-bytes_from, written-in}
use Rattle.dsa_image.proofs.Joins.{copied-in}
use Rattle.dsa_image.proofs.MemoryLemmas.{Holds-changed_from, SameAddresses-changed, SameAddresses-trans, byte_at-changed, byte_at-changed_none}
use Rattle.dsa_operations.specs.declared.checksum_op.Seed.TheVariants.{At, Given}
use Rattle.dsa_operations.specs.declared.checksum_op.ChecksumOp.TheVariants.{CopyCrc}
use Rattle.dsa_operations.specs.declared.checksum_op.Seed.{Seed}
use Rattle.dsa_operations.specs.Checksums.{variant_of}
use Rattle.dsa_operations.specs.Fields.{ChecksumFields}
use Rattle.dsa_operations.specs.Operands.{source_field}
use Rattle.dsa_core.specs.Checksums.{begun_value, checksum_done, checksum_value, copied_data, value_record}
use Rattle.dsa_execution.specs.Left.{CopyIsLeft, OthersAreLeft, RecordIsLeft, ValueIsLeft}
use Rattle.dsa_core.proofs.Local.{copied_data_outside, record_outside}
use Rattle.dsa_core.proofs.Values.{checksum_fits}

-- a memory has the same addresses after it
pub done_addresses : (f : ChecksumFields) (m : Memory) → SameAddresses (checksum_done f m) m
done_addresses f m = SameAddresses-trans (checksum_done f m) _ m (SameAddresses-changed _ _) (SameAddresses-changed _ _)

-- every byte outside what it writes is as before
pub others_are_left : OthersAreLeft
others_are_left f m a out =
    byte_at-changed_none (changed m (copied_data f.op 0 f.size m)) (written f.record_at (value_record (checksum_value f m))) a
    (record_outside f.record_at (checksum_value f m) a (λ there. out (inl there)))
    ∙ byte_at-changed_none m (copied_data f.op 0 f.size m) a (copied_data_outside f.op f.size 0 f.size m a (omega arith) (λ there. out (inr there)))

-- each byte of the record
record_byte : (f : ChecksumFields) (m : Memory) (k : ℕ) → HoldsSpan m (record_span f.record_at) → k < 32 →
    byte_at (checksum_done f m) (f.record_at + k) ≡ get_or (value_record (checksum_value f m)) k 0
record_byte f m k held lt =
    let copied : Memory = changed m (copied_data f.op 0 f.size m) in
    let bytes : List ℕ = value_record (checksum_value f m) in
    let there : Holds copied (f.record_at + k) =
    Holds-changed_from m (copied_data f.op 0 f.size m) (f.record_at + k) (held (f.record_at + k) (omega arith, omega arith)) in
    byte_at-changed copied (written f.record_at bytes) (f.record_at + k) there
    ∙ ap (λ o. unwrap_or o (byte_at copied (f.record_at + k))) (written-in f.record_at bytes k lt)

-- the rows of bytes in it
row_is : (m : Memory) (at : ℕ) (bytes : List ℕ) → ((k : ℕ) → k < length bytes → byte_at m (at + k) ≡ get_or bytes k 0) → bytes_from m at (length bytes) ≡ bytes
row_is m at bytes each =
    same_lists (bytes_from m at (length bytes)) bytes (length-bytes_from m at (length bytes))
    (λ k d lt.
    let below : k < length bytes = omega (arith, lt, length-bytes_from m at (length bytes)) in
    get_or-bytes_from m at (length bytes) k d below ∙ each k below ∙ get_or_default bytes k 0 d below)

pub record_is_left : RecordIsLeft
record_is_left f m held = row_is (checksum_done f m) f.record_at (value_record (checksum_value f m)) (λ k lt. record_byte f m k held lt)

-- the bytes of the value
value_byte : (f : ChecksumFields) (m : Memory) (k : ℕ) → HoldsSpan m (record_span f.record_at) → k < 8 →
    byte_at (checksum_done f m) (f.record_at + 16 + k) ≡ get_or (to_le_bytes w64 (checksum_value f m)) k 0
value_byte f m k held lt =
    let value : ℕ = checksum_value f m in
    let place : f.record_at + 16 + k ≡ f.record_at + (16 + k) = omega arith in
    ap (byte_at (checksum_done f m)) place
    ∙ record_byte f m (16 + k) held (omega arith)
    ∙ get_or-append-add (take 16 (layout (plain_record 1))) (to_le_bytes w64 value ++ drop 24 (layout (plain_record 1))) k 0
    ∙ get_or-append (to_le_bytes w64 value) (drop 24 (layout (plain_record 1))) 0 k lt

pub value_is_left : ValueIsLeft
value_is_left f m held =
    row_is (checksum_done f m) (f.record_at + 16) (to_le_bytes w64 (checksum_value f m)) (λ k lt. value_byte f m k held lt)

-- the first four bytes of the value are the value, since it fits them
pub value_read : (f : ChecksumFields) (m : Memory) → HoldsSpan m (record_span f.record_at) →
    from_le_bytes w32 (bytes_from (checksum_done f m) (f.record_at + 16) 4) ≡ checksum_value f m
value_read f m held =
    let value : ℕ = checksum_value f m in
    ap (from_le_bytes w32)
    (row_is (checksum_done f m) (f.record_at + 16) (to_le_bytes w32 value)
    (λ k lt. value_byte f m k held (omega arith) ∙ get_or-append (to_le_bytes w32 value) (bytes_low_first 4 4 value) 0 k lt))
    ∙ from_le_bytes-to_le_bytes_4 value (checksum_fits (variant_of f) (begun_value f m) (bytes_from m (source_field f.op) f.size))

-- the destination is data
in_destination : (src dst size a : ℕ) (seed : Seed) → dst ≤ a → a < dst + size → InSome (data_of (CopyCrc src dst seed) size) a
in_destination src dst size a (Given value) low high = inr (inl (low, high))
in_destination src dst size a (At address) low high = inr (inr (inl (low, high)))

pub copy_is_left : CopyIsLeft
copy_is_left f src dst seed m k listed is lt held =
    let copied : Memory = changed m (copied_data f.op 0 f.size m) in
    let back : dst + k - dst ≡ k = omega arith in
    let is_data : InSome (data_of f.op f.size) (dst + k) =
    subst (λ op. InSome (data_of op f.size) (dst + k)) (sym is) (in_destination src dst f.size (dst + k) seed (omega arith) (omega arith)) in
    byte_at-changed_none copied (written f.record_at (value_record (checksum_value f m))) (dst + k)
    (record_outside f.record_at (checksum_value f m) (dst + k) (λ there. listed.record_apart (dst + k) there is_data))
    ∙ byte_at-changed m (copied_data f.op 0 f.size m) (dst + k) held
    ∙ ap (λ op. unwrap_or (copied_data op 0 f.size m (dst + k)) (byte_at m (dst + k))) is
    ∙ ap (λ o. unwrap_or o (byte_at m (dst + k))) (copied-in m src dst 0 f.size (dst + k) (omega arith) (omega arith))
    ∙ ap (λ j. byte_at m (src + j)) back
