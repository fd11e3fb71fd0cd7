-- A checksum's fields, each written to its place, are its spelling.
use Rattle.std.proofs.Common.{◌≡◌, ℕ, List, ◌++◌, refl}
use Rattle.std.specs.Prelude.{replicate}
use Rattle.std.specs.Int.{w16, w32, w64, to_le_bytes}
use borrow.Rule.Slice.PartMut.{put_mid}
use Rattle.dsa_operations.specs.Fields.{ChecksumFields}
use Rattle.dsa_operations.specs.Operands.{address_field, destination_field, given_field, source_field}
use Rattle.dsa_operations.specs.Spelling.{checksum_spelling, operation_word, owner_word}

-- 64 bytes after the first seven fields were written
abbrev front : List ℕ → List ℕ → List ℕ → List ℕ → List ℕ → List ℕ → List ℕ → List ℕ
front a b c d e g h = put_mid 36 2 (put_mid 32 4 (put_mid 24 8 (put_mid 16 8 (put_mid 8 8 (put_mid 4 4 (a ++ replicate 60 0) b) c) d) e) g) h

pub written : (f : ChecksumFields) (a b c d e g h i j : List ℕ) → a ≡ to_le_bytes w32 (owner_word f) → b ≡ to_le_bytes w32 (operation_word f) → c ≡ to_le_bytes w64 f.record_at
    → d ≡ to_le_bytes w64 (source_field f.op) → e ≡ to_le_bytes w64 (destination_field f.op) → g ≡ to_le_bytes w32 f.size → h ≡ to_le_bytes w16 f.int_handle
    → i ≡ to_le_bytes w32 (given_field f.op) → j ≡ to_le_bytes w64 (address_field f.op)
    → put_mid 48 8 (put_mid 40 4 (front a b c d e g h) i) j ≡ checksum_spelling f
unfolding checksum_spelling
written f a b c d e g h i j pa pb pc pd pe pg ph pi pj = rw (pa, pb, pc, pd, pe, pg, ph, pi, pj) refl
