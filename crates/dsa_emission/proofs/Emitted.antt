-- The bytes of fenced descriptors and of batch descriptors.
use Rattle.std.proofs.Common.{ℕ, ◌≡◌, ◌+◌, List, [], ◌∷◌, ◌++◌, length, take, drop, arith}
use Rattle.std.specs.Prelude.{replicate}
use Rattle.std.specs.Int.{w32, w64, to_le_bytes}
use Rattle.dsa_emission.specs.Emission.{batch_spelling}

-- 64 zeros, the five fields of a batch descriptor written to their places
pub batch_written : (o zeros a b c e p q r s t : List ℕ) (record_at list_at count : ℕ) → length o ≡ 4 → zeros ≡ replicate 64 0 → a ≡ to_le_bytes w32 0x0100000c
    → b ≡ to_le_bytes w64 record_at → c ≡ to_le_bytes w64 list_at → e ≡ to_le_bytes w32 count → p ≡ take 0 zeros ++ o ++ drop (0 + length o) zeros → q ≡ take 4 p ++ a ++ drop (4 + length a) p
    → r ≡ take 8 q ++ b ++ drop (8 + length b) q → s ≡ take 16 r ++ c ++ drop (16 + length c) r → t ≡ take 32 s ++ e ++ drop (32 + length e) s
    → t ≡ batch_spelling o record_at list_at count
unfolding batch_spelling
batch_written [] zeros a b c e p q r s t record_at list_at count long none pa pb pc pe h1 h2 h3 h4 h5 = absurd (omega arith)
batch_written (_ ∷ []) zeros a b c e p q r s t record_at list_at count long none pa pb pc pe h1 h2 h3 h4 h5 = absurd (omega arith)
batch_written (_ ∷ _ ∷ []) zeros a b c e p q r s t record_at list_at count long none pa pb pc pe h1 h2 h3 h4 h5 = absurd (omega arith)
batch_written (_ ∷ _ ∷ _ ∷ []) zeros a b c e p q r s t record_at list_at count long none pa pb pc pe h1 h2 h3 h4 h5 = absurd (omega arith)
batch_written (_ ∷ _ ∷ _ ∷ _ ∷ _ ∷ _) zeros a b c e p q r s t record_at list_at count long none pa pb pc pe h1 h2 h3 h4 h5 = absurd (omega arith)
batch_written (x ∷ y ∷ z ∷ w ∷ []) zeros a b c e p q r s t record_at list_at count long none pa pb pc pe h1 h2 h3 h4 h5 =
    let o : List ℕ = x ∷ y ∷ z ∷ w ∷ [] in
    let p' : p ≡ o ++ replicate 60 0 = rw none at h1 in
    let q' : q ≡ o ++ to_le_bytes w32 0x0100000c ++ replicate 56 0 = rw (p', pa) at h2 in
    let r' : r ≡ o ++ to_le_bytes w32 0x0100000c ++ to_le_bytes w64 record_at ++ replicate 48 0 = rw (q', pb) at h3 in
    let s' : s ≡ o ++ to_le_bytes w32 0x0100000c ++ to_le_bytes w64 record_at ++ to_le_bytes w64 list_at ++ replicate 40 0 = rw (r', pc) at h4 in
    rw (s', pe) at h5
