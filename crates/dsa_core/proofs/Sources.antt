-- Rows of bytes in memory: two in turn, and those of two memories that agree.
use Rattle.std.proofs.Common.{◌≡◌, ℕ, zero, suc, ◌+◌, ◌<◌, ◌≤◌, [], ◌∷◌, ◌++◌, arith, refl, sym, ap, ap₂, ◌∙◌}
use Rattle.dsa_image.specs.Memory.{Memory, byte_at, bytes_from}

-- the first byte and the others
bytes_from_first : (m : Memory) (at n : ℕ) → bytes_from m at (suc n) ≡ byte_at m at ∷ bytes_from m (at + 1) n
unfolding bytes_from
bytes_from_first m at n = refl

pub bytes_from_none : (m : Memory) (at : ℕ) → bytes_from m at 0 ≡ []
unfolding bytes_from
bytes_from_none m at = refl

-- one row after another
pub bytes_from_join : (m : Memory) (at p q n : ℕ) → p + q ≡ n → bytes_from m at p ++ bytes_from m (at + p) q ≡ bytes_from m at n
bytes_from_join m at zero q n e =
    let start : at + 0 ≡ at = omega arith in
    let count : q ≡ n = omega arith in
    ap (λ bytes. bytes ++ bytes_from m (at + 0) q) (bytes_from_none m at) ∙ ap₂ (bytes_from m) start count
bytes_from_join m at (suc p) q zero e = absurd (omega arith)
bytes_from_join m at (suc p) q (suc n) e =
    let start : at + suc p ≡ at + 1 + p = omega arith in
    let count : p + q ≡ n = omega arith in
    ap (λ bytes. bytes ++ bytes_from m (at + suc p) q) (bytes_from_first m at p)
    ∙ ap (λ a. byte_at m at ∷ (bytes_from m (at + 1) p ++ bytes_from m a q)) start
    ∙ ap (λ bytes. byte_at m at ∷ bytes) (bytes_from_join m (at + 1) p q n count)
    ∙ sym (bytes_from_first m at n)

-- memories that agree on a row have the same one
pub bytes_from_same :
    (m n : Memory) (at count : ℕ) → ((a : ℕ) → at ≤ a → a < at + count → byte_at m a ≡ byte_at n a) → bytes_from m at count ≡ bytes_from n at count
bytes_from_same m n at zero agree = bytes_from_none m at ∙ sym (bytes_from_none n at)
bytes_from_same m n at (suc count) agree =
    bytes_from_first m at count
    ∙ ap₂ (λ byte bytes. byte ∷ bytes) (agree at (omega arith) (omega arith))
    (bytes_from_same m n (at + 1) count (λ a low high. agree a (omega arith) (omega arith)))
    ∙ sym (bytes_from_first n at count)
