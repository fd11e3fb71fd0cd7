-- Writing items one by one at the front of a buffer.
use Rattle.std.proofs.Common.{List, [], ◌∷◌, ℕ, ◌≡◌, ◌+◌, ◌-◌, ◌<◌, ◌++◌, length, drop, set, ap, sym, ◌∙◌, append_assoc, arith}
use Rattle.std.proofs.lemmas.List.{set-append_right, drop_more}

-- one more item
pub put_more : {X : Type 0} (front old : List X) (i : ℕ) (v : X) → length front ≡ i → i < length old → set (front ++ drop i old) i v ≡ (front ++ (v ∷ [])) ++ drop (i + 1) old
put_more {X} front old i v long inside =
    let none : i - i ≡ 0 = omega arith in
    set-append_right front (drop i old) i i v long (omega arith)
    ∙ ap (λ (n : ℕ). front ++ set (drop i old) n v) none
    ∙ ap (λ (ys : List X). front ++ set ys 0 v) (drop_more old i v inside)
    ∙ sym (append_assoc front (v ∷ []) (drop (i + 1) old))
