use Rattle.std.proofs.Common.{◌≡◌, ℕ, ◌-◌, ◌%◌, List, length, take, drop, get_or, sym, ap, ◌∙◌, arith}
use Rattle.std.proofs.lemmas.List.{take_all, length-drop}
use Rattle.std.proofs.lemmas.Slice.Eq.{bytes_eq-Decides}
use Rattle.dsa_image.specs.Basics.{pattern_byte}
use Rattle.dsa_image.proofs.Repeats.{repeats_row}
use Rattle.dsa_image.proofs.compare.repeats.Goals as goal

pub returns-then-eq : goal.returns-then-eq
unfolding pattern_byte
returns-then-eq c = λ same k inside.
    let bytes = c.args.bytes.now in
    let rest = length bytes - 8 in
    let front : take 8 bytes ≡ c.to_le_bytes-row.result = (bytes_eq-Decides (take 8 bytes) c.to_le_bytes-row.result).0 (sym c.if-eq.ensures) in
    let shifted : take rest (drop 8 bytes) ≡ take rest bytes = (bytes_eq-Decides (take rest (drop 8 bytes)) (take rest bytes)).0 (sym c.eq-then-eq.ensures ∙ same) in
    let all : take rest (drop 8 bytes) ≡ drop 8 bytes = take_all rest (drop 8 bytes) (omega (arith, length-drop 8 bytes)) in
    repeats_row bytes c.to_le_bytes-row.result front (sym all ∙ shifted) (length bytes) k inside inside
    ∙ ap (λ (r : List ℕ). get_or r (k % 8) 0) c.to_le_bytes-row.ensures
