-- What is found of the rows of a part holds of the template's part.
use Rattle.std.proofs.Common.{◌≡◌, ℕ, List, length, map, sym, subst}
use Rattle.std.proofs.lemmas.List.{length-map}
use Rattle.dsa_prepared.specs.declared.row.Row.{Row}
use Rattle.dsa_prepared.specs.Filling.{AllBelow, IsFirstNot}
use Rattle.dsa_prepared.specs.Rows.{entry_in}
use Rattle.dsa_prepared.specs.Sound.{ArePut}

pub all_of : {Y : Type 0} (P : List Row → ℕ → Type 0) (f : Row → Y) (found whole : List Row) → found ≡ whole → AllBelow (length found) (P found) → AllBelow (length (map f whole)) (P whole)
all_of P f found whole is all =
    subst (λ (xs : List Row). AllBelow (length (map f xs)) (P xs)) is (subst (λ (n : ℕ). AllBelow n (P found)) (sym (length-map found f)) all)

pub first_of : {Y : Type 0} (P : List Row → ℕ → Type 0) (f : Row → Y) (found whole : List Row) (i : ℕ) → found ≡ whole → IsFirstNot (length found) (P found) i → IsFirstNot (length (map f whole)) (P whole) i
first_of P f found whole i is first =
    subst (λ (xs : List Row). IsFirstNot (length (map f xs)) (P xs) i) is (subst (λ (n : ℕ). IsFirstNot n (P found) i) (sym (length-map found f)) first)

pub put_of : (bases : List ℕ) (staging : ℕ) (found whole : List Row) (before now : List ℕ) → found ≡ whole → ArePut bases staging (map entry_in found) (length found) before now →
    ArePut bases staging (map entry_in whole) (length (map entry_in whole)) before now
put_of bases staging found whole before now is put =
    subst (λ (xs : List Row). ArePut bases staging (map entry_in xs) (length (map entry_in xs)) before now) is
    (subst (λ (n : ℕ). ArePut bases staging (map entry_in found) n before now) (sym (length-map found entry_in)) put)
