-- Flags of submissions that events mark.
use Rattle.std.proofs.Common.{◌≡◌, ℕ, ◌<◌, inl, inr, Bool, true, false, List, length, get_or, Option, None, Some, refl, sym, ap, ◌∙◌}
use Rattle.std.specs.Prelude.{◌||◌, ◌==◌}
use Rattle.std.proofs.lemmas.Bool.{cases_Bool}
use Rattle.std.proofs.lemmas.Bool.Decides.{Decides-eqb}
use Rattle.dsa_waits.specs.Steps.{Marks}
use Rattle.dsa_waits.specs.Waits.{is_number}

first_true : (a b c : Bool) → a ≡ true → b ≡ true → a ≡ (b || c)
first_true a true c a_is b_is = a_is
first_true a false c a_is b_is = let no : false ≡ true = b_is in absurd cc

second_true : (a b c : Bool) → a ≡ true → c ≡ true → a ≡ (b || c)
second_true a true c a_is c_is = a_is
second_true a false c a_is c_is = a_is ∙ sym c_is

both_false : (a b c : Bool) → a ≡ false → b ≡ false → c ≡ false → a ≡ (b || c)
both_false a true c a_is b_is c_is = let no : true ≡ false = b_is in absurd cc
both_false a false c a_is b_is c_is = a_is ∙ sym c_is

-- another number
no_number : (n : ℕ) (number : Option ℕ) → (number ≡ Some n → ⊥) → is_number n number ≡ false
no_number n None other = refl
no_number n (Some m) other =
    elim (cases_Bool (m == n)) [
      | inl same ↦ absurd (other (ap Some ((Decides-eqb m n).0 same)))
      | inr apart ↦ apart
    ]

-- what a flag is afterwards
pub marked_each : (number : Option ℕ) (old new : List Bool) (n : ℕ) → Marks number old new → n < length old → get_or new n false ≡ (get_or old n false || is_number n number)
marked_each number old new n marks within =
    elim (cases_Bool (get_or new n false)) [
      | inl is_set ↦
          elim (marks.marked n within is_set) [
            | inl before ↦ first_true (get_or new n false) (get_or old n false) (is_number n number) is_set before
            | inr now ↦
                second_true (get_or new n false) (get_or old n false) (is_number n number) is_set (ap (is_number n) now ∙ (Decides-eqb n n).1 refl)
          ]
      | inr unset ↦
          let both = marks.others n within unset in
          both_false (get_or new n false) (get_or old n false) (is_number n number) unset both.0 (no_number n number both.1)
    ]
