-- Texts of digits alone.
use Rattle.std.proofs.Common.{◌≡◌, ℕ, ◌^◌, ◌<◌, List, [], ◌∷◌, ◌++◌, length, get_or, false, Some, refl, sym, ap, ◌∙◌, arith, append-nil, lt-ltb, ne_eqb}
use Rattle.std.specs.Char.{digit_value}
use Rattle.std.specs.Str.Parse.{AllDigits, IsNumeral, digits_value}
use Rattle.fast_float.specs.Text.{Parts, IsWellFormed}
use Rattle.fast_float.proofs.Writing.{scan-text_of}
use Rattle.serde_json.specs.Data.{unsigned}
use Rattle.serde_json.specs.Read.{number_of, number_from}

no_minus : (ds rest : List ℕ) → AllDigits 10 ds → 0 < length ds → get_or (ds ++ rest) 0 0 ≡ 45 → ⊥
no_minus [] rest all some e = omega arith
no_minus (d ∷ ds) rest all some e = let digit : digit_value d < 10 = all.0 in let is : d ≡ 45 = e in grind arith

abbrev digits : List ℕ → Parts
digits ds = record { whole = ds; point = false; fraction = []; exponent_negative = false; exponent = []; len = length (ds ++ []) }

as_parts : (ds : List ℕ) → IsNumeral 10 ds → number_of (ds ++ []) ≡ number_from false (digits ds)
unfolding number_of
as_parts ds numeral =
    let formed : IsWellFormed (digits ds) = record { whole_digits = numeral.1; fraction_digits = tt; exponent_digits = tt; no_point = λ _. refl; no_exponent = λ _. refl; len_is = refl } in
    rw (ne_eqb (get_or (ds ++ []) 0 0) 45 (no_minus ds [] numeral.1 numeral.0)) (ap (number_from false) (scan-text_of (digits ds) formed))

-- digits write the number that `parse` reads
pub number_of_digits : (ds : List ℕ) → IsNumeral 10 ds → digits_value 10 ds < 2 ^ 64 → number_of ds ≡ Some (unsigned (digits_value 10 ds))
number_of_digits ds numeral fits =
    let whole : number_of ds ≡ number_from false (digits ds) = ap number_of (sym (append-nil ds)) ∙ as_parts ds numeral in
    whole ∙ rw (lt-ltb _ _ numeral.0, append-nil ds) (rw (lt-ltb _ _ fits))
