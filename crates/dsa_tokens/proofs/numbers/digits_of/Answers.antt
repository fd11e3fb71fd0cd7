use Rattle.std.proofs.Common.{◌≡◌, ◌==◌, Bool, Some, cond, drop, false, get_or, sym, ap, ◌∙◌, arith}
use Rattle.std.specs.Str.Parse.{without_leading_plus}
use Rattle.serde_json.specs.Data.{unsigned}
use Rattle.serde_json.specs.Read.{number_of}
use Rattle.dsa_tokens.proofs.Decimal.{number_of_digits}
use Rattle.dsa_tokens.proofs.numbers.digits_of.Goals as goal

pub returns-in-Ok : goal.returns-in-Ok
returns-in-Ok c =
    let text = c.args.text.now in
    let parsed = c.in-Ok.ensures.value.0 in
    let no_plus : (get_or text 0 0 == 43) ≡ false = grind arith in
    let is : without_leading_plus text ≡ text = ap (λ (b : Bool). drop (cond b 1 0) text) no_plus in
    ap number_of (sym is) ∙ number_of_digits (without_leading_plus text) parsed.0.0 parsed.0.1 ∙ ap (λ n. Some (unsigned n)) (sym parsed.1)
