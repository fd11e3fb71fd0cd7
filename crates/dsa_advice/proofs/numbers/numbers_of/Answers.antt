use Rattle.std.proofs.Common.{ℕ, List, map, ap, ◌∙◌}
use Rattle.std.specs.Borrow.{Bor}
use Rattle.std.proofs.lemmas.Result.{IfOk-weaker}
use Rattle.dsa_lines.specs.Numbers.{number_of}
use Rattle.dsa_advice.specs.Numbers.{all_of}
use Rattle.dsa_advice.proofs.Spelled.{mapped}
use Rattle.dsa_advice.proofs.numbers.numbers_of.Goals as goal

pub returns : goal.returns
returns c =
    let parts = ap (λ (ws : List (Bor (List ℕ))). map (λ word. word.now) ws) c.deref.ensures.value ∙ c.in_ok-parts.ensures in
    IfOk-weaker c.numbers_in.result _ _ (λ found h. h ∙ ap all_of (mapped c.deref.result.now ∙ ap (map number_of) parts)) c.numbers_in.ensures
