use Rattle.std.proofs.Common.{◌++◌, ◌∷◌, [], Some, None, sym, subst, arith}
use Rattle.std.proofs.lemmas.Str.Pattern.{split_parts}
use Rattle.dsa_recording.specs.Pairs.{IsAbove, LeadsOn}
use Rattle.dsa_recording.proofs.Fronts.{above_digits, above_nul, if_text, leads_digits, leads_plain}
use Rattle.dsa_recording.proofs.pairs.next_rest.Goals as goal

pub returns-in-Some-clause-above : goal.returns-in-Some-clause-above
returns-in-Some-clause-above c =
    let rest = c.args.rest.now in
    let digits = c.in-Some.digits.now in
    let after = c.in-Some.field-0-1.now in
    let parts = split_parts 58 rest (Some (c.in-Some.digits, c.in-Some.field-0-1)) c.in-Some.ensures.cases (omega arith) in
    if_text c.format.result (digits ++ (59 ∷ [])) (λ l. IsAbove l rest) c.format.ensures.ok (subst (IsAbove (digits ++ (59 ∷ []))) (sym parts.0) (above_digits digits after))

pub returns-in-Some-clause-others : goal.returns-in-Some-clause-others
returns-in-Some-clause-others c =
    let rest = c.args.rest.now in
    let digits = c.in-Some.digits.now in
    let after = c.in-Some.field-0-1.now in
    let parts = split_parts 58 rest (Some (c.in-Some.digits, c.in-Some.field-0-1)) c.in-Some.ensures.cases (omega arith) in
    if_text c.format.result (digits ++ (59 ∷ [])) (LeadsOn rest) c.format.ensures.ok (leads_digits rest digits after parts.0 parts.1)

pub returns-in-None-clause-above : goal.returns-in-None-clause-above
returns-in-None-clause-above c =
    let rest = c.args.rest.now in
    if_text c.format-in-None.result (rest ++ (0 ∷ [])) (λ l. IsAbove l rest) c.format-in-None.ensures.ok (above_nul rest)

pub returns-in-None-clause-others : goal.returns-in-None-clause-others
returns-in-None-clause-others c =
    let rest = c.args.rest.now in
    if_text c.format-in-None.result (rest ++ (0 ∷ [])) (LeadsOn rest) c.format-in-None.ensures.ok (leads_plain rest (split_parts 58 rest None c.in-None.ensures.cases (omega arith)))
