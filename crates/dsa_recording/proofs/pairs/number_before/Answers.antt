use Rattle.std.proofs.Common.{◌≡◌, Some, None, sym, ◌∙◌}
use Rattle.std.specs.Prelude.{Ok, Err}
use Rattle.std.proofs.lemmas.Fmt.{parse-decimal}
use Rattle.dsa_recording.proofs.NamedPairs.{number_cut}
use Rattle.dsa_recording.proofs.pairs.number_before.Goals as goal

pub returns-in_default : goal.returns-in_default
returns-in_default c n rest lt e = number_cut c.args.text.now rest n None c.in_default.ensures.cases lt e

pub returns-in-Ok : goal.returns-in-Ok
returns-in-Ok c n rest lt e =
    let cut = number_cut c.args.text.now rest n (Some (c.in-Some.digits, c.in-Some.rest)) c.in-Some.ensures.cases lt e in
    let parsed : c.parse.result ≡ Ok n = parse-decimal 64 n c.in-Some.digits.now c.parse.result lt lt cut.0 c.parse.ensures.value.0 in
    let is : Ok n ≡ Ok c.in-Ok.number = sym parsed ∙ c.in-Ok.is in
    (cc, cut.1)

pub returns-in-Err : goal.returns-in-Err
returns-in-Err c n rest lt e =
    let cut = number_cut c.args.text.now rest n (Some (c.in-Some.digits, c.in-Some.rest)) c.in-Some.ensures.cases lt e in
    let parsed : c.parse.result ≡ Ok n = parse-decimal 64 n c.in-Some.digits.now c.parse.result lt lt cut.0 c.parse.ensures.value.0 in
    let is : Ok n ≡ Err c.in-Err.field-0 = sym parsed ∙ c.in-Err.is in
    absurd cc
