use Rattle.std.proofs.Common.{◌≡◌, List, subst}
use Rattle.std.proofs.lemmas.Result.{err_from_is_err_and}
use Rattle.json.specs.Token.{Token}
use Rattle.json.specs.Lex.{tokens}
use Rattle.json.specs.Reads.{token_of}
use Rattle.dsa_tokens.specs.Taken.{Takes, TakesNone}
use Rattle.dsa_tokens.specs.declared.unread.Unread.TheVariants.{Json}
use Rattle.dsa_tokens.proofs.Grammar.{read_whole, read_more, read_refused}
use Rattle.dsa_tokens.proofs.Read.{json_none}
use Rattle.dsa_tokens.proofs.texts.value_of.Goals as goal

pub returns-in_err-found-clause-err : goal.returns-in_err-found-clause-err
returns-in_err-found-clause-err g c = λ json.
    let e = err_from_is_err_and c.from_residual-in_err-found.result c.from_residual-in_err-found.ensures.1 in
    let is = e.1 in
    let cause = e.2 in
    let same : c.in_err-found.field-0.0 ≡ Json = cc in
    let none = json_none 127 c.in_ok-reader.reader c.in_err-found.field-0.0 c.in_err-found.ensures same in
    read_refused c.args.text.now (subst (λ (ts : List Token). TakesNone 127 ts) c.in_ok-reader.ensures.ok none)

pub returns-in-Some-clause-err : goal.returns-in-Some-clause-err
returns-in-Some-clause-err g c = λ json.
    let taken = c.in_ok-found.ensures in
    let all : Takes 127 (tokens c.args.text.now) taken.0 c.read_next.new.reader = subst (λ (ts : List Token). Takes 127 ts taken.0 c.read_next.new.reader) c.in_ok-reader.ensures.ok taken.1 in
    read_more c.args.text.now taken.0 (token_of c.in-Some.field-0) c.next.new.self (subst (λ (r : List Token). Takes 127 (tokens c.args.text.now) taken.0 r) c.in-Some.ensures.value all)

pub returns-in-None-clause-ok : goal.returns-in-None-clause-ok
returns-in-None-clause-ok g c =
    let taken = c.in_ok-found.ensures in
    let all : Takes 127 (tokens c.args.text.now) taken.0 c.read_next.new.reader = subst (λ (ts : List Token). Takes 127 ts taken.0 c.read_next.new.reader) c.in_ok-reader.ensures.ok taken.1 in
    (taken.0, read_whole c.args.text.now taken.0 (subst (λ (r : List Token). Takes 127 (tokens c.args.text.now) taken.0 r) c.in-None.ensures.value.0 all), taken.2)
