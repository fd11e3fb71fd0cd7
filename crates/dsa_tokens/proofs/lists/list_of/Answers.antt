use Rattle.std.proofs.Common.{◌∷◌, None, option_map}
use Rattle.json.specs.Reads.{token_of}
use Rattle.dsa_tokens.specs.Said.{IsArray, IsArrayUpTo}
use Rattle.dsa_tokens.proofs.Added.{unbounded}
use Rattle.dsa_tokens.proofs.Read.{answers_as}
use Rattle.dsa_tokens.proofs.lists.list_of.Goals as goal

pub returns : goal.returns
returns g c =
    answers_as (λ d kept. IsArrayUpTo None g.K.Kind.says d (option_map (λ v. v.items) kept)) (λ d kept. IsArray g.K.Kind.says d (option_map (λ v. v.items) kept)) c.args.depth (token_of c.args.first ∷ c.args.reader.now) c.list_up_to.new.reader c.list_up_to.result
    (λ d kept says. unbounded g.K.Kind.says d (option_map (λ v. v.items) kept) says) c.list_up_to.ensures
