use Rattle.json.specs.Reads.{token_of}
use Rattle.dsa_tokens.proofs.Begun.{passed}
use Rattle.dsa_tokens.proofs.passing.pass_other.Goals as goal

pub returns : goal.returns
returns c = passed c.args.depth (token_of c.args.token) c.args.reader.now c.pass_rest.new.reader c.pass_rest.result c.pass_rest.ensures.ok c.pass_rest.ensures.err c.pass_rest.ensures.shorter
