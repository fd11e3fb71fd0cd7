use Rattle.std.proofs.Common.{◌++◌, arith}
use Rattle.dsa_sentences.specs.Texts.{filled}
use Rattle.dsa_sentences.proofs.TextLemmas.{filled_all, filled_more, longest_first}
use Rattle.dsa_sentences.proofs.text.push_filled.Goals as goal

pub loop-rest-preserved : goal.loop-rest-preserved
loop-rest-preserved c =
    let i = c.loop-rest.invariant in
    let rest = c.loop-rest.rest.now in (
      filled_more (c.args.text.now.items ++ filled c.args.sentence.now c.args.first c.args.second) c.loop-rest.text.items c.push_filled_byte.new.text.items rest c.args.first c.args.second c.in-len1-up.len_at_least i.0 c.push_filled_byte.ensures.value,
      omega (arith, i.1, longest_first rest c.in-len1-up.len_at_least, c.push_filled_byte.ensures.short),
    )

pub returns-clause-value : goal.returns-clause-value
returns-clause-value c =
    filled_all (c.args.text.now.items ++ filled c.args.sentence.now c.args.first c.args.second) c.loop-rest.text.items c.loop-rest.rest.now c.args.first c.args.second c.in_default.len_below c.loop-rest.invariant.0
