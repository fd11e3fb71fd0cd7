use Rattle.dsa_descriptor.proofs.reading.keeps_word_rules.Goals as goal

pub returns : goal.returns
returns c = λ positive. (c.keeps.ensures.0 c.if-not-keeps.false, c.is_zero_by_words.ensures c.if-not-is_zero_by_words.false, c.keeps-2.ensures.0 positive)
