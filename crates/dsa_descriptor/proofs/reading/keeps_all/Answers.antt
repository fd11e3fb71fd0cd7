use Rattle.dsa_descriptor.proofs.Order.{kept_from_groups}
use Rattle.dsa_descriptor.proofs.reading.keeps_all.Goals as goal

pub returns : goal.returns
returns c = λ own fault.
    kept_from_groups c.args.bytes.now c.args.op.now c.requires (c.keeps_word_rules.ensures c.if-not-keeps_word_rules.false)
    (c.keeps_address_rules.ensures c.if-not-keeps_address_rules.false) (c.keeps_own_rules.ensures own) fault
