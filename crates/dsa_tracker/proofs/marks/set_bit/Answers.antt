use Rattle.dsa_tracker.proofs.RowBits.{bit_set, bits_kept}
use Rattle.dsa_tracker.proofs.marks.set_bit.Goals as goal

pub returns-clause-set : goal.returns-clause-set
returns-clause-set c = bit_set c.args.rows.now c.args.place c.args.slot c.requires.within c.requires.few

pub returns-clause-kept : goal.returns-clause-kept
returns-clause-kept c = bits_kept c.args.rows.now c.args.place c.args.slot c.requires.within c.requires.few
