use Rattle.dsa_tracker.proofs.RowBits.{others_kept}
use Rattle.dsa_tracker.proofs.marks.clear_bit.Goals as goal

pub returns : goal.returns
returns c = others_kept c.args.rows.now c.args.place c.args.slot c.requires.within c.requires.few
