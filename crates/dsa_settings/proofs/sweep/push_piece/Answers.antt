use Rattle.std.proofs.Common.{◌∙◌}
use Rattle.dsa_settings.proofs.Swept.{all_pushed}
use Rattle.dsa_settings.proofs.sweep.push_piece.Goals as goal

pub returns-clause-held : goal.returns-clause-held
returns-clause-held g c =
    all_pushed c.args.accesses.now.items c.push_all.new.accesses.items c.push_all-2.new.accesses.items
    c.as_slice.result.now c.as_slice-2.result.now (g.P.Touching.reads c.args.piece.now) (g.P.Touching.writes c.args.piece.now)
    c.args.owner c.push_all.ensures.items c.push_all-2.ensures.items
    (c.as_slice.ensures.value ∙ c.touched_spans-touched.ensures.reads)
    (c.as_slice-2.ensures.value ∙ c.touched_spans-touched.ensures.writes)
