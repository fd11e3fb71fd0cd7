use Rattle.std.proofs.Common.{◌≡◌, true, sym, ◌∙◌, true≢false}
use Rattle.dsa_descriptor.specs.Descriptors.{fields}
use Rattle.dsa_conflicts.proofs.Moved.{data_conflicts, moves_meet, meet_by_data}
use Rattle.dsa_conflicts.proofs.spread.conflict.Goals as goal

pub returns-clause-known : goal.returns-clause-known
returns-clause-known c = λ t.
    let f = fields c.args.first.now in
    let g = fields c.args.second.now in
    data_conflicts f g (moves_meet f g c.in-Move.src c.in-Move.dst c.in-Move-op.other_src c.in-Move-op.other_dst c.in-Move.is c.in-Move-op.is (c.moves_conflict.ensures.0 t))

pub returns-clause-none : goal.returns-clause-none
returns-clause-none c = λ no conflict.
    let f = fields c.args.first.now in
    let g = fields c.args.second.now in
    let yes : c.moves_conflict.result ≡ true = c.moves_conflict.ensures.1 (meet_by_data f g c.in-Move.src c.in-Move.dst c.in-Move-op.other_src c.in-Move-op.other_dst c.in-Move.is c.in-Move-op.is conflict) in
    true≢false (sym yes ∙ no)
