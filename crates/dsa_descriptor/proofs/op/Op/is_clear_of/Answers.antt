use Rattle.dsa_descriptor.proofs.op.Op.is_clear_of.Goals as goal

pub returns-in-Move : goal.returns-in-Move
returns-in-Move c = λ yes'.
    let h = rw (c.of.ensures, c.of-in-Move.ensures) at (c.are_clear_of.ensures yes') in
    rw c.in-Move.is ((h.0, (h.2, tt)), (h.1, (h.3, tt)))

pub returns-in-Compare : goal.returns-in-Compare
returns-in-Compare c = λ yes'.
    let h = rw (c.of-in-Compare.ensures, c.of-in-Compare-2.ensures) at (c.are_clear_of-in-Compare.ensures yes') in
    rw c.in-Compare.is ((h.0, (h.2, tt)), (h.1, (h.3, tt)))

pub returns-in-ApplyDelta : goal.returns-in-ApplyDelta
returns-in-ApplyDelta c = λ yes'.
    let h = rw (c.of-in-ApplyDelta.ensures, c.of-in-ApplyDelta-2.ensures) at (c.are_clear_of-in-ApplyDelta.ensures yes') in
    rw c.in-ApplyDelta.is ((h.0, (h.2, (h.2, tt))), (h.1, (h.3, (h.3, tt))))

pub returns-else-not-is_clear_of : goal.returns-else-not-is_clear_of
returns-else-not-is_clear_of c = λ yes'.
    let g = rw c.of-in-Dualcast.ensures at (c.is_clear_of-in-Dualcast.ensures c.if-not-is_clear_of.false) in
    let h = rw (c.of-in-Dualcast-2.ensures, c.of-in-Dualcast-3.ensures) at (c.are_clear_of-in-Dualcast.ensures yes') in
    rw c.in-Dualcast.is ((g.0, (h.0, (h.2, tt))), (g.1, (h.1, (h.3, tt))))
