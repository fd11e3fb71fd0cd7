use Rattle.dsa_descriptor.proofs.op.Op.has_regions_apart.Goals as goal

pub returns-in-Dualcast : goal.returns-in-Dualcast
returns-in-Dualcast c =
    rw c.in-Dualcast.is (rw (c.of-in-Dualcast.ensures, c.of-in-Dualcast-2.ensures, c.of-in-Dualcast-3.ensures) at c.are_apart.ensures)
