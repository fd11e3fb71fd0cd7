use Rattle.dsa_conflicts.proofs.segments.access_parts.Goals as goal

pub access_part-requires-clause-keys : goal.access_part-requires-clause-keys
access_part-requires-clause-keys c = c.loop-next.invariant.keys

pub access_part-requires-clause-order : goal.access_part-requires-clause-order
access_part-requires-clause-order c = (rw c.in-Some.is at c.loop-next.invariant.order).1

pub access_part-requires-clause-part : goal.access_part-requires-clause-part
access_part-requires-clause-part c = rw c.in-Some.is at c.loop-next.invariant.part

pub access_part-requires-clause-end : goal.access_part-requires-clause-end
access_part-requires-clause-end c = c.loop-next.invariant.end
