use Rattle.std.proofs.Common.{inl, inr}
use Rattle.dsa_tracker.proofs.Noting.{span_parts}
use Rattle.dsa_tracker.proofs.asking.slots_in_the_way.Goals as goal

pub returns : goal.returns
returns c = λ covered s.
    let parts = span_parts c.args.shape.width c.args.stores.now c.args.reads.now c.args.writes.now s in
    let union = c.union.ensures s in
    let reads = c.slots_against-by_reads.ensures covered s in
    let writes = c.slots_against-by_writes.ensures covered s in (
      λ h. elim (union.0 h) [ inl r ↦ let e = reads.0 r in (e.0, parts.1 (inl e.1)) | inr x ↦ let e = writes.0 x in (e.0, parts.1 (inr e.1)) ],
      λ h. elim (parts.0 h.1) [ inl r ↦ union.1 (inl (reads.1 (h.0, r))) | inr x ↦ union.1 (inr (writes.1 (h.0, x))) ],
    )
