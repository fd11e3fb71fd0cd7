use Rattle.std.proofs.Common.{true, false, arith}
use Rattle.dsa_tracker.specs.Finding.{AreCovered, ConflictsWithStore}
use Rattle.dsa_tracker.proofs.Noting.{all_low, conflict_parts, covered_still, either_kind, first_of, marks_of, second_of}
use Rattle.dsa_tracker.proofs.marking.note_slot.Goals as goal

pub returns-clause-found : goal.returns-clause-found
returns-clause-found c = λ covered k.
    let parts = conflict_parts c.args.shape.width c.args.stores.now c.args.reads.now c.args.writes.now k in
    let at = either_kind c.args.others.among c.note_store-read.result.found c.minus.result c.note_store-written.result.found c.union.result
    (λ n. ConflictsWithStore c.args.shape.width c.args.stores.now false c.args.reads.now n)
    (λ n. ConflictsWithStore c.args.shape.width c.args.stores.now true c.args.writes.now n)
    (c.note_store-read.ensures.found covered) c.minus.ensures (c.note_store-written.ensures.found (still covered)) c.union.ensures k in
    (λ h. let was = at.0 h in (was.0, parts.1 was.1), λ h. at.1 (h.0, parts.0 h.1))
  where
    still : AreCovered c.args.shape.width c.args.stores.now c.args.shape.grid c.args.rows.now c.args.others.wide c.args.others.among → AreCovered c.args.shape.width c.args.stores.now c.args.shape.grid c.note_store-read.new.rows c.args.others.wide c.minus.result
    still covered =
        covered_still c.args.shape.width c.args.stores.now c.args.shape.grid c.args.rows.now c.note_store-read.new.rows c.args.others.wide c.args.others.wide c.args.others.among c.minus.result covered
        (λ k h. ((c.minus.ensures k).0 h).0) (λ k h w. w)
        (λ r k h. c.note_store-read.ensures.kept r k (all_low c.args.others.among (omega arith) k ((c.minus.ensures k).0 h).0))

pub returns-clause-marked : goal.returns-clause-marked
returns-clause-marked c = λ whole.
    marks_of c.args.shape.grid c.note_store-read.new.rows c.note_store-written.new.rows c.args.reads.now c.args.writes.now c.args.slot
    (λ r. c.note_store-written.ensures.kept r c.args.slot c.requires.few)
    (c.note_store-read.ensures.noted (first_of c.note_store-read.result.is_whole c.note_store-written.result.is_whole whole))
    (c.note_store-written.ensures.noted (second_of c.note_store-read.result.is_whole c.note_store-written.result.is_whole whole))
