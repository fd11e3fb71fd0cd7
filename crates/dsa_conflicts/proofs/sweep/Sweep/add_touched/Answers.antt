use Rattle.std.proofs.Common.{◌≡◌, ℕ, ◌+◌, ap, List, subst}
use Rattle.dsa_descriptor.specs.declared.span.Span.{Span}
use Rattle.dsa_descriptor.specs.Spans.{InSome}
use Rattle.dsa_conflicts.specs.declared.access.Access.{Access}
use Rattle.dsa_conflicts.specs.declared.access.LastAccess.{LastAccess}
use Rattle.dsa_conflicts.specs.declared.access.Access.TheVariants.{Read, Write}
use Rattle.dsa_conflicts.specs.Segments.{Accessed}
use Rattle.dsa_conflicts.specs.Sweep.{BecomesLast, Segment, Swept, last_reader, last_writer, segments_of}
use Rattle.dsa_conflicts.proofs.View.{segments_in_order}
use Rattle.dsa_conflicts.proofs.Added.{added_ordered, added_readers, added_writers, added_segments}
use Rattle.dsa_conflicts.proofs.sweep.Sweep.add_touched.Goals as goal

-- the accesses of what is read and written
by_spans : (access : Access) (count : ℕ) (old new : List (ℕ × LastAccess)) (spans items : List Span) → spans ≡ items → Accessed (InSome spans) access count old new → Accessed (InSome items) access count old new
by_spans access count old new spans items same accessed = subst (λ (ss : List Span). Accessed (InSome ss) access count old new) same accessed

pub invariant_of-sweep : goal.invariant_of-sweep
invariant_of-sweep c =
    added_segments c.args.touched.now.reads.items c.args.touched.now.writes.items c.requires.reads c.requires.writes c.self.inside.count c.self.inside.segments.entries c.access_spans.new.segments.entries c.access_spans-2.new.segments.entries c.self.invariant.ordered (by_spans Read c.self.inside.count c.self.inside.segments.entries c.access_spans.new.segments.entries c.deref.result.now c.args.touched.now.reads.items c.deref.ensures.0 c.in_ok-access_spans.ensures) (by_spans Write c.self.inside.count c.access_spans.new.segments.entries c.access_spans-2.new.segments.entries c.deref-2.result.now c.args.touched.now.writes.items c.deref-2.ensures.0 c.in_ok-access_spans-2.ensures) c.self.invariant.known

pub returns-clause-readers : goal.returns-clause-readers
returns-clause-readers c =
    let new = c.access_spans-2.new.segments.entries in
    let added = added_readers c.args.touched.now.reads.items c.args.touched.now.writes.items c.requires.reads c.requires.writes c.self.inside.count c.self.inside.segments.entries c.access_spans.new.segments.entries new c.self.invariant.ordered (by_spans Read c.self.inside.count c.self.inside.segments.entries c.access_spans.new.segments.entries c.deref.result.now c.args.touched.now.reads.items c.deref.ensures.0 c.in_ok-access_spans.ensures) (by_spans Write c.self.inside.count c.access_spans.new.segments.entries c.access_spans-2.new.segments.entries c.deref-2.result.now c.args.touched.now.writes.items c.deref-2.ensures.0 c.in_ok-access_spans-2.ensures) in
    subst (λ (n : ℕ). BecomesLast (InSome c.args.touched.now.reads.items) n (last_reader c.args.self.segments) (last_reader (segments_of new))) (ap (λ (s : Swept). s.count) c.self.view_is)
    (subst (λ (ss : List Segment). BecomesLast (InSome c.args.touched.now.reads.items) c.self.inside.count (last_reader ss) (last_reader (segments_of new))) (ap (λ (s : Swept). s.segments) c.self.view_is) added)

pub returns-clause-writers : goal.returns-clause-writers
returns-clause-writers c =
    let new = c.access_spans-2.new.segments.entries in
    let added = added_writers c.args.touched.now.reads.items c.args.touched.now.writes.items c.requires.reads c.requires.writes c.self.inside.count c.self.inside.segments.entries c.access_spans.new.segments.entries new c.self.invariant.ordered (by_spans Read c.self.inside.count c.self.inside.segments.entries c.access_spans.new.segments.entries c.deref.result.now c.args.touched.now.reads.items c.deref.ensures.0 c.in_ok-access_spans.ensures) (by_spans Write c.self.inside.count c.access_spans.new.segments.entries c.access_spans-2.new.segments.entries c.deref-2.result.now c.args.touched.now.writes.items c.deref-2.ensures.0 c.in_ok-access_spans-2.ensures) in
    subst (λ (n : ℕ). BecomesLast (InSome c.args.touched.now.writes.items) n (last_writer c.args.self.segments) (last_writer (segments_of new))) (ap (λ (s : Swept). s.count) c.self.view_is)
    (subst (λ (ss : List Segment). BecomesLast (InSome c.args.touched.now.writes.items) c.self.inside.count (last_writer ss) (last_writer (segments_of new))) (ap (λ (s : Swept). s.segments) c.self.view_is) added)

pub returns-clause-in_order : goal.returns-clause-in_order
returns-clause-in_order c =
    segments_in_order c.access_spans-2.new.segments.entries
    (added_ordered c.args.touched.now.reads.items c.args.touched.now.writes.items c.requires.reads c.requires.writes c.self.inside.count c.self.inside.segments.entries c.access_spans.new.segments.entries c.access_spans-2.new.segments.entries c.self.invariant.ordered (by_spans Read c.self.inside.count c.self.inside.segments.entries c.access_spans.new.segments.entries c.deref.result.now c.args.touched.now.reads.items c.deref.ensures.0 c.in_ok-access_spans.ensures) (by_spans Write c.self.inside.count c.access_spans.new.segments.entries c.access_spans-2.new.segments.entries c.deref-2.result.now c.args.touched.now.writes.items c.deref-2.ensures.0 c.in_ok-access_spans-2.ensures))

pub returns-clause-count : goal.returns-clause-count
returns-clause-count c = ap (λ (n : ℕ). n + 1) (ap (λ (s : Swept). s.count) c.self.view_is)
