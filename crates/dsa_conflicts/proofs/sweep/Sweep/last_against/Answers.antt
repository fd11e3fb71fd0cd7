use Rattle.std.proofs.Common.{ap, List, subst, sym}
use Rattle.dsa_descriptor.specs.declared.span.Span.{Span}
use Rattle.dsa_descriptor.specs.Spans.{InSome}
use Rattle.dsa_conflicts.specs.declared.access.Access.TheVariants.{Read, Write}
use Rattle.dsa_conflicts.specs.Access.{IsGreatest, later}
use Rattle.dsa_conflicts.specs.Segments.{ConflictsIn}
use Rattle.dsa_conflicts.specs.Sweep.{SpansStandAgainst, Segment, Swept}
use Rattle.dsa_conflicts.proofs.Added.{added_found}
use Rattle.dsa_conflicts.proofs.sweep.Sweep.last_against.Goals as goal
use Rattle.dsa_conflicts.proofs.sweep.Sweep.last_against.Goals.{After-later}

-- the last conflicts of what it reads and writes
by_read : (c : After-later) → IsGreatest (ConflictsIn (InSome c.args.touched.now.reads.items) Read c.self.inside.segments.entries) c.conflict_in_spans-read.result
by_read c = subst (λ (ss : List Span). IsGreatest (ConflictsIn (InSome ss) Read c.self.inside.segments.entries) c.conflict_in_spans-read.result) c.deref.ensures.0 c.conflict_in_spans-read.ensures

by_write : (c : After-later) → IsGreatest (ConflictsIn (InSome c.args.touched.now.writes.items) Write c.self.inside.segments.entries) c.conflict_in_spans-written.result
by_write c = subst (λ (ss : List Span). IsGreatest (ConflictsIn (InSome ss) Write c.self.inside.segments.entries) c.conflict_in_spans-written.result) c.deref-2.ensures.0 c.conflict_in_spans-written.ensures

pub returns-clause-found : goal.returns-clause-found
returns-clause-found c =
    let found = added_found c.args.touched.now.reads.items c.args.touched.now.writes.items c.requires.reads c.requires.writes c.self.inside.count c.self.inside.segments.entries c.self.invariant.ordered c.conflict_in_spans-read.result c.conflict_in_spans-written.result (by_read c) (by_write c) in
    subst (IsGreatest (SpansStandAgainst c.args.touched.now.reads.items c.args.touched.now.writes.items c.args.self.now.segments)) (sym c.later.ensures)
    (subst (λ (ss : List Segment). IsGreatest (SpansStandAgainst c.args.touched.now.reads.items c.args.touched.now.writes.items ss) (later c.conflict_in_spans-read.result c.conflict_in_spans-written.result))
    (ap (λ (s : Swept). s.segments) c.self.view_is) found)
