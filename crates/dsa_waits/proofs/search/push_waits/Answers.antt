use Rattle.std.proofs.Common.{◌∷◌, [], length, length-append, get_or, None, sym, ap, subst, arith}
use Rattle.std.proofs.lemmas.Option.{slice_get-get_or}
use Rattle.dsa_audit.specs.Steps.{AreLasts}
use Rattle.dsa_audit.proofs.LastConflicts.{more_lasts}
use Rattle.dsa_waits.specs.Keys.{IsLeftWait}
use Rattle.dsa_waits.proofs.Courses.{wait_of}
use Rattle.dsa_waits.proofs.search.push_waits.Goals as goal

pub last_outstanding-requires-clause-last : goal.last_outstanding-requires-clause-last
last_outstanding-requires-clause-last c =
    c.requires.lasts c.loop-entry.entry (get_or c.args.lasts.now c.loop-entry.entry None) (slice_get-get_or c.args.lasts.now c.loop-entry.entry None (omega (arith, c.requires.all, c.requires.within)))

pub last_outstanding-requires-clause-below : goal.last_outstanding-requires-clause-below
last_outstanding-requires-clause-below c x there = omega (arith, c.requires.below x there)

pub loop-entry-preserved : goal.loop-entry-preserved
loop-entry-preserved c =
    let C = IsLeftWait c.args.keyed.accepted.now c.args.keyed.all.now c.args.keyed.submissions.now c.args.course.now in
    record {
      count = omega (arith, ap length c.in_ok-push.ensures.items, length-append c.loop-entry.waits.items (c.in_ok-wait.wait ∷ []), c.loop-entry.invariant.count);
      waits = subst (AreLasts C) (sym c.in_ok-push.ensures.items)
          (more_lasts C c.loop-entry.waits.items c.loop-entry.entry c.in_ok-wait.wait c.loop-entry.invariant.count c.loop-entry.invariant.waits
          (wait_of c.args.keyed.accepted.now c.args.keyed.all.now c.args.keyed.submissions.now c.args.course.now c.args.number c.loop-entry.entry c.args.outstanding.now c.in_ok-wait.wait
          c.requires.exact (λ x there. omega (arith, c.requires.below x there)) (c.requires.own c.loop-entry.entry (omega arith) c.loop-entry-test.true) c.in_ok-wait.ensures));
    }
