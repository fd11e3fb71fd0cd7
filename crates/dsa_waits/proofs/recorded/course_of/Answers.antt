use Rattle.std.proofs.Common.{List, Bool, length, subst}
use Rattle.dsa_waits.specs.declared.event.Event.{Event}
use Rattle.dsa_waits.specs.declared.event.Event.TheVariants.{Submitted}
use Rattle.dsa_waits.specs.RecordedSteps.{AreMade, AreMarked}
use Rattle.dsa_waits.specs.Waits.{failed_by, watched_by}
use Rattle.dsa_waits.proofs.Entered.{is_course, of_made}
use Rattle.dsa_waits.proofs.recorded.course_of.Goals as goal

pub returns-clause-course : goal.returns-clause-course
returns-clause-course c =
    is_course c.args.all.now c.args.submissions.now c.args.queues.now c.args.events.items
    (record { entries = c.in_ok-entries.entries; members = c.in_ok-entries.members; made = c.in_ok-made.made; events = c.args.events }) c.requires.reads
    (of_made c.args.all.now c.args.submissions.now c.args.queues.now c.in_ok-watched.watched.items c.in_ok-watched.failed.items
    (record { entries = c.in_ok-entries.entries; members = c.in_ok-entries.members; made = c.in_ok-made.made; events = c.args.events })
    c.in_ok-entries.ensures
    (subst (λ (vs : List Event). AreMarked watched_by vs (length c.args.submissions.now) c.in_ok-watched.watched.items) c.deref.ensures.value
    c.in_ok-watched.ensures.watched)
    (subst (λ (vs : List Event). AreMarked failed_by vs (length c.args.submissions.now) c.in_ok-watched.failed.items) c.deref.ensures.value
    c.in_ok-watched.ensures.failed)
    (subst (λ (w : List Bool). AreMade c.args.all.now c.args.submissions.now c.args.queues.now w c.in_ok-watched.failed.items (length c.args.submissions.now) c.in_ok-made.made.items)
    c.deref-2.ensures.value
    (subst (λ (w : List Bool). AreMade c.args.all.now c.args.submissions.now c.args.queues.now c.deref-2.result.now w (length c.args.submissions.now) c.in_ok-made.made.items)
    c.deref-3.ensures.value c.in_ok-made.ensures))) c.requires.made (λ k lt. c.requires.fit k Submitted lt)

pub returns-clause-recorded : goal.returns-clause-recorded
returns-clause-recorded c =
    of_made c.args.all.now c.args.submissions.now c.args.queues.now c.in_ok-watched.watched.items c.in_ok-watched.failed.items
    (record { entries = c.in_ok-entries.entries; members = c.in_ok-entries.members; made = c.in_ok-made.made; events = c.args.events })
    c.in_ok-entries.ensures
    (subst (λ (vs : List Event). AreMarked watched_by vs (length c.args.submissions.now) c.in_ok-watched.watched.items) c.deref.ensures.value
    c.in_ok-watched.ensures.watched)
    (subst (λ (vs : List Event). AreMarked failed_by vs (length c.args.submissions.now) c.in_ok-watched.failed.items) c.deref.ensures.value
    c.in_ok-watched.ensures.failed)
    (subst (λ (w : List Bool). AreMade c.args.all.now c.args.submissions.now c.args.queues.now w c.in_ok-watched.failed.items (length c.args.submissions.now) c.in_ok-made.made.items)
    c.deref-2.ensures.value
    (subst (λ (w : List Bool). AreMade c.args.all.now c.args.submissions.now c.args.queues.now c.deref-2.result.now w (length c.args.submissions.now) c.in_ok-made.made.items)
    c.deref-3.ensures.value c.in_ok-made.ensures))
