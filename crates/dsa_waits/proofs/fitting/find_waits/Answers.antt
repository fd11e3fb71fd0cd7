use Rattle.std.proofs.Common.{List, length, map, get_or, refl, sym, ap, subst, ◌∙◌, arith}
use Rattle.dsa_waits.specs.declared.event.Event.{Event}
use Rattle.dsa_waits.specs.declared.event.Queue.{Queue}
use Rattle.dsa_waits.specs.declared.lines.Line.{Line}
use Rattle.dsa_waits.specs.Fitting.{AreFitted, event_of}
use Rattle.dsa_waits.specs.Recorded.{FitsRecording, IsCourseOf}
use Rattle.dsa_waits.proofs.Courses.{unaccepted}
use Rattle.dsa_waits.proofs.Fits.{all_fit}
use Rattle.dsa_waits.proofs.fitting.find_waits.Goals as goal

pub course_of-requires-clause-fit : goal.course_of-requires-clause-fit
course_of-requires-clause-fit c k d within =
    let f : AreFitted c.args.all.now c.args.submissions.now c.in-Ok.lines.items c.in-Ok-fit_lines.fitted.0.items c.in-Ok-fit_lines.fitted.1.items =
    subst (λ (ls : List Line). AreFitted c.args.all.now c.args.submissions.now ls c.in-Ok-fit_lines.fitted.0.items c.in-Ok-fit_lines.fitted.1.items)
    c.deref.ensures.value c.in-Ok-fit_lines.ensures.ok in
    subst (λ (vs : List Event). FitsRecording c.args.submissions.now (get_or vs k d)) (sym f.events_are)
    (all_fit c.args.all.now c.args.submissions.now c.in-Ok.lines.items k d f.fit (omega (arith, ap length f.events_are, within)))

pub returns-clause-ok : goal.returns-clause-ok
returns-clause-ok c =
    let f : AreFitted c.args.all.now c.args.submissions.now c.in-Ok.lines.items c.in-Ok-fit_lines.fitted.0.items c.in-Ok-fit_lines.fitted.1.items =
    subst (λ (ls : List Line). AreFitted c.args.all.now c.args.submissions.now ls c.in-Ok-fit_lines.fitted.0.items c.in-Ok-fit_lines.fitted.1.items)
    c.deref.ensures.value c.in-Ok-fit_lines.ensures.ok in
    let recorded : IsCourseOf c.args.all.now c.args.submissions.now c.in-Ok-fit_lines.fitted.0.items (map event_of c.in-Ok.lines.items) c.in_ok-course.course =
    subst (λ (vs : List Event). IsCourseOf c.args.all.now c.args.submissions.now c.in-Ok-fit_lines.fitted.0.items vs c.in_ok-course.course) f.events_are
    (subst (λ (qs : List Queue). IsCourseOf c.args.all.now c.args.submissions.now qs c.in-Ok-fit_lines.fitted.1.items c.in_ok-course.course)
    c.deref-2.ensures.value c.in_ok-course.ensures.recorded) in
    record {
      lines = c.in-Ok.lines.items;
      spelled = c.in-Ok.ensures.ok;
      queues = c.in-Ok-fit_lines.fitted.0.items;
      fitted = record { fit = f.fit; queues_are = f.queues_are; events_are = refl };
      recorded = recorded;
      count = c.in_ok-waits.ensures.count ∙ recorded.entries;
      missing = unaccepted c.none-none.result c.args.all.now c.args.submissions.now c.in_ok-course.course c.in_ok-waits.waits.waits.items c.none-none.ensures c.in_ok-waits.ensures.waits;
      count_left = c.in_ok-left.ensures.count ∙ recorded.entries;
      left = c.in_ok-left.ensures.waits;
      used = c.in_ok-left.ensures.used;
    }
