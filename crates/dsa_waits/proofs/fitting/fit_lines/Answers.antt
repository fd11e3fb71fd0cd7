use Rattle.std.proofs.Common.{◌≡◌, None, length, sym, ap, subst, ◌∙◌, below_more, arith}
use Rattle.dsa_waits.specs.Fitting.{AreQueues, line_at, made_by, misfit_of}
use Rattle.dsa_waits.proofs.Fits.{events_next, few_more, no_queues, queues_next}
use Rattle.dsa_waits.proofs.fitting.fit_lines.Goals as goal

pub loop-k-init : goal.loop-k-init
loop-k-init c = record {
  fit = λ j low. absurd (omega arith);
  queues_are = subst (AreQueues c.args.lines.now 0) (sym c.new-queues.ensures.items) (no_queues c.args.lines.now);
  few = omega (arith, ap length c.new-queues.ensures.items);
  events_are = c.in_ok-events.ensures.items;
}

pub loop-k-preserved : goal.loop-k-preserved
loop-k-preserved c =
    let fits : misfit_of c.args.all.now c.args.submissions.now (made_by c.args.lines.now c.loop-k.k) (line_at c.args.lines.now c.loop-k.k) ≡ None =
    ap (λ n. misfit_of c.args.all.now c.args.submissions.now n (line_at c.args.lines.now c.loop-k.k))
    (sym (c.len.ensures ∙ c.loop-k.queues.ok.0 ∙ c.loop-k.invariant.queues_are.count)) ∙ sym c.misfit_of.ensures ∙ c.in_default.is in
    record {
      fit =
          below_more (λ j. misfit_of c.args.all.now c.args.submissions.now (made_by c.args.lines.now j) (line_at c.args.lines.now j) ≡ None) c.loop-k.k
          c.loop-k.invariant.fit fits;
      queues_are =
          queues_next c.args.all.now c.args.submissions.now c.args.lines.now c.loop-k.k c.loop-k.queues.items c.add_line.new.queues.items c.loop-k-test.true
          fits c.in_ok-add_line.ensures.queues c.loop-k.invariant.queues_are;
      few =
          few_more c.args.all.now c.args.submissions.now c.args.lines.now c.loop-k.k c.loop-k.queues.items c.add_line.new.queues.items fits
          c.in_ok-add_line.ensures.queues c.loop-k.invariant.queues_are c.loop-k.invariant.few;
      events_are =
          events_next c.args.lines.now c.loop-k.k c.loop-k.events.items c.add_line.new.events.items c.loop-k-test.true c.in_ok-add_line.ensures.events
          c.loop-k.invariant.events_are;
    }
