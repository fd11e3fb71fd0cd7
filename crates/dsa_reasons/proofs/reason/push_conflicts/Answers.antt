use Rattle.std.proofs.Common.{◌-◌, ◌<◌, ◌∙◌, false, Some, inl, inr, length, ap, refl, arith}
use Rattle.std.proofs.lemmas.Bool.{cases_lt}
use Rattle.std.proofs.lemmas.Option.{slice_get-get_or}
use Rattle.dsa_settings.specs.Legal.{IsFenced}
use Rattle.dsa_settings.proofs.Judged.{not_fenced}
use Rattle.dsa_reasons.specs.declared.reason.Reason.{Reason}
use Rattle.dsa_reasons.specs.Reasons.{HasReasonsSoFar}
use Rattle.dsa_reasons.proofs.Reached.{conflict_seen, hazard_seen, open_more}
use Rattle.dsa_reasons.proofs.Listed.{none_more, one_more, row_done}
use Rattle.dsa_reasons.proofs.reason.push_conflicts.Goals.{in-Some+in_ok-push, in_default}
use Rattle.dsa_reasons.proofs.reason.push_conflicts.Goals as goal

pub returns-then-fences-i : goal.returns-then-fences-i
returns-then-fences-i g c =
    let h = c.loop-i.invariant in
    let reads = g.P.Touching.reads in
    let writes = g.P.Touching.writes in
    let ps = c.args.pieces.now in
    let first : c.loop-i.i - 1 < length c.args.pieces.now = omega (arith, h.before, c.requires.after, c.requires.within, c.requires.known) in
    let second : c.args.later < length c.args.pieces.now = omega (arith, c.requires.within, c.requires.known) in
    let flagged : c.loop-i.i - 1 - c.args.start < length c.args.fences.now = omega (arith, h.before, c.loop-i-test.true, c.requires.after, c.requires.within) in
    let fenced : IsFenced c.args.start c.args.fences.now (c.loop-i.i - 1) =
    (omega (arith, c.loop-i-test.true), slice_get-get_or c.args.fences.now (c.loop-i.i - 1 - c.args.start) false flagged ∙ ap Some c.if-fences-i.true) in
    let seen = conflict_seen reads writes ps (c.loop-i.i - 1) c.args.later c.index-pieces-i.result c.index-pieces-later.result c.touched_spans.result.reads.items c.touched_spans.result.writes.items
    c.touched_spans-waiting.result.reads.items c.touched_spans-waiting.result.writes.items first second c.index-pieces-i.is c.index-pieces-later.is
    c.touched_spans.ensures.reads c.touched_spans.ensures.writes c.touched_spans-waiting.ensures.reads c.touched_spans-waiting.ensures.writes in
    let now : HasReasonsSoFar reads writes ps c.args.start c.args.fences.now c.args.at c.args.later (c.loop-i.i - 1) c.match-find_hazard.reasons.items =
    elim c.match-find_hazard.branch [
      | in-Some+in_ok-push w ↦
          let new : Reason = record { earlier = c.loop-i.i - 1; later = c.args.later; hazard = w.in-Some.hazard } in
          rw (w.reasons-is, w.in_ok-push.ensures.items)
          (one_more reads writes ps c.args.start c.args.fences.now c.args.at c.args.later c.loop-i.i c.loop-i.reasons.items new (omega (arith, c.loop-i-test.true)) c.requires.after refl refl
          record {
            begun = omega (arith, c.loop-i-test.true);
            before = omega (arith, h.before, c.loop-i-test.true);
            open_between = λ other after before. h.open_here other (omega arith) before;
          }
          (hazard_seen reads writes ps (c.loop-i.i - 1) c.args.later c.index-pieces-i.result c.index-pieces-later.result c.touched_spans.result.reads.items c.touched_spans.result.writes.items
          c.touched_spans-waiting.result.reads.items c.touched_spans-waiting.result.writes.items w.in-Some.hazard first second c.index-pieces-i.is c.index-pieces-later.is
          c.touched_spans.ensures.reads c.touched_spans.ensures.writes c.touched_spans-waiting.ensures.reads c.touched_spans-waiting.ensures.writes w.in-Some.ensures)
          h.found)
      | in_default w ↦
          rw w.reasons-is
          (none_more reads writes ps c.args.start c.args.fences.now c.args.at c.args.later c.loop-i.i c.loop-i.reasons.items (omega (arith, c.loop-i-test.true))
          (λ e. w.in_default.ensures (seen e)) h.found)
    ] in
    row_done reads writes ps c.args.start c.args.fences.now c.args.at c.args.later (c.loop-i.i - 1) c.match-find_hazard.reasons.items
    (λ x reached.
    elim (cases_lt x (c.loop-i.i - 1)) [
      | inl below ↦ absurd (reached.open_between (c.loop-i.i - 1) below (omega (arith, h.before, c.loop-i-test.true)) fenced)
      | inr above ↦ above
    ])
    now

pub loop-i-preserved : goal.loop-i-preserved
loop-i-preserved g c =
    let h = c.loop-i.invariant in
    let reads = g.P.Touching.reads in
    let writes = g.P.Touching.writes in
    let ps = c.args.pieces.now in
    let first : c.loop-i.i - 1 < length c.args.pieces.now = omega (arith, h.before, c.requires.after, c.requires.within, c.requires.known) in
    let second : c.args.later < length c.args.pieces.now = omega (arith, c.requires.within, c.requires.known) in
    let flagged : c.loop-i.i - 1 - c.args.start < length c.args.fences.now = omega (arith, h.before, c.loop-i-test.true, c.requires.after, c.requires.within) in
    let seen = conflict_seen reads writes ps (c.loop-i.i - 1) c.args.later c.index-pieces-i.result c.index-pieces-later.result c.touched_spans.result.reads.items c.touched_spans.result.writes.items
    c.touched_spans-waiting.result.reads.items c.touched_spans-waiting.result.writes.items first second c.index-pieces-i.is c.index-pieces-later.is
    c.touched_spans.ensures.reads c.touched_spans.ensures.writes c.touched_spans-waiting.ensures.reads c.touched_spans-waiting.ensures.writes in
    record {
      begun = omega (arith, c.loop-i-test.true);
      before = omega (arith, h.before);
      open_here = open_more c.args.start c.args.fences.now c.loop-i.i c.args.at (omega (arith, c.loop-i-test.true))
          (λ f. not_fenced c.args.fences.now (c.loop-i.i - 1 - c.args.start) flagged c.if-fences-i.false f.1) h.open_here;
      found =
          elim c.match-find_hazard.branch [
            | in-Some+in_ok-push w ↦
                let new : Reason = record { earlier = c.loop-i.i - 1; later = c.args.later; hazard = w.in-Some.hazard } in
                rw (w.reasons-is, w.in_ok-push.ensures.items)
                (one_more reads writes ps c.args.start c.args.fences.now c.args.at c.args.later c.loop-i.i c.loop-i.reasons.items new (omega (arith, c.loop-i-test.true)) c.requires.after refl refl
                record {
                  begun = omega (arith, c.loop-i-test.true);
                  before = omega (arith, h.before, c.loop-i-test.true);
                  open_between = λ other after before. h.open_here other (omega arith) before;
                }
                (hazard_seen reads writes ps (c.loop-i.i - 1) c.args.later c.index-pieces-i.result c.index-pieces-later.result c.touched_spans.result.reads.items c.touched_spans.result.writes.items
                c.touched_spans-waiting.result.reads.items c.touched_spans-waiting.result.writes.items w.in-Some.hazard first second c.index-pieces-i.is c.index-pieces-later.is
                c.touched_spans.ensures.reads c.touched_spans.ensures.writes c.touched_spans-waiting.ensures.reads c.touched_spans-waiting.ensures.writes w.in-Some.ensures)
                h.found)
            | in_default w ↦
                rw w.reasons-is
                (none_more reads writes ps c.args.start c.args.fences.now c.args.at c.args.later c.loop-i.i c.loop-i.reasons.items (omega (arith, c.loop-i-test.true))
                (λ e. w.in_default.ensures (seen e)) h.found)
          ];
    }
