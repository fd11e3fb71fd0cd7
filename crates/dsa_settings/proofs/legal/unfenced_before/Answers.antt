use Rattle.std.proofs.Common.{ℕ, ◌-◌, ◌<◌, false, Some, length, sym, ap, ◌∙◌, arith}
use Rattle.std.proofs.lemmas.Bool.{true≢false}
use Rattle.std.proofs.lemmas.Option.{slice_get-get_or}
use Rattle.dsa_settings.proofs.Judged.{not_fenced, none_over_fence, none_from_start, unfenced_more, apart_more, last_unfenced}
use Rattle.dsa_settings.proofs.Pieces.{pieces_seen}
use Rattle.dsa_settings.proofs.legal.unfenced_before.Goals as goal

pub returns-then-fences-i : goal.returns-then-fences-i
returns-then-fences-i g c =
    let h = c.loop-i.invariant in
    let C = g.P.Touching.conflict c.args.pieces.now in
    let fences = c.args.fences.now in
    let start = c.args.start in
    let at = c.args.at in
    let i = c.loop-i.i in
    let flagged : i - start < length fences = omega (arith, h.before, c.requires.within) in
    none_over_fence C start fences i at h.begun h.before
    (slice_get-get_or fences (i - start) false flagged ∙ ap Some c.if-fences-i.true) h.apart

pub returns-then-in_conflict : goal.returns-then-in_conflict
returns-then-in_conflict g c =
    let h = c.loop-i.invariant in
    let C = g.P.Touching.conflict c.args.pieces.now in
    let fences = c.args.fences.now in
    let start = c.args.start in
    let at = c.args.at in
    let i = c.loop-i.i in
    let flagged : i - start < length fences = omega (arith, h.before, c.requires.within) in
    let first : i - 1 < length c.args.pieces.now = omega (arith, h.before, c.requires.within, c.requires.known) in
    let second : at < length c.args.pieces.now = omega (arith, c.requires.within, c.requires.known) in
    let unfenced = not_fenced fences (i - start) flagged c.if-fences-i.false in
    let seen = pieces_seen _ g.P.Touching.reads g.P.Touching.writes g.P.Touching.conflict c.conflict_as_touched.ensures
    c.args.pieces.now (i - 1) at c.index-pieces-i.result c.index-pieces-at.result
    c.touched_spans.result.reads.items c.touched_spans.result.writes.items
    c.touched_spans-later.result.reads.items c.touched_spans-later.result.writes.items c.in_conflict.result
    first second c.index-pieces-i.is c.index-pieces-at.is c.touched_spans.ensures.reads c.touched_spans.ensures.writes
    c.touched_spans-later.ensures.reads c.touched_spans-later.ensures.writes c.in_conflict.ensures in
    last_unfenced C start fences i at c.loop-i-test.true h.before c.requires.within (seen.0 c.if-in_conflict.true)
    (unfenced_more start fences i at c.loop-i-test.true unfenced h.unfenced) h.apart

pub loop-i-preserved : goal.loop-i-preserved
loop-i-preserved g c =
    let h = c.loop-i.invariant in
    let C = g.P.Touching.conflict c.args.pieces.now in
    let fences = c.args.fences.now in
    let start = c.args.start in
    let at = c.args.at in
    let i = c.loop-i.i in
    let flagged : i - start < length fences = omega (arith, h.before, c.requires.within) in
    let first : i - 1 < length c.args.pieces.now = omega (arith, h.before, c.requires.within, c.requires.known) in
    let second : at < length c.args.pieces.now = omega (arith, c.requires.within, c.requires.known) in
    let unfenced = not_fenced fences (i - start) flagged c.if-fences-i.false in
    let seen = pieces_seen _ g.P.Touching.reads g.P.Touching.writes g.P.Touching.conflict c.conflict_as_touched.ensures
    c.args.pieces.now (i - 1) at c.index-pieces-i.result c.index-pieces-at.result
    c.touched_spans.result.reads.items c.touched_spans.result.writes.items
    c.touched_spans-later.result.reads.items c.touched_spans-later.result.writes.items c.in_conflict.result
    first second c.index-pieces-i.is c.index-pieces-at.is c.touched_spans.ensures.reads c.touched_spans.ensures.writes
    c.touched_spans-later.ensures.reads c.touched_spans-later.ensures.writes c.in_conflict.ensures in
    record {
      begun = omega (arith, c.loop-i-test.true);
      before = omega (arith, h.before);
      unfenced = unfenced_more start fences i at c.loop-i-test.true unfenced h.unfenced;
      apart = apart_more (λ (x : ℕ). C x at) i at (omega (arith, c.loop-i-test.true))
          (λ e. absurd (true≢false (sym (seen.1 e) ∙ c.if-in_conflict.false))) h.apart;
    }

pub returns : goal.returns
returns g c =
    none_from_start (g.P.Touching.conflict c.args.pieces.now) c.args.start c.args.fences.now c.loop-i.i c.args.at
    (omega (arith, c.loop-i-test.false)) c.loop-i.invariant.apart
