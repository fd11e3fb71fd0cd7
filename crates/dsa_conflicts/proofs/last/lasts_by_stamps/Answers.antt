use Rattle.std.proofs.Common.{◌≡◌, length, ℕ, ◌+◌, ◌<◌, [], ◌∷◌, ◌++◌, refl, arith, length-append, subst, sym, ap, ◌∙◌}
use Rattle.std.specs.Prelude.{Some, max, slice_get}
use Rattle.std.proofs.lemmas.Option.{slice_get_read, slice_get_within}
use Rattle.dsa_ranges.specs.Pieces.{PieceConflictAt}
use Rattle.dsa_conflicts.specs.Access.{IsGreatest}
use Rattle.dsa_conflicts.specs.Last.{IsLastBy, index_of}
use Rattle.dsa_conflicts.specs.Stamps.{covers_at, places_of, points_at}
use Rattle.dsa_conflicts.specs.Ranks.{AreRanges}
use Rattle.dsa_conflicts.proofs.Lasts.{each_more, last_in_window}
use Rattle.dsa_conflicts.proofs.Pieces.{Touched, Written, at_most_next, conflict_found, fit_as, held_as, index_fits, latest_as, stamp_fits, stamped_none_yet, stamped_of, ranges_as, touched_more, written_more}
use Rattle.dsa_conflicts.proofs.Starts.{piece_has_firsts}
use Rattle.dsa_conflicts.proofs.last.lasts_by_stamps.Goals as goal

pub ranges_of-reads-requires-clause-sorted : goal.ranges_of-reads-requires-clause-sorted
ranges_of-reads-requires-clause-sorted g c = rw c.deref-in-loop-b.ensures.value c.in_ok-starts.ensures.sorted

pub ranges_of-reads-requires-clause-held : goal.ranges_of-reads-requires-clause-held
ranges_of-reads-requires-clause-held g c =
    let reads = g.T.Touching.reads in
    let writes = g.T.Touching.writes in
    let ps = c.args.pieces.now in
    let d = c.index-pieces-b.result in
    held_as c.in_ok-starts.starts.items c.deref-in-loop-b.result.now (reads d) c.deref-in-loop-b-2.result.now c.deref-in-loop-b.ensures.value (c.deref-in-loop-b-2.ensures.0 ∙ c.touched_spans-touched.ensures.reads)
    (piece_has_firsts reads writes ps c.args.touches.now (length ps) c.in_ok-starts.starts.items c.requires.all c.in_ok-starts.ensures.held c.loop-b.b d c.loop-b-test.true (slice_get_read ps (length ps) c.loop-b.b d refl c.loop-b-test.true c.index-pieces-b.is)).0

pub ranges_of-writes-requires-clause-sorted : goal.ranges_of-writes-requires-clause-sorted
ranges_of-writes-requires-clause-sorted g c = rw c.deref-in-loop-b-4.ensures.value c.in_ok-starts.ensures.sorted

pub ranges_of-writes-requires-clause-held : goal.ranges_of-writes-requires-clause-held
ranges_of-writes-requires-clause-held g c =
    let reads = g.T.Touching.reads in
    let writes = g.T.Touching.writes in
    let ps = c.args.pieces.now in
    let d = c.index-pieces-b.result in
    held_as c.in_ok-starts.starts.items c.deref-in-loop-b-4.result.now (writes d) c.deref-in-loop-b-5.result.now c.deref-in-loop-b-4.ensures.value (c.deref-in-loop-b-5.ensures.0 ∙ c.touched_spans-touched.ensures.writes)
    (piece_has_firsts reads writes ps c.args.touches.now (length ps) c.in_ok-starts.starts.items c.requires.all c.in_ok-starts.ensures.held c.loop-b.b d c.loop-b-test.true (slice_get_read ps (length ps) c.loop-b.b d refl c.loop-b-test.true c.index-pieces-b.is)).1

pub latest_of-touches-requires-clause-fit : goal.latest_of-touches-requires-clause-fit
latest_of-touches-requires-clause-fit g c = fit_as c.in_ok-starts.starts.items c.deref-in-loop-b-4.result.now c.deref-in-loop-b-5.result.now c.ranges_of-writes.result.items c.deref-in-loop-b-7.result.now (places_of c.loop-b.touching) c.deref-in-loop-b-4.ensures.value c.ranges_of-writes.ensures c.deref-in-loop-b-7.ensures.0 c.loop-b.invariant.touching.count

pub latest_of-written-requires-clause-fit : goal.latest_of-written-requires-clause-fit
latest_of-written-requires-clause-fit g c = fit_as c.in_ok-starts.starts.items c.deref-in-loop-b.result.now c.deref-in-loop-b-2.result.now c.ranges_of-reads.result.items c.deref-in-loop-b-8.result.now (places_of c.loop-b.writing) c.deref-in-loop-b.ensures.value c.ranges_of-reads.ensures c.deref-in-loop-b-8.ensures.0 c.loop-b.invariant.writing.count

pub stamp_all-requires-clause-most : goal.stamp_all-requires-clause-most
stamp_all-requires-clause-most g c = at_most_next c.loop-b.b c.loop-b.touching c.loop-b.invariant.touching.most

pub stamp_all-requires-clause-fit : goal.stamp_all-requires-clause-fit
stamp_all-requires-clause-fit g c = fit_as c.in_ok-starts.starts.items c.deref-in-loop-b.result.now c.deref-in-loop-b-2.result.now c.ranges_of-reads.result.items c.deref-in-loop-b-9.result.now (places_of c.loop-b.touching) c.deref-in-loop-b.ensures.value c.ranges_of-reads.ensures c.deref-in-loop-b-9.ensures.0 c.loop-b.invariant.touching.count

pub stamp_all-requires-in-loop-b-clause-fit : goal.stamp_all-requires-in-loop-b-clause-fit
stamp_all-requires-in-loop-b-clause-fit g c = fit_as c.in_ok-starts.starts.items c.deref-in-loop-b-4.result.now c.deref-in-loop-b-5.result.now c.ranges_of-writes.result.items c.deref-in-loop-b-10.result.now (places_of c.stamp_all.new.stamps) c.deref-in-loop-b-4.ensures.value c.ranges_of-writes.ensures c.deref-in-loop-b-10.ensures.0 (c.stamp_all.ensures.count ∙ c.loop-b.invariant.touching.count)

pub stamp_all-requires-in-loop-b-2-clause-most : goal.stamp_all-requires-in-loop-b-2-clause-most
stamp_all-requires-in-loop-b-2-clause-most g c = at_most_next c.loop-b.b c.loop-b.writing c.loop-b.invariant.writing.most

pub stamp_all-requires-in-loop-b-2-clause-fit : goal.stamp_all-requires-in-loop-b-2-clause-fit
stamp_all-requires-in-loop-b-2-clause-fit g c = fit_as c.in_ok-starts.starts.items c.deref-in-loop-b-4.result.now c.deref-in-loop-b-5.result.now c.ranges_of-writes.result.items c.deref-in-loop-b-11.result.now (places_of c.loop-b.writing) c.deref-in-loop-b-4.ensures.value c.ranges_of-writes.ensures c.deref-in-loop-b-11.ensures.0 c.loop-b.invariant.writing.count

pub loop-b-preserved : goal.loop-b-preserved
loop-b-preserved g c =
    let starts = c.in_ok-starts.starts.items in
    let reads = g.T.Touching.reads in
    let writes = g.T.Touching.writes in
    let ps = c.args.pieces.now in
    let d = c.index-pieces-b.result in
    let b = c.loop-b.b in
    let at : slice_get ps b ≡ Some d = slice_get_read ps (length ps) b d refl c.loop-b-test.true c.index-pieces-b.is in
    let reading = c.ranges_of-reads.result.items in
    let writing = c.ranges_of-writes.result.items in
    let r : AreRanges starts (reads d) reading = ranges_as starts c.deref-in-loop-b.result.now (reads d) c.deref-in-loop-b-2.result.now reading c.deref-in-loop-b.ensures.value (c.deref-in-loop-b-2.ensures.0 ∙ c.touched_spans-touched.ensures.reads) c.ranges_of-reads.ensures in
    let w : AreRanges starts (writes d) writing =
    ranges_as starts c.deref-in-loop-b-4.result.now (writes d) c.deref-in-loop-b-5.result.now writing c.deref-in-loop-b-4.ensures.value (c.deref-in-loop-b-5.ensures.0 ∙ c.touched_spans-touched.ensures.writes) c.ranges_of-writes.ensures in
    let t0 = c.loop-b.touching in
    let t1 = c.stamp_all.new.stamps in
    let t2 = c.stamp_all-in-loop-b.new.stamps in
    let w0 = c.loop-b.writing in
    let w1 = c.stamp_all-in-loop-b-2.new.stamps in
    let touches = latest_as (points_at t0) (covers_at t0) writing c.deref-in-loop-b-7.result.now c.latest_of-touches.result c.deref-in-loop-b-7.ensures.0 c.latest_of-touches.ensures in
    let written = latest_as (points_at w0) (covers_at w0) reading c.deref-in-loop-b-8.result.now c.latest_of-written.result c.deref-in-loop-b-8.ensures.0 c.latest_of-written.ensures in
    let one = stamped_of (b + 1) (points_at t0) (points_at t1) (covers_at t0) (covers_at t1) reading c.deref-in-loop-b-9.result.now c.deref-in-loop-b-9.ensures.0 c.stamp_all.ensures.stamped in
    let two = stamped_of (b + 1) (points_at t1) (points_at t2) (covers_at t1) (covers_at t2) writing c.deref-in-loop-b-10.result.now c.deref-in-loop-b-10.ensures.0 c.stamp_all-in-loop-b.ensures.stamped in
    let three = stamped_of (b + 1) (points_at w0) (points_at w1) (covers_at w0) (covers_at w1) writing c.deref-in-loop-b-11.result.now c.deref-in-loop-b-11.ensures.0 c.stamp_all-in-loop-b-2.ensures.stamped in
    let found = conflict_found reads writes starts ps b d at reading writing r w t0 w0 c.latest_of-touches.result c.latest_of-written.result c.loop-b.invariant.touching c.loop-b.invariant.writing touches written in
    let is : c.index_of.result ≡ index_of (max c.latest_of-touches.result c.latest_of-written.result) = c.index_of.ensures ∙ ap index_of c.max.ensures in
    let known : IsGreatest (λ i. (i < b) × PieceConflictAt reads writes ps i b) c.index_of.result = subst (IsGreatest (λ i. (i < b) × PieceConflictAt reads writes ps i b)) (sym is) found in
    let last : IsLastBy (PieceConflictAt reads writes ps) c.args.window b c.in_window.result = subst (IsLastBy (PieceConflictAt reads writes ps) c.args.window b) (sym c.in_window.ensures) (last_in_window (PieceConflictAt reads writes ps) b c.args.window c.index_of.result known) in
    let items : c.push.new.self.items ≡ c.loop-b.lasts.items ++ c.in_window.result ∷ [] = c.in_ok-push.ensures.items in
    record {
      touching = touched_more reads writes starts ps b d at reading writing r w t0 t1 t2 c.loop-b.invariant.touching one two c.stamp_all-in-loop-b.ensures.stamps c.stamp_all-in-loop-b.ensures.most (c.stamp_all-in-loop-b.ensures.count ∙ c.stamp_all.ensures.count);
      writing = written_more reads writes starts ps b d at reading writing r w w0 w1 c.loop-b.invariant.writing three c.stamp_all-in-loop-b-2.ensures.stamps c.stamp_all-in-loop-b-2.ensures.most c.stamp_all-in-loop-b-2.ensures.count;
      filled = rw items (omega (arith, length-append c.loop-b.lasts.items (c.in_window.result ∷ []), c.loop-b.invariant.filled));
      each = λ k y e. each_more (IsLastBy (PieceConflictAt reads writes ps) c.args.window) c.loop-b.lasts.items c.in_window.result c.loop-b.invariant.each
          (subst (λ (n : ℕ). IsLastBy (PieceConflictAt reads writes ps) c.args.window n c.in_window.result) (sym c.loop-b.invariant.filled) last) k y (rw items at e);
    }

pub returns : goal.returns
returns g c = record { count = omega (arith, c.loop-b.invariant.filled, c.loop-b-test.false, c.loop-b.auto.b-end); each = c.loop-b.invariant.each }

pub hints_of-requires-clause-sorted : goal.hints_of-requires-clause-sorted
hints_of-requires-clause-sorted g c = rw c.deref.ensures.value c.in_ok-starts.ensures.sorted

pub loop-b-init : goal.loop-b-init
loop-b-init g c =
    let reads = g.T.Touching.reads in
    let writes = g.T.Touching.writes in
    let starts = c.in_ok-starts.starts.items in
    let ps = c.args.pieces.now in
    record {
      touching = stamped_none_yet reads writes starts ps (Touched reads writes) c.in_ok-touching.touching c.in_ok-touching.ensures.stamps (c.in_ok-touching.ensures.count ∙ c.len.ensures ∙ c.in_ok-starts.starts.ok.0) c.in_ok-touching.ensures.none;
      writing = stamped_none_yet reads writes starts ps (Written writes) c.in_ok-writing.writing c.in_ok-writing.ensures.stamps (c.in_ok-writing.ensures.count ∙ c.len-2.ensures ∙ c.in_ok-starts.starts.ok.0) c.in_ok-writing.ensures.none;
      filled = ap length c.in_ok-lasts.ensures.items;
      each = λ k last at. absurd (omega (arith, slice_get_within c.in_ok-lasts.lasts.items k last at, ap length c.in_ok-lasts.ensures.items));
    }

pub overflow_cast-b : goal.overflow_cast-b
overflow_cast-b g c = index_fits c.loop-b.b (length c.args.pieces.now) c.loop-b-test.true c.requires.count

pub overflow_cast-b-in-loop-b : goal.overflow_cast-b-in-loop-b
overflow_cast-b-in-loop-b g c = index_fits c.loop-b.b (length c.args.pieces.now) c.loop-b-test.true c.requires.count

pub overflow_cast-stamp : goal.overflow_cast-stamp
overflow_cast-stamp g c = index_fits c.loop-b.b (length c.args.pieces.now) c.loop-b-test.true c.requires.count

pub overflow_add-stamp : goal.overflow_add-stamp
overflow_add-stamp g c = stamp_fits c.loop-b.b (length c.args.pieces.now) c.loop-b-test.true c.requires.count

pub latest_of-touches-requires-clause-stamps : goal.latest_of-touches-requires-clause-stamps
latest_of-touches-requires-clause-stamps g c = c.loop-b.invariant.touching.stamps

pub latest_of-written-requires-clause-stamps : goal.latest_of-written-requires-clause-stamps
latest_of-written-requires-clause-stamps g c = c.loop-b.invariant.writing.stamps

pub stamp_all-requires-clause-stamps : goal.stamp_all-requires-clause-stamps
stamp_all-requires-clause-stamps g c = c.loop-b.invariant.touching.stamps

pub stamp_all-requires-in-loop-b-clause-stamps : goal.stamp_all-requires-in-loop-b-clause-stamps
stamp_all-requires-in-loop-b-clause-stamps g c = c.stamp_all.ensures.stamps

pub stamp_all-requires-in-loop-b-clause-most : goal.stamp_all-requires-in-loop-b-clause-most
stamp_all-requires-in-loop-b-clause-most g c = c.stamp_all.ensures.most

pub stamp_all-requires-in-loop-b-2-clause-stamps : goal.stamp_all-requires-in-loop-b-2-clause-stamps
stamp_all-requires-in-loop-b-2-clause-stamps g c = c.loop-b.invariant.writing.stamps
