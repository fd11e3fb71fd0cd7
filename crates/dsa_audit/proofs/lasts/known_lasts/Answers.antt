use Rattle.std.proofs.Common.{◌≡◌, ℕ, ◌<◌, ◌∷◌, [], List, Some, length, length-append, refl, sym, ap, subst, arith}
use Rattle.std.specs.Prelude.{slice_get}
use Rattle.dsa_descriptor.specs.Spans.{InSome}
use Rattle.dsa_conflicts.specs.Access.{IsGreatest}
use Rattle.dsa_conflicts.specs.Sweep.{BecomesLast, last_reader, last_writer}
use Rattle.dsa_conflicts.proofs.Lasts.{found_last, more_swept}
use Rattle.dsa_audit.specs.declared.member.Member.{Member}
use Rattle.dsa_audit.specs.Members.{KnownConflict, reads_of, writes_of}
use Rattle.dsa_audit.specs.Steps.{AreLasts}
use Rattle.dsa_audit.proofs.LastConflicts.{known_before, member_there, more_lasts}
use Rattle.dsa_audit.proofs.lasts.known_lasts.Goals as goal

pub loop-k-preserved : goal.loop-k-preserved
loop-k-preserved c =
    let ms : List Member = c.args.members.now in
    let k : ℕ = c.loop-k.k in
    let m : Member = c.index-members-k-in-loop-k.result in
    let before = c.loop-k.invariant in
    let at : slice_get ms k ≡ Some m = member_there ms k m m c.loop-k-test.true c.index-members-k-in-loop-k.is refl in
    let reads = subst (λ (n : ℕ). BecomesLast (InSome (reads_of m)) n (last_reader c.loop-k.sweep.segments) (last_reader c.in_ok-next.next.segments)) before.counted c.in_ok-next.ensures.readers in
    let writes = subst (λ (n : ℕ). BecomesLast (InSome (writes_of m)) n (last_writer c.loop-k.sweep.segments) (last_writer c.in_ok-next.next.segments)) before.counted c.in_ok-next.ensures.writers in
    let found = known_before ms k k c.in_ok-next.last (found_last reads_of writes_of ms k m at c.loop-k.sweep.segments before.swept c.in_ok-next.last c.in_ok-next.ensures.found) in
    let here = subst (IsGreatest (λ a. (a < k) × KnownConflict ms a k)) (sym c.widened.ensures) found in
    record {
      swept = more_swept reads_of writes_of ms k m at c.loop-k.sweep.segments c.in_ok-next.next.segments reads writes before.swept;
      counted = omega (arith, c.in_ok-next.ensures.count, before.counted);
      lasts = subst (AreLasts (KnownConflict ms)) (sym c.in_ok-push.ensures.items)
          (more_lasts (KnownConflict ms) c.loop-k.lasts.items k c.widened.result before.count before.lasts here);
      count = omega (arith, ap length c.in_ok-push.ensures.items, length-append c.loop-k.lasts.items (c.widened.result ∷ []), before.count);
    }
