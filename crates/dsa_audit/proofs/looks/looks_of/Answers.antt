use Rattle.std.proofs.Common.{◌≡◌, ℕ, ◌<◌, List, Some, get_or, refl, sym, subst, arith}
use Rattle.std.specs.Prelude.{slice_get}
use Rattle.dsa_descriptor.specs.Spans.{InSome}
use Rattle.dsa_conflicts.specs.Access.{IsGreatest}
use Rattle.dsa_conflicts.specs.Sweep.{BecomesLast, last_reader, last_writer}
use Rattle.dsa_conflicts.proofs.Lasts.{more_swept}
use Rattle.dsa_audit.specs.declared.looks.Look.{Look}
use Rattle.dsa_audit.specs.declared.looks.Wanted.{Wanted}
use Rattle.dsa_audit.specs.declared.member.Member.{Member}
use Rattle.dsa_audit.specs.Members.{KnownConflict, reads_of, writes_of}
use Rattle.dsa_audit.specs.Steps.{AreLooks}
use Rattle.dsa_audit.proofs.LastConflicts.{look_found, look_more, member_there}
use Rattle.dsa_audit.proofs.looks.looks_of.Goals as goal

pub loop-looks-preserved-in-Continue-branch-2 : goal.loop-looks-preserved-in-Continue-branch-2
loop-looks-preserved-in-Continue-branch-2 c =
    let ms : List Member = c.args.members.now in
    let m : Member = c.index-members-later-then-before-at.result in
    let w : Wanted = get_or c.args.wanted.now c.len-in-loop-looks.result (record { before = 0; later = 0 }) in
    let there : slice_get ms w.later ≡ Some m = member_there ms w.later m m (omega (arith, c.if-later-members.false)) c.index-members-later-then-before-at.is refl in
    let found : IsGreatest (λ a. (a < c.loop-looks.at) × KnownConflict ms a w.later) c.last_in.result =
    look_found ms c.loop-looks.at w.later m c.loop-looks.sweep.segments c.last_in.result there c.loop-looks.invariant.swept c.last_in.ensures in
    let here : IsGreatest (λ a. (a < c.loop-looks.at) × KnownConflict ms a w.later) c.widened-last.result = subst (IsGreatest (λ a. (a < c.loop-looks.at) × KnownConflict ms a w.later)) (sym c.widened-last.ensures) found in
    record {
      within = c.loop-looks.invariant.within;
      swept = c.loop-looks.invariant.swept;
      counted = c.loop-looks.invariant.counted;
      looks = subst (AreLooks ms) (sym c.in_ok-push.ensures.items)
          (look_more (λ (l : Look). IsGreatest (λ a. (a < l.before) × KnownConflict ms a l.later) l.last) c.loop-looks.looks.items (record { before = w.before; later = w.later; last = c.widened-last.result }) c.loop-looks.invariant.looks
          (subst (λ (n : ℕ). IsGreatest (λ a. (a < n) × KnownConflict ms a w.later) c.widened-last.result) (sym c.if-before-at.true) here));
    }

pub loop-looks-preserved : goal.loop-looks-preserved
loop-looks-preserved c =
    let ms : List Member = c.args.members.now in
    let k : ℕ = c.loop-looks.at in
    let m : Member = c.index-members-at-else-before-at.result in
    let before = c.loop-looks.invariant in
    let there : slice_get ms k ≡ Some m = member_there ms k m m (omega (arith, c.if-at-members.false)) c.index-members-at-else-before-at.is refl in
    let reads = subst (λ (n : ℕ). BecomesLast (InSome (reads_of m)) n (last_reader c.loop-looks.sweep.segments) (last_reader c.in_ok-next.next.segments)) before.counted c.in_ok-next.ensures.readers in
    let writes = subst (λ (n : ℕ). BecomesLast (InSome (writes_of m)) n (last_writer c.loop-looks.sweep.segments) (last_writer c.in_ok-next.next.segments)) before.counted c.in_ok-next.ensures.writers in
    record {
      within = omega (arith, c.if-at-members.false);
      swept = more_swept reads_of writes_of ms k m there c.loop-looks.sweep.segments c.in_ok-next.next.segments reads writes before.swept;
      counted = omega (arith, c.in_ok-next.ensures.count, before.counted);
      looks = before.looks;
    }
