use Rattle.std.proofs.Common.{get_or, [], length, refl, ap, arith, length-append}
use Rattle.dsa_recording.proofs.StreamOf.{staged_more, staged_none, staged_all}
use Rattle.dsa_recording.proofs.dumps.staged_entries.Goals as goal

pub loop-at-init : goal.loop-at-init
loop-at-init c = rw c.new-bytes.ensures.items (record { staged = staged_none c.args.dumps.now c.args.all.now; few = omega arith })

pub loop-at-preserved : goal.loop-at-preserved
loop-at-preserved c =
    let e = get_or c.args.all.now c.loop-at.at [] in
    let front = c.extend_from_slice.new.self.items in
    let i = c.loop-at.invariant in
    record {
      staged = staged_more c.args.dumps.now c.args.all.now c.loop-at.at e c.in-Some.members.now c.loop-at.bytes.items
          front c.extend_from_slice-in-loop-at.new.self.items c.loop-at-test.true refl c.in-Some.ensures
          c.in_ok-extend_from_slice.ensures.items c.in_ok-extend_from_slice-2.ensures.items i.staged;
      few = omega (
        arith,
        c.if-members-len.false,
        i.few,
        c.len.ensures,
        c.told-all c.loop-at.at c.loop-at-test.true,
        ap length c.in_ok-extend_from_slice.ensures.items,
        length-append c.loop-at.bytes.items e,
        ap length c.in_ok-extend_from_slice-2.ensures.items,
        length-append front c.in-Some.members.now,
      );
    }

pub returns : goal.returns
returns c =
    (staged_all c.args.dumps.now c.args.all.now c.loop-at.at c.loop-at.bytes.items (omega (arith, c.loop-at-test.false)) c.loop-at.invariant.staged, c.loop-at.invariant.few)
