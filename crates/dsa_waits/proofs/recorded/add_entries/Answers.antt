use Rattle.std.proofs.Common.{◌≤◌, refl, arith}
use Rattle.dsa_recording.specs.Submissions.{head_at}
use Rattle.dsa_waits.specs.Recorded.{IsEpoch}
use Rattle.dsa_waits.proofs.Entered.{added, epoch_next}
use Rattle.dsa_waits.proofs.recorded.add_entries.Goals as goal

pub loop-entry-preserved : goal.loop-entry-preserved
loop-entry-preserved c =
    let from : head_at c.args.submission ≤ c.loop-entry.entry = omega (arith, c.loop-entry.invariant.begun, c.loop-entry.invariant.reached) in
    let epoch : IsEpoch c.args.all.now (head_at c.args.submission) c.loop-entry.entry c.later_epoch-epoch.result =
    epoch_next c.args.all.now (head_at c.args.submission) c.loop-entry.entry c.loop-entry.epoch c.later_epoch-epoch.result c.is_fenced.result
    c.later_epoch-epoch.ensures c.is_fenced.ensures from c.loop-entry.invariant.begun c.loop-entry.invariant.reached c.loop-entry.invariant.fence
    c.loop-entry.invariant.last in
    record {
      added =
          added c.args.all.now c.args.submission c.args.number c.loop-entry.entry c.args.entries.now.items c.loop-entry.entries.items c.push.new.self.items
          c.args.members.now.items c.loop-entry.members.items c.push-in-loop-entry.new.self.items
          (record { submission = c.args.number; epoch = c.later_epoch-epoch.result; asks_record = c.asks_record.result }) c.access_of.result from
          c.loop-entry.invariant.added c.in_ok-push.ensures.items c.in_ok-push-2.ensures.items
          (record { submission = refl; epoch = epoch; asks_record = c.asks_record.ensures }) c.access_of.ensures;
      begun = epoch.begun;
      reached = omega (arith, epoch.reached);
      fence = epoch.fence;
      last = λ k lt le. epoch.last k lt (omega arith);
    }
