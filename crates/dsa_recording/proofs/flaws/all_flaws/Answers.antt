use Rattle.std.proofs.Common.{◌∷◌, [], ap, length, length-append, arith}
use Rattle.dsa_recording.proofs.Flawed.{flaws_pushed}
use Rattle.dsa_recording.proofs.flaws.all_flaws.Goals as goal

pub loop-k-preserved : goal.loop-k-preserved
loop-k-preserved c = record {
  count = omega (arith, ap length c.in_ok-push.ensures.items, length-append c.loop-k.flaws.items (c.flaws_of.result ∷ []), c.loop-k.invariant.count);
  each = flaws_pushed c.args.is_batch c.args.head.now c.args.entries.now c.loop-k.flaws.items c.push.new.self.items c.flaws_of.result c.loop-k.k
      c.loop-k.invariant.count c.in_ok-push.ensures.items c.loop-k.invariant.each c.flaws_of.ensures;
}
