use Rattle.std.proofs.Common.{refl, arith}
use Rattle.dsa_tracker.proofs.Stored.{count_is, counted, in_kept, through}
use Rattle.dsa_tracker.proofs.kept.push.Goals as goal

pub returns-clause-spans : goal.returns-clause-spans
returns-clause-spans c = λ a.
    through (counted c.put-count.new.store c.put-count.result (omega (arith, c.requires.room, c.put-count.ensures.count, c.put-count.auto.store)) a) (c.put-count.ensures.spans a)
    (in_kept c.args.store.now _ a (count_is c.args.store.now _ refl (omega (arith, c.requires.room))))
