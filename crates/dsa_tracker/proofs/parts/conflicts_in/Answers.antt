use Rattle.dsa_tracker.proofs.Rewritten.{asked_in}
use Rattle.dsa_tracker.proofs.parts.conflicts_in.Goals as goal

pub returns : goal.returns
returns c =
    asked_in c.args.words.now c.split_at.result.0.now c.split_at.result.1.now c.split_at-2.result.0.now c.split_at-2.result.1.now c.split_at-3.result.0.now c.split_at-3.result.1.now c.args.head
    c.split_at.ensures.by_index.0 c.split_at-2.ensures.by_index.0 c.split_at-3.ensures.by_index.0 c.split_at.ensures.front_len c.split_at-2.ensures.front_len c.split_at-3.ensures.front_len c.requires.shaped c.requires.head
    c.split_at-4.result.0.now c.split_at-4.result.1.now c.split_at-4.ensures.by_index.0 c.split_at-4.ensures.front_len c.slots_in_the_way.result c.args.reads.now c.args.writes.now c.slots_in_the_way.ensures
