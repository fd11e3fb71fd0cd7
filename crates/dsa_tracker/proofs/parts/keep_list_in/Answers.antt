use Rattle.std.proofs.Common.{◌∙◌, ◌++◌}
use Rattle.std.specs.Prelude.{flat_map}
use Rattle.dsa_tracker.proofs.Rewritten.{filled_reads, filled_shaped_in, filled_shown_in, filled_state_in, filled_writes}
use Rattle.dsa_tracker.proofs.parts.keep_list_in.Goals as goal

pub returns-clause-shaped : goal.returns-clause-shaped
returns-clause-shaped g c =
    filled_shaped_in c.args.words.now c.split_at_mut-body.result.0.now c.split_at_mut-body.result.1.now c.split_at_mut-body-2.result.0.now c.split_at_mut-body-2.result.1.now c.split_at_mut-stores.result.0.now c.split_at_mut-stores.result.1.now c.args.head c.split_at_mut-body.ensures.value c.split_at_mut-body-2.ensures.value c.split_at_mut-stores.ensures.value c.split_at_mut-body.ensures.front_len c.split_at_mut-body-2.ensures.front_len c.split_at_mut-stores.ensures.front_len c.requires.shaped c.requires.head
    c.args.slot c.requires.free c.keep_reads.new.stores c.keep_writes.new.stores (c.keep_writes.auto.stores ∙ c.keep_reads.auto.stores) c.keep_reads.ensures.others c.keep_writes.ensures.others

pub returns-clause-shown : goal.returns-clause-shown
returns-clause-shown g c =
    filled_shown_in c.args.words.now c.split_at_mut-body.result.0.now c.split_at_mut-body.result.1.now c.split_at_mut-body-2.result.0.now c.split_at_mut-body-2.result.1.now c.split_at_mut-stores.result.0.now c.split_at_mut-stores.result.1.now c.args.head c.split_at_mut-body.ensures.value c.split_at_mut-body-2.ensures.value c.split_at_mut-stores.ensures.value c.split_at_mut-body.ensures.front_len c.split_at_mut-body-2.ensures.front_len c.split_at_mut-stores.ensures.front_len c.requires.shaped c.requires.head
    c.args.slot c.requires.free c.keep_reads.new.stores c.keep_writes.new.stores (c.keep_writes.auto.stores ∙ c.keep_reads.auto.stores) c.keep_reads.ensures.others c.keep_writes.ensures.others

pub returns-clause-state : goal.returns-clause-state
returns-clause-state g c =
    filled_state_in c.args.words.now c.split_at_mut-body.result.0.now c.split_at_mut-body.result.1.now c.split_at_mut-body-2.result.0.now c.split_at_mut-body-2.result.1.now c.split_at_mut-stores.result.0.now c.split_at_mut-stores.result.1.now c.args.head c.split_at_mut-body.ensures.value c.split_at_mut-body-2.ensures.value c.split_at_mut-stores.ensures.value c.split_at_mut-body.ensures.front_len c.split_at_mut-body-2.ensures.front_len c.split_at_mut-stores.ensures.front_len c.requires.shaped c.requires.head
    c.args.slot c.requires.free c.keep_reads.new.stores c.keep_writes.new.stores (c.keep_writes.auto.stores ∙ c.keep_reads.auto.stores) c.keep_reads.ensures.others c.keep_writes.ensures.others

pub returns-clause-reads : goal.returns-clause-reads
returns-clause-reads g c =
    filled_reads c.args.words.now c.split_at_mut-body.result.0.now c.split_at_mut-body.result.1.now c.split_at_mut-body-2.result.0.now c.split_at_mut-body-2.result.1.now c.split_at_mut-stores.result.0.now c.split_at_mut-stores.result.1.now c.args.head c.split_at_mut-body.ensures.value c.split_at_mut-body-2.ensures.value c.split_at_mut-stores.ensures.value c.split_at_mut-body.ensures.front_len c.split_at_mut-body-2.ensures.front_len c.split_at_mut-stores.ensures.front_len c.requires.shaped c.requires.head
    c.args.slot c.requires.free c.keep_reads.new.stores c.keep_writes.new.stores (c.keep_writes.auto.stores ∙ c.keep_reads.auto.stores) c.keep_reads.ensures.others c.keep_writes.ensures.others
    (flat_map g.P.Touching.reads c.args.pieces.now) c.keep_reads.ensures.here

pub returns-clause-writes : goal.returns-clause-writes
returns-clause-writes g c =
    filled_writes c.args.words.now c.split_at_mut-body.result.0.now c.split_at_mut-body.result.1.now c.split_at_mut-body-2.result.0.now c.split_at_mut-body-2.result.1.now c.split_at_mut-stores.result.0.now c.split_at_mut-stores.result.1.now c.args.head c.split_at_mut-body.ensures.value c.split_at_mut-body-2.ensures.value c.split_at_mut-stores.ensures.value c.split_at_mut-body.ensures.front_len c.split_at_mut-body-2.ensures.front_len c.split_at_mut-stores.ensures.front_len c.requires.shaped c.requires.head
    c.args.slot c.requires.free c.keep_reads.new.stores c.keep_writes.new.stores (c.keep_writes.auto.stores ∙ c.keep_reads.auto.stores) c.keep_reads.ensures.others c.keep_writes.ensures.others
    (c.args.staged.now ++ flat_map g.P.Touching.writes c.args.pieces.now) c.keep_writes.ensures.here
