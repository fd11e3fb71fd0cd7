use Rattle.std.proofs.Common.{◌∙◌}
use Rattle.dsa_tracker.proofs.Pieces.{left_addressable, right_addressable}
use Rattle.dsa_tracker.proofs.Rewritten.{filled_reads, filled_shaped_in, filled_shown_in, filled_state_in, filled_writes}
use Rattle.dsa_tracker.proofs.parts.keep_spans_in.Goals as goal

pub keep_spans-requires-clause-addressable : goal.keep_spans-requires-clause-addressable
keep_spans-requires-clause-addressable c = left_addressable c.args.reads.now c.args.writes.now c.requires.room.2

pub keep_spans-requires-2-clause-addressable : goal.keep_spans-requires-2-clause-addressable
keep_spans-requires-2-clause-addressable c = right_addressable c.args.reads.now c.args.writes.now c.requires.room.2

pub returns-clause-shaped : goal.returns-clause-shaped
returns-clause-shaped c =
    filled_shaped_in c.args.words.now c.split_at_mut-body.result.0.now c.split_at_mut-body.result.1.now c.split_at_mut-body-2.result.0.now c.split_at_mut-body-2.result.1.now c.split_at_mut-stores.result.0.now c.split_at_mut-stores.result.1.now c.args.head c.split_at_mut-body.ensures.value c.split_at_mut-body-2.ensures.value c.split_at_mut-stores.ensures.value c.split_at_mut-body.ensures.front_len c.split_at_mut-body-2.ensures.front_len c.split_at_mut-stores.ensures.front_len c.requires.shaped c.requires.head
    c.args.slot c.requires.free c.keep_spans.new.stores c.keep_spans-2.new.stores (c.keep_spans-2.auto.stores ∙ c.keep_spans.auto.stores) c.keep_spans.ensures.others c.keep_spans-2.ensures.others

pub returns-clause-shown : goal.returns-clause-shown
returns-clause-shown c =
    filled_shown_in c.args.words.now c.split_at_mut-body.result.0.now c.split_at_mut-body.result.1.now c.split_at_mut-body-2.result.0.now c.split_at_mut-body-2.result.1.now c.split_at_mut-stores.result.0.now c.split_at_mut-stores.result.1.now c.args.head c.split_at_mut-body.ensures.value c.split_at_mut-body-2.ensures.value c.split_at_mut-stores.ensures.value c.split_at_mut-body.ensures.front_len c.split_at_mut-body-2.ensures.front_len c.split_at_mut-stores.ensures.front_len c.requires.shaped c.requires.head
    c.args.slot c.requires.free c.keep_spans.new.stores c.keep_spans-2.new.stores (c.keep_spans-2.auto.stores ∙ c.keep_spans.auto.stores) c.keep_spans.ensures.others c.keep_spans-2.ensures.others

pub returns-clause-state : goal.returns-clause-state
returns-clause-state c =
    filled_state_in c.args.words.now c.split_at_mut-body.result.0.now c.split_at_mut-body.result.1.now c.split_at_mut-body-2.result.0.now c.split_at_mut-body-2.result.1.now c.split_at_mut-stores.result.0.now c.split_at_mut-stores.result.1.now c.args.head c.split_at_mut-body.ensures.value c.split_at_mut-body-2.ensures.value c.split_at_mut-stores.ensures.value c.split_at_mut-body.ensures.front_len c.split_at_mut-body-2.ensures.front_len c.split_at_mut-stores.ensures.front_len c.requires.shaped c.requires.head
    c.args.slot c.requires.free c.keep_spans.new.stores c.keep_spans-2.new.stores (c.keep_spans-2.auto.stores ∙ c.keep_spans.auto.stores) c.keep_spans.ensures.others c.keep_spans-2.ensures.others

pub returns-clause-reads : goal.returns-clause-reads
returns-clause-reads c =
    filled_reads c.args.words.now c.split_at_mut-body.result.0.now c.split_at_mut-body.result.1.now c.split_at_mut-body-2.result.0.now c.split_at_mut-body-2.result.1.now c.split_at_mut-stores.result.0.now c.split_at_mut-stores.result.1.now c.args.head c.split_at_mut-body.ensures.value c.split_at_mut-body-2.ensures.value c.split_at_mut-stores.ensures.value c.split_at_mut-body.ensures.front_len c.split_at_mut-body-2.ensures.front_len c.split_at_mut-stores.ensures.front_len c.requires.shaped c.requires.head
    c.args.slot c.requires.free c.keep_spans.new.stores c.keep_spans-2.new.stores (c.keep_spans-2.auto.stores ∙ c.keep_spans.auto.stores) c.keep_spans.ensures.others c.keep_spans-2.ensures.others
    c.args.reads.now c.keep_spans.ensures.here

pub returns-clause-writes : goal.returns-clause-writes
returns-clause-writes c =
    filled_writes c.args.words.now c.split_at_mut-body.result.0.now c.split_at_mut-body.result.1.now c.split_at_mut-body-2.result.0.now c.split_at_mut-body-2.result.1.now c.split_at_mut-stores.result.0.now c.split_at_mut-stores.result.1.now c.args.head c.split_at_mut-body.ensures.value c.split_at_mut-body-2.ensures.value c.split_at_mut-stores.ensures.value c.split_at_mut-body.ensures.front_len c.split_at_mut-body-2.ensures.front_len c.split_at_mut-stores.ensures.front_len c.requires.shaped c.requires.head
    c.args.slot c.requires.free c.keep_spans.new.stores c.keep_spans-2.new.stores (c.keep_spans-2.auto.stores ∙ c.keep_spans.auto.stores) c.keep_spans.ensures.others c.keep_spans-2.ensures.others
    c.args.writes.now c.keep_spans-2.ensures.here
