use Rattle.dsa_tracker.proofs.Rewritten.{awaited_now, changed_head, changed_shaped, changed_state, old_state, taken_now}
use Rattle.dsa_tracker.proofs.parts.take_in.Goals as goal

pub returns-clause-shaped : goal.returns-clause-shaped
returns-clause-shaped c =
    changed_shaped c.args.words.now c.split_at_mut-front.result.0.now c.split_at_mut-front.result.1.now c.split_at_mut-waits.result.0.now c.split_at_mut-waits.result.1.now c.split_at_mut-stores.result.0.now c.split_at_mut-stores.result.1.now c.args.head c.split_at_mut-front.ensures.value c.split_at_mut-waits.ensures.value c.split_at_mut-stores.ensures.value c.split_at_mut-front.ensures.front_len c.split_at_mut-waits.ensures.front_len c.split_at_mut-stores.ensures.front_len c.requires.shaped c.requires.head
    c.split_at_mut-rows.result.0.now c.split_at_mut-rows.result.1.now c.split_at_mut-rows.ensures.value c.split_at_mut-rows.ensures.front_len c.write_head.new.front c.take-awaited.new.waits c.take-awaited.new.rows c.take-awaited.new.board c.args.owner c.write_head.ensures.value c.write_head.ensures.low c.take-awaited.auto.waits c.take-awaited.auto.rows c.take-awaited.ensures.shaped

pub returns-clause-head : goal.returns-clause-head
returns-clause-head c =
    changed_head c.args.words.now c.split_at_mut-front.result.0.now c.split_at_mut-front.result.1.now c.split_at_mut-waits.result.0.now c.split_at_mut-waits.result.1.now c.split_at_mut-stores.result.0.now c.split_at_mut-stores.result.1.now c.args.head c.split_at_mut-front.ensures.value c.split_at_mut-waits.ensures.value c.split_at_mut-stores.ensures.value c.split_at_mut-front.ensures.front_len c.split_at_mut-waits.ensures.front_len c.split_at_mut-stores.ensures.front_len c.requires.shaped c.requires.head
    c.split_at_mut-rows.result.0.now c.split_at_mut-rows.result.1.now c.split_at_mut-rows.ensures.value c.split_at_mut-rows.ensures.front_len c.write_head.new.front c.take-awaited.new.waits c.take-awaited.new.rows c.take-awaited.new.board c.args.owner c.write_head.ensures.value c.write_head.ensures.low c.take-awaited.auto.waits c.take-awaited.auto.rows c.take-awaited.ensures.shaped

pub returns-clause-waits : goal.returns-clause-waits
returns-clause-waits c =
    λ state.
    awaited_now c.args.words.now c.split_at_mut-front.result.0.now c.split_at_mut-front.result.1.now c.split_at_mut-waits.result.0.now c.split_at_mut-waits.result.1.now c.split_at_mut-stores.result.0.now c.split_at_mut-stores.result.1.now c.args.head c.split_at_mut-front.ensures.value c.split_at_mut-waits.ensures.value c.split_at_mut-stores.ensures.value c.split_at_mut-front.ensures.front_len c.split_at_mut-waits.ensures.front_len c.split_at_mut-stores.ensures.front_len c.requires.shaped c.requires.head
    c.split_at_mut-rows.result.0.now c.split_at_mut-rows.result.1.now c.split_at_mut-rows.ensures.value c.split_at_mut-rows.ensures.front_len c.write_head.new.front c.take-awaited.new.waits c.take-awaited.new.rows c.take-awaited.new.board c.args.owner c.write_head.ensures.value c.write_head.ensures.low c.take-awaited.auto.waits c.take-awaited.auto.rows c.take-awaited.ensures.shaped
    c.take-awaited.result c.args.slot c.args.also
    (c.take-awaited.ensures.waits (old_state c.args.words.now c.split_at_mut-front.result.0.now c.split_at_mut-front.result.1.now c.split_at_mut-waits.result.0.now c.split_at_mut-waits.result.1.now c.split_at_mut-stores.result.0.now c.split_at_mut-stores.result.1.now c.args.head c.split_at_mut-front.ensures.value c.split_at_mut-waits.ensures.value c.split_at_mut-stores.ensures.value c.split_at_mut-front.ensures.front_len c.split_at_mut-waits.ensures.front_len c.split_at_mut-stores.ensures.front_len c.requires.shaped c.requires.head
    c.split_at_mut-rows.result.0.now c.split_at_mut-rows.result.1.now c.split_at_mut-rows.ensures.value c.split_at_mut-rows.ensures.front_len c.write_head.new.front c.take-awaited.new.waits c.take-awaited.new.rows c.take-awaited.new.board c.args.owner c.write_head.ensures.value c.write_head.ensures.low c.take-awaited.auto.waits c.take-awaited.auto.rows c.take-awaited.ensures.shaped
    state))

pub returns-clause-slots : goal.returns-clause-slots
returns-clause-slots c =
    taken_now c.args.words.now c.split_at_mut-front.result.0.now c.split_at_mut-front.result.1.now c.split_at_mut-waits.result.0.now c.split_at_mut-waits.result.1.now c.split_at_mut-stores.result.0.now c.split_at_mut-stores.result.1.now c.args.head c.split_at_mut-front.ensures.value c.split_at_mut-waits.ensures.value c.split_at_mut-stores.ensures.value c.split_at_mut-front.ensures.front_len c.split_at_mut-waits.ensures.front_len c.split_at_mut-stores.ensures.front_len c.requires.shaped c.requires.head
    c.split_at_mut-rows.result.0.now c.split_at_mut-rows.result.1.now c.split_at_mut-rows.ensures.value c.split_at_mut-rows.ensures.front_len c.write_head.new.front c.take-awaited.new.waits c.take-awaited.new.rows c.take-awaited.new.board c.args.owner c.write_head.ensures.value c.write_head.ensures.low c.take-awaited.auto.waits c.take-awaited.auto.rows c.take-awaited.ensures.shaped
    c.args.slot c.take-awaited.ensures.slots

pub returns-clause-state : goal.returns-clause-state
returns-clause-state c =
    changed_state c.args.words.now c.split_at_mut-front.result.0.now c.split_at_mut-front.result.1.now c.split_at_mut-waits.result.0.now c.split_at_mut-waits.result.1.now c.split_at_mut-stores.result.0.now c.split_at_mut-stores.result.1.now c.args.head c.split_at_mut-front.ensures.value c.split_at_mut-waits.ensures.value c.split_at_mut-stores.ensures.value c.split_at_mut-front.ensures.front_len c.split_at_mut-waits.ensures.front_len c.split_at_mut-stores.ensures.front_len c.requires.shaped c.requires.head
    c.split_at_mut-rows.result.0.now c.split_at_mut-rows.result.1.now c.split_at_mut-rows.ensures.value c.split_at_mut-rows.ensures.front_len c.write_head.new.front c.take-awaited.new.waits c.take-awaited.new.rows c.take-awaited.new.board c.args.owner c.write_head.ensures.value c.write_head.ensures.low c.take-awaited.auto.waits c.take-awaited.auto.rows c.take-awaited.ensures.shaped
    c.take-awaited.ensures.state
