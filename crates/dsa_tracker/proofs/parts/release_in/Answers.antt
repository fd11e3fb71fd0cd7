use Rattle.dsa_tracker.proofs.Rewritten.{changed_shaped, changed_state, old_state, ready_now, released_now, waited_now}
use Rattle.dsa_tracker.proofs.parts.release_in.Goals as goal

pub returns-clause-shaped : goal.returns-clause-shaped
returns-clause-shaped c =
    changed_shaped c.args.words.now c.split_at_mut-front.result.0.now c.split_at_mut-front.result.1.now c.split_at_mut-waits.result.0.now c.split_at_mut-waits.result.1.now c.split_at_mut-stores.result.0.now c.split_at_mut-stores.result.1.now c.args.head c.split_at_mut-front.ensures.value c.split_at_mut-waits.ensures.value c.split_at_mut-stores.ensures.value c.split_at_mut-front.ensures.front_len c.split_at_mut-waits.ensures.front_len c.split_at_mut-stores.ensures.front_len c.requires.shaped c.requires.head
    c.split_at_mut-rows.result.0.now c.split_at_mut-rows.result.1.now c.split_at_mut-rows.ensures.value c.split_at_mut-rows.ensures.front_len c.write_head.new.front c.release-retired.new.waits c.release-retired.new.rows c.release-retired.new.board c.args.head.owner c.write_head.ensures.value c.write_head.ensures.low c.release-retired.auto.waits c.release-retired.auto.rows c.release-retired.ensures.shaped

pub returns-clause-released : goal.returns-clause-released
returns-clause-released c =
    λ state.
    released_now c.args.words.now c.split_at_mut-front.result.0.now c.split_at_mut-front.result.1.now c.split_at_mut-waits.result.0.now c.split_at_mut-waits.result.1.now c.split_at_mut-stores.result.0.now c.split_at_mut-stores.result.1.now c.args.head c.split_at_mut-front.ensures.value c.split_at_mut-waits.ensures.value c.split_at_mut-stores.ensures.value c.split_at_mut-front.ensures.front_len c.split_at_mut-waits.ensures.front_len c.split_at_mut-stores.ensures.front_len c.requires.shaped c.requires.head
    c.split_at_mut-rows.result.0.now c.split_at_mut-rows.result.1.now c.split_at_mut-rows.ensures.value c.split_at_mut-rows.ensures.front_len c.write_head.new.front c.release-retired.new.waits c.release-retired.new.rows c.release-retired.new.board c.args.head.owner c.write_head.ensures.value c.write_head.ensures.low c.release-retired.auto.waits c.release-retired.auto.rows c.release-retired.ensures.shaped
    c.args.slot
    (c.release-retired.ensures.released (old_state c.args.words.now c.split_at_mut-front.result.0.now c.split_at_mut-front.result.1.now c.split_at_mut-waits.result.0.now c.split_at_mut-waits.result.1.now c.split_at_mut-stores.result.0.now c.split_at_mut-stores.result.1.now c.args.head c.split_at_mut-front.ensures.value c.split_at_mut-waits.ensures.value c.split_at_mut-stores.ensures.value c.split_at_mut-front.ensures.front_len c.split_at_mut-waits.ensures.front_len c.split_at_mut-stores.ensures.front_len c.requires.shaped c.requires.head
    c.split_at_mut-rows.result.0.now c.split_at_mut-rows.result.1.now c.split_at_mut-rows.ensures.value c.split_at_mut-rows.ensures.front_len c.write_head.new.front c.release-retired.new.waits c.release-retired.new.rows c.release-retired.new.board c.args.head.owner c.write_head.ensures.value c.write_head.ensures.low c.release-retired.auto.waits c.release-retired.auto.rows c.release-retired.ensures.shaped
    state))

pub returns-clause-waited : goal.returns-clause-waited
returns-clause-waited c =
    λ state.
    waited_now c.args.words.now c.split_at_mut-front.result.0.now c.split_at_mut-front.result.1.now c.split_at_mut-waits.result.0.now c.split_at_mut-waits.result.1.now c.split_at_mut-stores.result.0.now c.split_at_mut-stores.result.1.now c.args.head c.split_at_mut-front.ensures.value c.split_at_mut-waits.ensures.value c.split_at_mut-stores.ensures.value c.split_at_mut-front.ensures.front_len c.split_at_mut-waits.ensures.front_len c.split_at_mut-stores.ensures.front_len c.requires.shaped c.requires.head
    c.split_at_mut-rows.result.0.now c.split_at_mut-rows.result.1.now c.split_at_mut-rows.ensures.value c.split_at_mut-rows.ensures.front_len c.write_head.new.front c.release-retired.new.waits c.release-retired.new.rows c.release-retired.new.board c.args.head.owner c.write_head.ensures.value c.write_head.ensures.low c.release-retired.auto.waits c.release-retired.auto.rows c.release-retired.ensures.shaped
    c.args.slot c.release-retired.result.waited
    (c.release-retired.ensures.waited (old_state c.args.words.now c.split_at_mut-front.result.0.now c.split_at_mut-front.result.1.now c.split_at_mut-waits.result.0.now c.split_at_mut-waits.result.1.now c.split_at_mut-stores.result.0.now c.split_at_mut-stores.result.1.now c.args.head c.split_at_mut-front.ensures.value c.split_at_mut-waits.ensures.value c.split_at_mut-stores.ensures.value c.split_at_mut-front.ensures.front_len c.split_at_mut-waits.ensures.front_len c.split_at_mut-stores.ensures.front_len c.requires.shaped c.requires.head
    c.split_at_mut-rows.result.0.now c.split_at_mut-rows.result.1.now c.split_at_mut-rows.ensures.value c.split_at_mut-rows.ensures.front_len c.write_head.new.front c.release-retired.new.waits c.release-retired.new.rows c.release-retired.new.board c.args.head.owner c.write_head.ensures.value c.write_head.ensures.low c.release-retired.auto.waits c.release-retired.auto.rows c.release-retired.ensures.shaped
    state))

pub returns-clause-ready : goal.returns-clause-ready
returns-clause-ready c =
    λ state.
    ready_now c.args.words.now c.split_at_mut-front.result.0.now c.split_at_mut-front.result.1.now c.split_at_mut-waits.result.0.now c.split_at_mut-waits.result.1.now c.split_at_mut-stores.result.0.now c.split_at_mut-stores.result.1.now c.args.head c.split_at_mut-front.ensures.value c.split_at_mut-waits.ensures.value c.split_at_mut-stores.ensures.value c.split_at_mut-front.ensures.front_len c.split_at_mut-waits.ensures.front_len c.split_at_mut-stores.ensures.front_len c.requires.shaped c.requires.head
    c.split_at_mut-rows.result.0.now c.split_at_mut-rows.result.1.now c.split_at_mut-rows.ensures.value c.split_at_mut-rows.ensures.front_len c.write_head.new.front c.release-retired.new.waits c.release-retired.new.rows c.release-retired.new.board c.args.head.owner c.write_head.ensures.value c.write_head.ensures.low c.release-retired.auto.waits c.release-retired.auto.rows c.release-retired.ensures.shaped
    c.args.slot c.release-retired.result.ready
    (c.release-retired.ensures.ready (old_state c.args.words.now c.split_at_mut-front.result.0.now c.split_at_mut-front.result.1.now c.split_at_mut-waits.result.0.now c.split_at_mut-waits.result.1.now c.split_at_mut-stores.result.0.now c.split_at_mut-stores.result.1.now c.args.head c.split_at_mut-front.ensures.value c.split_at_mut-waits.ensures.value c.split_at_mut-stores.ensures.value c.split_at_mut-front.ensures.front_len c.split_at_mut-waits.ensures.front_len c.split_at_mut-stores.ensures.front_len c.requires.shaped c.requires.head
    c.split_at_mut-rows.result.0.now c.split_at_mut-rows.result.1.now c.split_at_mut-rows.ensures.value c.split_at_mut-rows.ensures.front_len c.write_head.new.front c.release-retired.new.waits c.release-retired.new.rows c.release-retired.new.board c.args.head.owner c.write_head.ensures.value c.write_head.ensures.low c.release-retired.auto.waits c.release-retired.auto.rows c.release-retired.ensures.shaped
    state))

pub returns-clause-state : goal.returns-clause-state
returns-clause-state c =
    changed_state c.args.words.now c.split_at_mut-front.result.0.now c.split_at_mut-front.result.1.now c.split_at_mut-waits.result.0.now c.split_at_mut-waits.result.1.now c.split_at_mut-stores.result.0.now c.split_at_mut-stores.result.1.now c.args.head c.split_at_mut-front.ensures.value c.split_at_mut-waits.ensures.value c.split_at_mut-stores.ensures.value c.split_at_mut-front.ensures.front_len c.split_at_mut-waits.ensures.front_len c.split_at_mut-stores.ensures.front_len c.requires.shaped c.requires.head
    c.split_at_mut-rows.result.0.now c.split_at_mut-rows.result.1.now c.split_at_mut-rows.ensures.value c.split_at_mut-rows.ensures.front_len c.write_head.new.front c.release-retired.new.waits c.release-retired.new.rows c.release-retired.new.board c.args.head.owner c.write_head.ensures.value c.write_head.ensures.low c.release-retired.auto.waits c.release-retired.auto.rows c.release-retired.ensures.shaped
    c.release-retired.ensures.state
