use Rattle.dsa_tracker.proofs.Releasing.{ready_exactly, released, released_shaped, released_state, waited_exactly}
use Rattle.dsa_tracker.proofs.board.release.Goals as goal

pub returns-clause-released : goal.returns-clause-released
returns-clause-released c = λ state.
    released c.args.board.now c.without.result c.args.waits.now c.forget.new.waits c.args.stores.now c.args.rows.now c.unmark_slot.new.rows c.args.shape c.args.slot
    c.slots_that_wait-waited.result c.slots_without_waits-ready.result c.without-2.result state c.requires.held c.slots_that_wait-waited.ensures c.forget.auto.waits c.forget.ensures.forgets c.forget.ensures.others
    c.slots_without_waits-ready.ensures c.without.ensures.outstanding c.without.ensures.blocked c.without.ensures.wide c.unmark_slot.auto.rows c.unmark_slot.ensures

pub returns-clause-waited : goal.returns-clause-waited
returns-clause-waited c = λ state.
    waited_exactly c.args.board.now c.without.result c.args.waits.now c.forget.new.waits c.args.stores.now c.args.rows.now c.unmark_slot.new.rows c.args.shape c.args.slot
    c.slots_that_wait-waited.result c.slots_without_waits-ready.result c.without-2.result state c.requires.held c.slots_that_wait-waited.ensures c.forget.auto.waits c.forget.ensures.forgets c.forget.ensures.others
    c.slots_without_waits-ready.ensures c.without.ensures.outstanding c.without.ensures.blocked c.without.ensures.wide c.unmark_slot.auto.rows c.unmark_slot.ensures

pub returns-clause-ready : goal.returns-clause-ready
returns-clause-ready c = λ state.
    ready_exactly c.args.board.now c.without.result c.args.waits.now c.forget.new.waits c.args.stores.now c.args.rows.now c.unmark_slot.new.rows c.args.shape c.args.slot
    c.slots_that_wait-waited.result c.slots_without_waits-ready.result c.without-2.result state c.requires.held c.slots_that_wait-waited.ensures c.forget.auto.waits c.forget.ensures.forgets c.forget.ensures.others
    c.slots_without_waits-ready.ensures c.without.ensures.outstanding c.without.ensures.blocked c.without.ensures.wide c.unmark_slot.auto.rows c.unmark_slot.ensures c.without-2.ensures

pub returns-clause-state : goal.returns-clause-state
returns-clause-state c = λ state.
    released_state c.args.board.now c.without.result c.args.waits.now c.forget.new.waits c.args.stores.now c.args.rows.now c.unmark_slot.new.rows c.args.shape c.args.slot
    c.slots_that_wait-waited.result c.slots_without_waits-ready.result c.without-2.result state c.requires.held c.slots_that_wait-waited.ensures c.forget.auto.waits c.forget.ensures.forgets c.forget.ensures.others
    c.slots_without_waits-ready.ensures c.without.ensures.outstanding c.without.ensures.blocked c.without.ensures.wide c.unmark_slot.auto.rows c.unmark_slot.ensures

pub returns-clause-shaped : goal.returns-clause-shaped
returns-clause-shaped c =
    released_shaped c.args.board.now c.without.result c.args.waits.now c.forget.new.waits c.args.stores.now c.args.rows.now c.unmark_slot.new.rows c.args.shape c.args.slot
    c.requires.shaped c.forget.auto.waits c.slots_without_waits-ready.result c.without.ensures.outstanding c.without.ensures.blocked c.unmark_slot.auto.rows
