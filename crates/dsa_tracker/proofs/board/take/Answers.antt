use Rattle.std.proofs.Common.{◌≡◌, ◌⊎◌, ℕ, List, true, subst}
use Rattle.std.proofs.lemmas.List.{length-set}
use Rattle.dsa_ranges.specs.Ranges.{SpansConflict}
use Rattle.dsa_tracker.specs.Finding.{Marks, reads_store, writes_store}
use Rattle.dsa_tracker.specs.Kept.{kept}
use Rattle.dsa_tracker.specs.Sets.{Has}
use Rattle.dsa_tracker.specs.State.{IsState}
use Rattle.dsa_tracker.specs.Table.{IsExactly}
use Rattle.dsa_tracker.proofs.Showing.{one_at, one_more, waits_set_here, waits_set_other}
use Rattle.dsa_tracker.proofs.Taking.{awaited_exactly, stores_fit, taken_shaped, taken_state}
use Rattle.dsa_tracker.proofs.board.take.Goals as goal

pub note_slot-noted-requires-clause-within : goal.note_slot-noted-requires-clause-within
note_slot-noted-requires-clause-within c = λ s h. stores_fit c.args.shape.width _ _ s c.requires.shaped.stored (c.requires.shaped.within s ((c.minus.ensures s).0 h).0)

pub returns-clause-waits : goal.returns-clause-waits
returns-clause-waits c = λ state s.
    let at = one_at c.args.shape.width c.args.board.now c.args.waits.now c.args.stores.now c.requires.shaped.within s (λ o. SpansConflict o.reads o.writes (kept (reads_store c.args.shape.width c.args.stores.now c.args.slot)) (kept (writes_store c.args.shape.width c.args.stores.now c.args.slot)) ⊎ Has c.args.also s) in
    let exact = awaited_exactly c.args.board.now.outstanding c.args.also c.intersection-named.result c.minus.result c.note_slot-noted.result.found c.union-awaited.result
    (λ k. SpansConflict (kept (reads_store c.args.shape.width c.args.stores.now k)) (kept (writes_store c.args.shape.width c.args.stores.now k)) (kept (reads_store c.args.shape.width c.args.stores.now c.args.slot)) (kept (writes_store c.args.shape.width c.args.stores.now c.args.slot)))
    c.intersection-named.ensures c.minus.ensures (found state) c.union-awaited.ensures s in
    (λ h. at.1 (exact.0 h), λ h. exact.1 (at.0 h))
  where
    found : IsState c.args.board.now c.args.waits.now c.args.stores.now c.args.rows.now c.args.shape → IsExactly c.note_slot-noted.result.found (λ k. Has c.minus.result k × SpansConflict (kept (reads_store c.args.shape.width c.args.stores.now k)) (kept (writes_store c.args.shape.width c.args.stores.now k)) (kept (reads_store c.args.shape.width c.args.stores.now c.args.slot)) (kept (writes_store c.args.shape.width c.args.stores.now c.args.slot)))
    found state =
        subst (λ (r : List ℕ). IsExactly c.note_slot-noted.result.found (λ k. Has c.minus.result k × SpansConflict (kept (reads_store c.args.shape.width c.args.stores.now k)) (kept (writes_store c.args.shape.width c.args.stores.now k)) (kept r) (kept (writes_store c.args.shape.width c.args.stores.now c.args.slot)))) c.store-reads.ensures
        (subst (λ (w : List ℕ). IsExactly c.note_slot-noted.result.found (λ k. Has c.minus.result k × SpansConflict (kept (reads_store c.args.shape.width c.args.stores.now k)) (kept (writes_store c.args.shape.width c.args.stores.now k)) (kept c.store-reads.result.now) (kept w))) c.store-writes.ensures
        (c.note_slot-noted.ensures.found (λ k h. state.covered k ((c.minus.ensures k).0 h).0)))

pub returns-clause-slots : goal.returns-clause-slots
returns-clause-slots c =
    one_more c.args.shape.width c.args.board.now c.with.result c.args.waits.now _ c.args.stores.now c.args.slot c.requires.within
    (length-set c.args.waits.now c.args.slot c.union-awaited.result.0) c.with.ensures.outstanding (λ s apart. waits_set_other c.args.waits.now c.args.slot s c.union-awaited.result.0 apart)

pub returns-clause-here : goal.returns-clause-here
returns-clause-here c = waits_set_here c.args.waits.now c.args.slot c.union-awaited.result c.requires.within

pub returns-clause-shaped : goal.returns-clause-shaped
returns-clause-shaped c =
    taken_shaped c.args.board.now c.with.result c.args.waits.now c.args.stores.now c.args.rows.now c.note_slot-noted.new.rows c.args.shape c.args.slot c.union-awaited.result c.note_slot-noted.result.is_whole
    c.requires.shaped c.requires.within c.with.ensures.outstanding c.with.ensures.blocked c.note_slot-noted.auto.rows

pub returns-clause-state : goal.returns-clause-state
returns-clause-state c = λ state.
    taken_state c.args.board.now c.with.result c.args.waits.now c.args.stores.now c.args.rows.now c.note_slot-noted.new.rows c.args.shape c.args.slot c.union-awaited.result c.note_slot-noted.result.is_whole
    state c.requires.within c.requires.free c.with.ensures.outstanding c.with.ensures.blocked c.with.ensures.wide c.note_slot-noted.auto.rows marked c.note_slot-noted.ensures.kept
  where
    marked : c.note_slot-noted.result.is_whole ≡ true → Marks c.args.shape.grid c.note_slot-noted.new.rows (kept (reads_store c.args.shape.width c.args.stores.now c.args.slot)) (kept (writes_store c.args.shape.width c.args.stores.now c.args.slot)) c.args.slot
    marked whole =
        subst (λ (r : List ℕ). Marks c.args.shape.grid c.note_slot-noted.new.rows (kept r) (kept (writes_store c.args.shape.width c.args.stores.now c.args.slot)) c.args.slot) c.store-reads.ensures
        (subst (λ (w : List ℕ). Marks c.args.shape.grid c.note_slot-noted.new.rows (kept c.store-reads.result.now) (kept w) c.args.slot) c.store-writes.ensures
        (c.note_slot-noted.ensures.marked whole))
