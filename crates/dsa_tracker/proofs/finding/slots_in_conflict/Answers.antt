use Rattle.std.proofs.Common.{◌↔◌, ℕ, ◌*◌, Bool, sym, subst, add-zero}
use Rattle.dsa_tracker.specs.Finding.{ConflictsHere, reads_store, writes_store}
use Rattle.dsa_tracker.specs.Kept.{Touches, store_at}
use Rattle.dsa_tracker.specs.Sets.{Has}
use Rattle.dsa_tracker.specs.Table.{IsExactly}
use Rattle.dsa_tracker.proofs.Noting.{either_kind}
use Rattle.dsa_tracker.proofs.finding.slots_in_conflict.Goals as goal

pub returns : goal.returns
returns c =
    subst (λ (b : Bool). IsExactly c.union.result (λ k. Has c.args.among k × ConflictsHere c.args.width c.args.stores.now b c.args.first c.args.last k)) (sym c.if-not-is_written.false)
    (either_kind c.args.among c.slots_that_touch-writing.result c.minus-others.result c.slots_that_touch-reading.result c.union.result
    (λ k. Touches (writes_store c.args.width c.args.stores.now k) c.args.first c.args.last)
    (λ k. Touches (reads_store c.args.width c.args.stores.now k) c.args.first c.args.last)
    c.slots_that_touch-writing.ensures c.minus-others.ensures reading c.union.ensures)
  where
    reading : IsExactly c.slots_that_touch-reading.result (λ k. Has c.minus-others.result k × Touches (reads_store c.args.width c.args.stores.now k) c.args.first c.args.last)
    reading k = subst (λ (n : ℕ). Has c.slots_that_touch-reading.result k ↔ (Has c.minus-others.result k × Touches (store_at c.args.width c.args.stores.now n) c.args.first c.args.last)) (add-zero (2 * k)) (c.slots_that_touch-reading.ensures k)
