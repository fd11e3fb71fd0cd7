use Rattle.std.proofs.Common.{◌≡◌, false, true, ℕ, map, sym, ap, ◌∙◌, arith}
use Rattle.std.specs.List.{range_with_len}
use Rattle.dsa_tracker.specs.Groups.{free_count}
use Rattle.dsa_tracker.specs.State.{shown}
use Rattle.dsa_tracker.proofs.Counting.{none_more_free, one_more_free}
use Rattle.dsa_tracker.proofs.board.free_slots.Goals.{then-not-contains, else-not-contains}
use Rattle.dsa_tracker.proofs.board.free_slots.Goals as goal

pub loop-slot-preserved : goal.loop-slot-preserved
loop-slot-preserved c = elim c.if-not-contains.branch [
  | then-not-contains w ↦ record {
    few = omega (arith, w.free-is, c.loop-slot.invariant.few);
    count = λ width waits stores. w.free-is ∙ one_more_free width c.args.board waits stores c.loop-slot.slot c.loop-slot.free (c.loop-slot.invariant.count width waits stores) (λ h. let wrong : false ≡ true = sym w.if-not-contains.true ∙ c.contains.ensures.1 h in cc);
  }
  | else-not-contains w ↦ record {
    few = omega (arith, w.free-is, c.loop-slot.invariant.few);
    count = λ width waits stores. w.free-is ∙ none_more_free width c.args.board waits stores c.loop-slot.slot c.loop-slot.free (c.loop-slot.invariant.count width waits stores) (c.contains.ensures.0 w.if-not-contains.false);
  }
]

pub returns : goal.returns
returns c = λ width waits stores len.
    let end : c.loop-slot.slot ≡ c.args.slots = omega arith in
    c.loop-slot.invariant.count width waits stores ∙ ap (λ (n : ℕ). free_count (map (shown width c.args.board waits stores) (range_with_len 0 n))) (end ∙ sym len)
