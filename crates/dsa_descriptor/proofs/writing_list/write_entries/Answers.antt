use Rattle.std.proofs.Common.{◌≡◌, ◌++◌, ℕ, List, sym, ap, ◌∙◌}
use Rattle.std.specs.Prelude.{Some, slice_get}
use Rattle.dsa_descriptor.proofs.Marked.{fenced_more, item_at, none_fenced_yet}
use Rattle.dsa_descriptor.proofs.writing_list.write_entries.Goals as goal

pub loop-index-init : goal.loop-index-init
loop-index-init g c = c.new-bytes.ensures.items ∙ sym (none_fenced_yet _ g.E.Entry.spelling c.args.barriers.now)

pub loop-index-preserved : goal.loop-index-preserved
loop-index-preserved g c =
    let es = c.args.entries.now in
    let here : slice_get es c.loop-index.index ≡ Some c.index-entries-index.result = item_at _ es c.loop-index.index c.index-entries-index.result c.loop-index-test.true c.index-entries-index.is in
    c.in_ok-extend_from_slice.ensures.items
    ∙ ap (λ (bytes : List ℕ). bytes ++ c.write_fenced_entry.result) c.loop-index.invariant
    ∙ rw (c.write_fenced_entry.ensures, c.mark_at.ensures) (sym (fenced_more _ g.E.Entry.spelling es c.args.barriers.now c.loop-index.index c.index-entries-index.result here))
