use Rattle.std.proofs.Common.{◌≡◌, ◌-◌, ◌<◌, ◌++◌, ◌∷◌, Bool, false, List, length, map, get_or, replicate, sym, ap, ◌∙◌, arith}
use Rattle.std.specs.Prelude.{Some, slice_get}
use Rattle.dsa_descriptor.specs.Descriptors.{fields}
use Rattle.std.proofs.lemmas.List.{get_or_default}
use Rattle.dsa_ranges.proofs.Places.{fields_at}
use Rattle.dsa_splitter.proofs.Marks.{marks_more}
use Rattle.dsa_splitter.proofs.marking.piece_barriers.Goals as goal

pub loop-index-preserved : goal.loop-index-preserved
loop-index-preserved c =
    let g = c.greatest_transfer-greatest.result in
    let fs = map fields c.args.list.now.descriptors.items in
    let bs = c.args.list.now.barriers.items in
    let i = c.loop-index.index in
    let d = c.index-in-loop-index.result.now in
    let m : Bool = c.index.result.now in
    let inside : i < length c.args.list.now.descriptors.items = omega (arith, c.loop-index-test.true, c.min-marked.ensures, c.len.ensures, c.len-2.ensures) in
    let lt : i < length bs = omega (arith, c.loop-index-test.true, c.min-marked.ensures, c.len.ensures, c.len-2.ensures) in
    let here : slice_get fs i ≡ Some (fields d) = fields_at c.args.list.now.descriptors.items i d inside c.index-in-loop-index.ensures in
    let mark : get_or bs i false ≡ m = get_or_default bs i false m lt ∙ sym c.index.ensures in
    c.in_ok-push_marks.ensures
    ∙ ap (λ (ms : List Bool). ms ++ (m ∷ replicate (c.piece_count.result - 1) false)) c.loop-index.invariant
    ∙ rw (← mark, c.piece_count.ensures.count) (sym (marks_more g fs bs i (fields d) here lt))
