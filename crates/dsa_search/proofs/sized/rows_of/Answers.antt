use Rattle.std.proofs.Common.{◌≡◌, ◌*◌, length, replicate, ap, ◌∙◌}
use Rattle.std.proofs.lemmas.List.{length-replicate, get_or-replicate, with_items_is}
use Rattle.dsa_search.proofs.Sizing.{rows_blank}
use Rattle.dsa_search.proofs.sized.rows_of.Goals as goal

pub fill_rows-requires-clause-blank : goal.fill_rows-requires-clause-blank
fill_rows-requires-clause-blank c =
    let n = length c.args.pairs.now in
    let zeros : c.deref_mut.result.now ≡ replicate (64 * n) 0 = c.deref_mut.ensures.value ∙ c.in_ok-rows.ensures.items_if_clones_equal (λ y h. h) in
    let nulls : c.deref_mut-2.result.now ≡ replicate n 0 = c.deref_mut-2.ensures.value ∙ c.in_ok-lasts.ensures.items_if_clones_equal (λ y h. h) in
    rows_blank c.args.pairs.now c.deref_mut.result.now c.deref_mut-2.result.now
    (ap length zeros ∙ length-replicate (64 * n) 0) (ap length nulls ∙ length-replicate n 0)
    (λ k lt. rw zeros (get_or-replicate (64 * n) k 0 0 lt))

pub returns : goal.returns
returns c =
    let rows = with_items_is c.in_ok-rows.rows c.fill_rows.new.rows (c.fill_rows.auto.rows ∙ c.deref_mut.ensures.len) in
    let lasts = with_items_is c.in_ok-lasts.lasts c.fill_rows.new.lasts (c.fill_rows.auto.lasts ∙ c.deref_mut-2.ensures.len) in
    rw (rows, lasts) c.fill_rows.ensures
