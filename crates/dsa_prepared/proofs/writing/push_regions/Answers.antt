use Rattle.std.proofs.Common.{ℕ, List, [], ◌∷◌, ◌++◌, take, get_or, sym, ap, ◌∙◌, append_assoc, arith}
use Rattle.std.proofs.lemmas.List.{get_or_default}
use Rattle.dsa_descriptor.specs.declared.span.Span.{Span}
use Rattle.dsa_prepared.specs.declared.row.Row.{Row}
use Rattle.dsa_prepared.specs.Rows.{region_row, region_rows_of}
use Rattle.dsa_prepared.proofs.RowLists.{regions_more}
use Rattle.dsa_prepared.proofs.writing.push_regions.Goals as goal

pub loop-i-preserved : goal.loop-i-preserved
loop-i-preserved c =
    let i : ℕ = c.loop-i.i in
    let rs : List Span = c.args.regions.now in
    let us : List ℕ = c.args.units.now in
    let none : Span = record { first = 0; len = 0 } in
    let r : Span = get_or rs i none in
    let u : ℕ = get_or us i 0 in
    let more = regions_more rs us i r u c.loop-i-test.true (omega (arith, c.loop-i-test.true, c.requires))
    (get_or_default rs i none r c.loop-i-test.true) (get_or_default us i 0 u (omega (arith, c.loop-i-test.true, c.requires))) in
    let front : List Row = region_rows_of (take i rs) (take i us) in
    c.in_ok-push.ensures.items
    ∙ (λ k. c.loop-i.invariant k ++ c.region_row.ensures k ∷ [])
    ∙ append_assoc c.args.rows.now.items front (region_row r u ∷ [])
    ∙ ap (λ (xs : List Row). c.args.rows.now.items ++ xs) (sym more)
