use Rattle.std.proofs.Common.{ℕ, List, [], ◌∷◌, ◌++◌, take, get_or, map, sym, ap, ◌∙◌, append_assoc}
use Rattle.dsa_prepared.specs.declared.row.Row.{Row}
use Rattle.dsa_prepared.specs.declared.entry.Entry.{Entry}
use Rattle.dsa_prepared.specs.declared.word.Word.TheVariants.{InRegion}
use Rattle.dsa_prepared.specs.Rows.{entry_row, entry_in}
use Rattle.dsa_prepared.proofs.RowLists.{entries_more, reads_more}
use Rattle.dsa_prepared.proofs.writing.push_entries.Goals as goal

pub loop-k-preserved : goal.loop-k-preserved
loop-k-preserved c =
    let none : Entry = record { head = []; completion = InRegion 0 0; first = InRegion 0 0; second = InRegion 0 0; middle = []; own = InRegion 0 0 } in
    let k : ℕ = c.loop-k.k in
    let es : List Entry = c.args.entries.now in
    let front : List Row = map entry_row (take k es) in
    record {
      rows = c.in_ok-push.ensures.items
          ∙ (λ i. c.loop-k.invariant.rows i ++ (c.entry_row.ensures.value i ∷ []))
          ∙ append_assoc c.args.rows.now.items front (entry_row (get_or es k none) ∷ [])
          ∙ ap (λ (xs : List Row). c.args.rows.now.items ++ xs) (sym (entries_more es k none c.loop-k-test.true));
      read = reads_more es k none c.loop-k-test.true c.loop-k.invariant.read (ap entry_in (sym c.entry_row.ensures.value) ∙ c.entry_row.ensures.read);
    }
