use Rattle.std.proofs.Common.{[], ◌∷◌, sym, ap, ◌∙◌}
use Rattle.std.specs.Int.{w64, to_le_bytes}
use Rattle.dsa_prepared.specs.Rows.{entry_in}
use Rattle.dsa_prepared.proofs.RowWords.{entry_read}
use Rattle.dsa_prepared.proofs.row.entry_row.Goals as goal

pub returns-clause-read : goal.returns-clause-read
returns-clause-read c =
    let head = ap (to_le_bytes w64) (sym c.number_of.ensures.value) ∙ c.number_of.ensures.read in
    let middle = ap (to_le_bytes w64) (sym c.number_of-2.ensures.value) ∙ c.number_of-2.ensures.read in
    ap entry_in (λ i. record {
      words = c.number_of.ensures.value i ∷ c.number_of-2.ensures.value i ∷ c.kind_of.ensures i ∷ c.value_of.ensures i ∷ c.kind_of-2.ensures i ∷ c.value_of-2.ensures i
          ∷ c.kind_of-3.ensures i ∷ c.value_of-3.ensures i ∷ c.kind_of-4.ensures i ∷ c.value_of-4.ensures i ∷ [];
    }) ∙ entry_read c.args.entry.now head middle
