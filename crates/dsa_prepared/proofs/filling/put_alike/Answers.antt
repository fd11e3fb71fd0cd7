use Rattle.std.proofs.Common.{◌+◌, ◌*◌, List, map, get_or, take, drop, append_assoc, refl, sym, ◌∙◌, arith}
use Rattle.std.proofs.lemmas.List.{length-map, get_or-map}
use Rattle.dsa_prepared.specs.declared.row.Row.{Row}
use Rattle.dsa_prepared.specs.declared.entry.Entry.{Entry}
use Rattle.dsa_prepared.specs.Entries.{filled_entry}
use Rattle.dsa_prepared.specs.Rows.{entry_in}
use Rattle.dsa_prepared.specs.Sound.{HasValues}
use Rattle.dsa_prepared.proofs.Put.{filled_long, put_more}
use Rattle.dsa_prepared.proofs.RowChecks.{no_row, one_read}
use Rattle.dsa_prepared.proofs.filling.put_alike.Goals as goal

pub fill-requires-clause-values : goal.fill-requires-clause-values
fill-requires-clause-values c = one_read (HasValues c.args.bases.now c.args.staging) entry_in c.args.entries.now c.loop-k.k c.requires.values c.loop-k-test.true

pub loop-k-preserved : goal.loop-k-preserved
loop-k-preserved c =
    let rows : List Row = c.args.entries.now in
    let e : Entry = entry_in (get_or rows c.loop-k.k no_row) in
    record {
      put = λ before was. put_more c.args.bases.now c.args.staging (map entry_in rows) c.loop-k.k before c.loop-k.buffer c.fill.new.buffer (filled_entry c.args.bases.now c.args.staging e) e
          (c.loop-k.invariant.put before was) (omega (arith, c.loop-k-test.true, length-map rows entry_in)) (sym (get_or-map entry_in rows c.loop-k.k no_row e c.loop-k-test.true))
          refl (filled_long c.args.bases.now c.args.staging (get_or rows c.loop-k.k no_row)) (c.fill.ensures ∙ sym (append_assoc (take (64 * c.loop-k.k) c.loop-k.buffer) (filled_entry c.args.bases.now c.args.staging e) (drop (64 * c.loop-k.k + 64) c.loop-k.buffer)));
      from = omega (arith, c.loop-k.invariant.from);
      long = c.fill.auto.buffer ∙ c.loop-k.invariant.long;
    }
