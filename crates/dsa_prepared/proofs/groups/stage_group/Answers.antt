use Rattle.std.proofs.Common.{◌≡◌, ◌++◌, ◌<◌, List, length, subst, arith}
use Rattle.std.specs.Prelude.{OnOk}
use Rattle.dsa_prepared.specs.declared.entry.Entry.{Entry}
use Rattle.dsa_emission.proofs.Places.{batch_yes}
use Rattle.dsa_prepared.proofs.GroupEntries.{batch_cut}
use Rattle.dsa_prepared.proofs.groups.stage_group.Goals as goal

pub returns-then-len-gt1 : goal.returns-then-len-gt1
returns-then-len-gt1 c =
    let more : 1 < length c.args.group.now = omega (arith, c.len.ensures, c.if-len-gt1.true) in
    let told = subst (λ (es : List Entry). OnOk c.stage_batch.result (c.stage_batch.new.entries.items ≡ c.args.entries.now.items ++ es))
    (batch_cut c.args.regions.now c.args.start c.args.group.now c.args.pieces.now) c.stage_batch.ensures in
    rw (batch_yes c.args.group.now more) told
