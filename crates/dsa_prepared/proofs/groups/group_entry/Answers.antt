use Rattle.std.proofs.Common.{◌≡◌, ◌<◌, ◌∷◌, ◌∙◌, [], length, sym, ap, arith}
use Rattle.dsa_prepared.specs.declared.entry.Entry.{Entry}
use Rattle.dsa_prepared.proofs.GroupEntries.{batch_group, lone_group}
use Rattle.dsa_prepared.proofs.groups.group_entry.Goals as goal

pub returns-then-len-gt1 : goal.returns-then-len-gt1
returns-then-len-gt1 c = λ total place from record_at list_at.
    let more : 1 < length c.args.group.now = omega (arith, c.len.ensures, c.if-len-gt1.true) in
    batch_group c.args.regions.now total place c.args.group.now c.args.pieces.now c.index-pieces-0.result c.args.record_at c.args.list_at c.len-then-len-gt1.result more
    (omega (arith, c.requires.within, c.requires.nonempty)) c.index-pieces-0.is record_at list_at (sym c.len-then-len-gt1.ensures)
    ∙ ap (λ (e : Entry). e ∷ []) (sym c.batch_entry.ensures)

pub returns-else-len-gt1 : goal.returns-else-len-gt1
returns-else-len-gt1 c = λ total place from record_at list_at.
    let one : length c.args.group.now ≡ 1 = omega (arith, c.len.ensures, c.if-len-gt1.false, c.requires.nonempty) in
    lone_group c.args.regions.now total place c.args.group.now c.args.pieces.now c.index-pieces-start.result c.args.start one from
    (omega (arith, c.requires.within, c.requires.nonempty)) c.index-pieces-start.is
    ∙ ap (λ (e : Entry). e ∷ []) (sym c.entry_of.ensures)
