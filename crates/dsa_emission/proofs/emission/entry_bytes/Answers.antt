use Rattle.std.proofs.Common.{◌≡◌, ◌<◌, length, sym, ◌∙◌, arith}
use Rattle.dsa_emission.proofs.Places.{batch_made, group_lone}
use Rattle.dsa_emission.proofs.emission.entry_bytes.Goals as goal

pub returns-then-len-gt1 : goal.returns-then-len-gt1
returns-then-len-gt1 g c =
    let more : 1 < length c.args.group.now = omega (arith, c.len.ensures, c.if-len-gt1.true) in
    batch_made _ g.E.Entry.spelling c.args.settings.now c.args.total c.args.place c.args.group.now c.args.pieces.now c.index-pieces-0.result c.staging-staging.result c.len-then-len-gt1.result
    c.batch_bytes.result more (omega (arith, c.requires.within, c.requires.nonempty)) (c.are_entries.ensures.whole c.index-pieces-0.result) c.index-pieces-0.is
    c.staging-staging.ensures.value c.len-then-len-gt1.ensures c.batch_bytes.ensures

pub returns-else-len-gt1 : goal.returns-else-len-gt1
returns-else-len-gt1 g c =
    let one : length c.args.group.now ≡ 1 = omega (arith, c.len.ensures, c.if-len-gt1.false, c.requires.nonempty) in
    c.write_entry.ensures
    ∙ sym (group_lone _ g.E.Entry.spelling c.args.settings.now c.args.total c.args.place c.args.group.now c.args.pieces.now c.index-pieces-place.result one (omega (arith, c.requires.within, c.requires.nonempty)) c.index-pieces-place.is)
