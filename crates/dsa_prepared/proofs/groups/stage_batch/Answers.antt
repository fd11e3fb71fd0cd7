use Rattle.std.proofs.Common.{◌++◌, ◌<◌, ◌∷◌, [], List, length, take, get_or, append_assoc, ap, sym, ◌∙◌, false, arith}
use Rattle.dsa_prepared.specs.declared.entry.Entry.{Entry}
use Rattle.dsa_prepared.specs.Entries.{entry_of, fenced_entries}
use Rattle.dsa_prepared.proofs.GroupEntries.{fenced_more}
use Rattle.dsa_prepared.proofs.groups.stage_batch.Goals as goal

pub loop-k-preserved : goal.loop-k-preserved
loop-k-preserved c =
    let within : c.loop-k.k < length c.args.pieces.now = omega (arith, c.loop-k-test.true, ap length c.fences-fences.ensures, c.requires.within) in
    let so_far : List Entry = fenced_entries c.args.regions.now (take c.loop-k.k c.fences-fences.result.now) c.args.pieces.now in
    let more = fenced_more c.args.regions.now c.fences-fences.result.now c.args.pieces.now c.loop-k.k c.index-pieces-k.result c.loop-k-test.true within c.index-pieces-k.is in
    c.in_ok-push.ensures.items
    ∙ (λ i. c.loop-k.invariant i ++ c.entry_of.ensures i ∷ [])
    ∙ append_assoc c.args.entries.now.items so_far (entry_of c.args.regions.now (get_or c.fences-fences.result.now c.loop-k.k false) c.index-pieces-k.result ∷ [])
    ∙ ap (λ (es : List Entry). c.args.entries.now.items ++ es) (sym more)
