use Rattle.std.proofs.Common.{◌+◌, ◌*◌, ◌∙◌}
use Rattle.std.proofs.lemmas.List.Edits.{length-between}
use Rattle.dsa_tracker.proofs.Stores.{other_store}
use Rattle.dsa_tracker.proofs.keeping.keep_writes.Goals as goal

pub returns-clause-others : goal.returns-clause-others
returns-clause-others g c =
    other_store c.args.width c.args.place c.args.stores.now c.replace_by_writes.new.store c.requires.within
    (c.replace_by_writes.auto.store ∙ length-between c.args.stores.now (c.args.place * c.args.width) ((c.args.place + 1) * c.args.width) c.requires.within)
