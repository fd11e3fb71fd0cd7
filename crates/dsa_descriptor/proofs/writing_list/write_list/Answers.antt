use Rattle.std.proofs.Common.{◌∙◌}
use Rattle.std.proofs.lemmas.Result.{IfOk-weaker}
use Rattle.dsa_descriptor.proofs.Marked.{marked_is}
use Rattle.dsa_descriptor.proofs.writing_list.write_list.Goals as goal

pub returns : goal.returns
returns c =
    IfOk-weaker c.write_entries.result _ _
    (λ bytes is. is ∙ rw (c.deref.ensures.value, c.deref-2.ensures.value) (marked_is c.args.list.now.descriptors.items c.args.list.now.barriers.items))
    c.write_entries.ensures
