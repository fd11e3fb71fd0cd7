use Rattle.std.proofs.Common.{sym, subst, ◌∙◌}
use Rattle.dsa_descriptor.specs.declared.fault.ListFault.{ListFault}
use Rattle.dsa_descriptor.specs.Lists.{IsFirstFaultBy}
use Rattle.dsa_descriptor.proofs.Entries.{sound_by}
use Rattle.dsa_descriptor.proofs.Plain.{plain_barriers, plain_list, plain_sound}
use Rattle.dsa_descriptor.proofs.reading_entries.read_either.Goals as goal

pub returns-in-Ok-clause-ok : goal.returns-in-Ok-clause-ok
returns-in-Ok-clause-ok g c =
    let list = c.in-Ok.list in
    let sound = sound_by _ _ _ c.are_entries.ensures c.args.bytes.now list.entries.items c.in-Ok.ensures.found list.one_owner in
    (plain_list _ _ _ c.are_entries.ensures c.args.bytes.now sound ∙ c.in-Ok.ensures.found, plain_sound _ _ _ c.are_entries.ensures c.args.bytes.now sound)

pub returns-in-Ok-clause-barriers : goal.returns-in-Ok-clause-barriers
returns-in-Ok-clause-barriers g c =
    let list = c.in-Ok.list in
    let sound = sound_by _ _ _ c.are_entries.ensures c.args.bytes.now list.entries.items c.in-Ok.ensures.found list.one_owner in
    c.in-Ok.ensures.none ∙ sym (plain_barriers _ _ _ c.are_entries.ensures c.args.bytes.now sound)

pub returns-in-Err-Memory-clause-err : goal.returns-in-Err-Memory-clause-err
returns-in-Err-Memory-clause-err g c =
    plain_sound _ _ _ c.are_entries.ensures c.args.bytes.now
    (subst (λ (fault : ListFault). IsFirstFaultBy g.E.Entry.keeps c.args.bytes.now fault) c.in-Err-Memory.field-0-is c.in-Err-Memory.ensures.fault)
