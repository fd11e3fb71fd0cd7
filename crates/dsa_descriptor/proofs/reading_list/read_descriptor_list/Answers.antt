use Rattle.std.proofs.Common.{sym, ◌∙◌}
use Rattle.dsa_descriptor.specs.declared.descriptor.Descriptor.{Descriptor}
use Rattle.dsa_descriptor.specs.Faults.{Keeps}
use Rattle.dsa_descriptor.specs.Fences.{unfenced_list}
use Rattle.dsa_descriptor.proofs.Entries.{no_other, one_entries_spelling}
use Rattle.dsa_descriptor.proofs.Listed.{are_entries, list_is, one_owner, sound_from_spelling, spelt}
use Rattle.dsa_descriptor.proofs.reading_list.read_descriptor_list.Goals as goal

pub invariant_of-result : goal.invariant_of-result
invariant_of-result c = record {
  one_owner = one_owner c.in-Ok.list.entries.items c.in-Ok.list.one_owner;
  marked = c.in-Ok.list.marked;
}

pub returns-in-Err-clause-only : goal.returns-in-Err-clause-only
returns-in-Err-clause-only c ds is one =
    no_other Keeps (unfenced_list c.args.bytes.now) c.in-Err.fault (sound_from_spelling (unfenced_list c.args.bytes.now) ds is one) c.in-Err.ensures.fault

pub returns-in-Ok-clause-found : goal.returns-in-Ok-clause-found
returns-in-Ok-clause-found c =
    let ds = c.in-Ok.list.entries.items in
    (c.in-Ok.ensures.found ∙ sym (list_is ds), one_owner ds c.in-Ok.list.one_owner)

pub returns-in-Ok-clause-only : goal.returns-in-Ok-clause-only
returns-in-Ok-clause-only c ds is one =
    one_entries_spelling Descriptor spelt Keeps are_entries c.in-Ok.list.entries.items ds (sym c.in-Ok.ensures.found ∙ is ∙ list_is ds)
