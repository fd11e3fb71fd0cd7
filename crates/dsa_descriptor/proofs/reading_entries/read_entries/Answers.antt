use Rattle.dsa_descriptor.specs.Fences.{unfenced_list}
use Rattle.dsa_descriptor.proofs.Entries.{only_read, refused_read}
use Rattle.dsa_descriptor.proofs.reading_entries.read_entries.Goals as goal

pub returns-clause-only : goal.returns-clause-only
returns-clause-only g c =
    only_read _ _ _ c.are_entries.ensures _ (λ list. list.entries.items) (unfenced_list c.args.bytes.now)
    c.read_either.result c.read_either.ensures.ok c.read_either.ensures.err

pub returns-clause-refused : goal.returns-clause-refused
returns-clause-refused g c =
    refused_read _ _ _ c.are_entries.ensures _ (λ list. list.entries.items) (unfenced_list c.args.bytes.now)
    c.read_either.result c.read_either.ensures.ok c.read_either.ensures.err
