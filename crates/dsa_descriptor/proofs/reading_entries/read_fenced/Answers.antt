use Rattle.std.proofs.Common.{length, true}
use Rattle.dsa_descriptor.specs.Fences.{fences_of, unfenced_list}
use Rattle.dsa_descriptor.proofs.Entries.{owner_by}
use Rattle.dsa_descriptor.proofs.Seen.{barriers_count, fences_count}
use Rattle.dsa_descriptor.proofs.reading_entries.read_fenced.Goals as goal

pub invariant_of-result : goal.invariant_of-result
invariant_of-result g c =
    let bytes = c.args.bytes.now in
    let es = c.in_ok-read.read.entries.items in
    let read = c.in_ok-read.ensures.ok in
    record {
      one_owner = owner_by _ _ _ c.are_entries.ensures (unfenced_list bytes) es read.0 read.1;
      marked = barriers_count c.in_ok-barriers.barriers.items (fences_of bytes) (length es) c.in_ok-barriers.ensures
          (fences_count _ _ _ c.are_entries.ensures true bytes es read.0);
    }
