use Rattle.std.proofs.Common.{refl}
use Rattle.std.specs.Prelude.{replicate}
use Rattle.dsa_emission.proofs.Emitted.{batch_written}
use Rattle.dsa_emission.proofs.emission.batch_entry.Goals as goal

pub returns : goal.returns
returns c =
    batch_written c.args.owner.now (replicate 64 0) c.to_le_bytes.result c.to_le_bytes-2.result c.to_le_bytes-3.result c.to_le_bytes-4.result
    c.put.new.bytes c.put-2.new.bytes c.put-3.new.bytes c.put-4.new.bytes c.put-5.new.bytes c.args.record_at c.args.list_at c.args.count
    c.told-owner refl c.to_le_bytes.ensures c.to_le_bytes-2.ensures c.to_le_bytes-3.ensures c.to_le_bytes-4.ensures
    c.put.ensures c.put-2.ensures c.put-3.ensures c.put-4.ensures c.put-5.ensures
