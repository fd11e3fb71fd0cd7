use Rattle.std.proofs.Common.{IsTrue}
use Rattle.std.specs.Prelude.{◌↔◌}
use Rattle.dsa_descriptor.specs.Data.{record_span}
use Rattle.dsa_descriptor.specs.Spans.{ApartFrom}
use Rattle.dsa_operations.specs.Data.{data_of}
use Rattle.dsa_operations.proofs.checksum_op.ChecksumOp.is_apart_from_record.Goals as goal

pub returns : goal.returns
returns c =
    let tested : IsTrue c.is_apart_from.result ↔ ApartFrom (record_span c.args.record_at) (data_of c.args.self.now c.args.size) =
    rw (c.record_span.ensures, c.deref.ensures.0, c.data.ensures) at c.is_apart_from.ensures in
    tested
