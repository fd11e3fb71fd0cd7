use Rattle.std.proofs.Common.{IsTrue}
use Rattle.std.specs.Prelude.{◌↔◌}
use Rattle.dsa_descriptor.specs.Spans.{ApartFrom, span}
use Rattle.dsa_operations.specs.Data.{sources}
use Rattle.dsa_operations.proofs.Apart.{copied_apart}
use Rattle.dsa_operations.proofs.checksum_op.ChecksumOp.has_regions_apart.Goals as goal

pub returns-in-CopyCrc : goal.returns-in-CopyCrc
returns-in-CopyCrc c =
    let op = c.args.self.now in
    let size = c.args.size in
    let tested : IsTrue c.is_apart_from.result ↔ ApartFrom (span c.in-CopyCrc.dst size) (sources op size) = rw (c.of.ensures, c.deref.ensures.0, c.sources.ensures) at c.is_apart_from.ensures in
    let means = copied_apart op c.in-CopyCrc.src c.in-CopyCrc.dst size c.in-CopyCrc.seed c.in-CopyCrc.is in
    (λ yes. means.0 (tested.0 yes), λ apart. tested.1 (means.1 apart))
