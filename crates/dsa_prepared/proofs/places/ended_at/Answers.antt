use Rattle.std.proofs.Common.{leb, leb-true, leb-false, arith, rules}
use Rattle.std.proofs.lemmas.List.Sorted.{IsPartitionPoint-from_clause, IsPartitionedBy-leb}
use Rattle.dsa_descriptor.specs.Spans.{span}
use Rattle.dsa_prepared.specs.Preparing.{end_of}
use Rattle.dsa_prepared.proofs.Rising.{ends_rise}
use Rattle.dsa_prepared.proofs.places.ended_at.Goals as goal

pub returns-clause-ended : goal.returns-clause-ended
returns-clause-ended c =
    let parted = IsPartitionedBy-leb end_of _ c.args.address (ends_rise c.args.regions.now c.requires) in
    let point = IsPartitionPoint-from_clause (λ r. leb (end_of r) c.args.address) _ _ c.partition_point.ensures.partitioned parted (λ a r q k. search rules) in
    λ j lt. leb-true _ _ (point.0 j (span 0 0) (omega (arith, lt)) lt)

pub returns-clause-ahead : goal.returns-clause-ahead
returns-clause-ahead c =
    let parted = IsPartitionedBy-leb end_of _ c.args.address (ends_rise c.args.regions.now c.requires) in
    let point = IsPartitionPoint-from_clause (λ r. leb (end_of r) c.args.address) _ _ c.partition_point.ensures.partitioned parted (λ a r q k. search rules) in
    λ j le lt. leb-false _ _ (point.1 j (span 0 0) le lt)
