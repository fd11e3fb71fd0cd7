use Rattle.dsa_operations.specs.Checksums.{checksum_fields}
use Rattle.dsa_core.proofs.ChecksumHeld.{seed_held}
use Rattle.dsa_core.proofs.checksum_lines.begun.Goals as goal

pub number_at-requires : goal.number_at-requires
number_at-requires c = seed_held c.args.image.now (checksum_fields c.args.c.now) c.seed.result c.in-At.address c.requires c.seed.ensures c.in-At.is
