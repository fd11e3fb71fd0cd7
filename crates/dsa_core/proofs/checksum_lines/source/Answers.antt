use Rattle.dsa_operations.specs.Checksums.{checksum_fields}
use Rattle.dsa_core.proofs.ChecksumHeld.{source_held}
use Rattle.dsa_core.proofs.checksum_lines.source.Goals as goal

pub source_part-requires-clause-source : goal.source_part-requires-clause-source
source_part-requires-clause-source c =
    source_held c.args.image.now (checksum_fields c.args.c.now) c.source_field.result c.requires.inside c.args.c.now.listed.size_positive c.source_field.ensures
