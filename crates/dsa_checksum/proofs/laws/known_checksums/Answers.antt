use Rattle.std.proofs.Common.{refl}
use Rattle.dsa_checksum.specs.Checksum.{bits_of}
use Rattle.dsa_checksum.proofs.laws.known_checksums.Goals as goal

pub returns : goal.returns
unfolding bits_of
returns c = (refl, refl, refl)
