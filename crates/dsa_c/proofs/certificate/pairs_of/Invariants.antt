use Rattle.std.proofs.Common.{◌≡◌, take, map}
use Rattle.dsa_c.specs.Certificates.{pair_of}
use Rattle.dsa_c.proofs.certificate.pairs_of.Given as goal

abbrev pub invariant-loop-raw : goal.invariant-loop-raw
invariant-loop-raw l = l.pairs.items ≡ map pair_of (take l.raw-index l.raw)
