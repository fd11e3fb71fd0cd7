use Rattle.std.proofs.Common.{◌≡◌, ◌++◌, take, drop, map}
use Rattle.dsa_c.specs.Certificates.{raw_pair_of}
use Rattle.dsa_c.proofs.certificate.put_pairs.Given as goal

abbrev pub invariant-loop-index : goal.invariant-loop-index
invariant-loop-index l = l.buffer ≡ map raw_pair_of (take l.index l.pairs) ++ drop l.index l.initial.buffer
