use Rattle.std.proofs.Common.{◌≡◌, ◌^◌, ◌<◌, drop}
use Rattle.dsa_checksum.specs.Checksum.{bits_of, message_bits, remainder, value_bits}
use Rattle.dsa_checksum.proofs.register.checksum.Given as goal

-- the remainder of what is left, after the register, is that of all
abbrev pub invariant-loop-byte : goal.invariant-loop-byte
invariant-loop-byte l =
    (l.register < 2 ^ 32)
    × (remainder (bits_of 32 l.register) (message_bits l.variant.bypasses_data_reflection (drop l.byte-index l.bytes))
    ≡ remainder (value_bits l.variant.bypasses_inversion l.seed) (message_bits l.variant.bypasses_data_reflection l.bytes))
