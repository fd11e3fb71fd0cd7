-- What the definitions of checksums promise of each other.
use Rattle.std.specs.Prelude.{◌≡◌, ℕ, ◌<◌, ◌^◌, false, List, ◌++◌, codes, replicate}
use Rattle.dsa_checksum.specs.declared.variant.Variant.{Variant}
use Rattle.dsa_checksum.specs.Checksum.{checksum}

-- the checksum of two parts is that of the second, with the checksum of the first as its seed
abbrev pub ChecksumsGoOn : Type 0
ChecksumsGoOn = (v : Variant) (seed : ℕ) (first second : List ℕ) → seed < 2 ^ 32 →
    checksum v (checksum v seed first) second ≡ checksum v seed (first ++ second)

-- the variant without bypasses: CRC-32C as elsewhere
abbrev pub usual : Variant
usual = record { bypasses_inversion = false; bypasses_data_reflection = false }

-- checksums that others have published: of the digits, of 32 bytes of 0, and of 32 bytes of 0xff (RFC 3720, appendix B.4)
abbrev pub AreKnown : Type 0
AreKnown =
    (checksum usual 0 (codes "123456789") ≡ 0xe3069283)
    × (checksum usual 0 (replicate 32 0) ≡ 0x8a9136aa)
    × (checksum usual 0 (replicate 32 255) ≡ 0x62a8ab43)
