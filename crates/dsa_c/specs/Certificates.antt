-- Certificates that come from C or go to it.
use Rattle.std.specs.Prelude.{ℕ, List, map, ◌&&◌, ◌==◌, Option, Some, None, if◌then◌else◌}
use Rattle.dsa_plan.specs.Certificate.{Contents}
use Rattle.dsa_c.specs.declared.certificate.RawPair.{RawPair}

-- what a pair means: two numbers of 2^32 - 1 mean none (this project's choice)
abbrev pub pair_of : RawPair → Option (ℕ × ℕ)
pair_of raw = if (raw.first == 0xffffffff) && (raw.second == 0xffffffff) then None else Some (raw.first, raw.second)

-- how a pair is laid out
abbrev pub raw_pair_of : Option (ℕ × ℕ) → RawPair
raw_pair_of (Some pair) = record { first = pair.0; second = pair.1 }
raw_pair_of None = record { first = 0xffffffff; second = 0xffffffff }

-- the certificate of this version with these prices and pairs
abbrev pub contents_of : ℕ → List ℕ → List RawPair → Contents
contents_of version prices pairs = record { version = version; prices = prices; pairs = map pair_of pairs }
