-- How far a conflict goes from its address on (this project's choice).
use Rattle.std.specs.Prelude.{ℕ, ◌-◌, ◌&&◌, nat_le, nat_lt, min, Bool, List, [], ◌∷◌, if◌then◌else◌}
use Rattle.dsa_descriptor.specs.declared.span.Span.{Span}
use Rattle.dsa_ranges.specs.declared.hazards.HazardKind.{HazardKind}
use Rattle.dsa_ranges.specs.declared.hazards.HazardKind.TheVariants.{ReadAfterWrite, WriteAfterRead, WriteAfterWrite}
use Rattle.dsa_audit.specs.declared.member.Member.{Member}
use Rattle.dsa_audit.specs.Members.{reads_of, writes_of}

-- the span has the address
abbrev pub has_address : ℕ → Span → Bool
has_address a s = nat_le s.first a && nat_lt (a - s.first) s.len

-- how many bytes the first span that has the address has from there on
abbrev pub bytes_from : ℕ → List Span → ℕ
bytes_from a [] = 0
bytes_from a (s ∷ ss) = if has_address a s then s.len - (a - s.first) else bytes_from a ss

-- what the earlier member of a hazard writes or reads
abbrev pub earlier_side : HazardKind → Member → List Span
earlier_side ReadAfterWrite m = writes_of m
earlier_side WriteAfterRead m = reads_of m
earlier_side WriteAfterWrite m = writes_of m

-- what the later one reads or writes
abbrev pub later_side : HazardKind → Member → List Span
later_side ReadAfterWrite m = reads_of m
later_side WriteAfterRead m = writes_of m
later_side WriteAfterWrite m = writes_of m

-- how many bytes there are from the address on of the first span of each that has it
abbrev pub overlap : HazardKind → ℕ → Member → Member → ℕ
overlap kind a earlier later = min (bytes_from a (earlier_side kind earlier)) (bytes_from a (later_side kind later))
