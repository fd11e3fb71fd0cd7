-- Why 64 bytes are no operation of a list.
use Rattle.std.specs.Prelude.{◌≡◌, ⊤, ℕ, ◌%◌, ◌<◌, List, MatchOption}
use Rattle.std.specs.List.{AllByRecursion}
use Rattle.dsa_descriptor.specs.declared.fault.FieldFault.{FieldFault}
use Rattle.dsa_descriptor.specs.declared.fault.FieldFault.TheVariants.{Opcode, FlagBits, Reserved, SizeZero, Wrap, RecordAlign, DualcastBits, Overlap, Delta, Expected, RecordMeetsData}
use Rattle.dsa_descriptor.specs.Data.{record_span}
use Rattle.dsa_descriptor.specs.Faults.{IsFirstBreach, Keeps}
use Rattle.dsa_descriptor.specs.Places.{u16_at, u32_at, u64_at, reserved_bits_at, flags_at}
use Rattle.dsa_descriptor.specs.Spans.{ApartFrom, IsAddressable}
use Rattle.dsa_operations.specs.declared.checksum_op.ChecksumOp.{ChecksumOp}
use Rattle.dsa_operations.specs.Data.{data_of}
use Rattle.dsa_operations.specs.Operands.{address_field, destination_field, given_field}
use Rattle.dsa_operations.specs.Places.{checksum_at}
use Rattle.dsa_operations.specs.Profile.{AreListedFlags, RegionsApart}

-- the reserved bits and bytes are zero, and so is each place of a field that the operation does not have: the destination
-- of a checksum without a copy, the value of a seed in memory, the address of one that is given (specification 341204,
-- reserved fields)
abbrev pub IsReservedZero : List ℕ → ChecksumOp → Type 0
IsReservedZero bytes op =
    (reserved_bits_at bytes ≡ 0)
    × (u64_at 24 bytes ≡ destination_field op)
    × (u16_at 38 bytes ≡ 0)
    × (u32_at 40 bytes ≡ given_field op)
    × (u32_at 44 bytes ≡ 0)
    × (u64_at 48 bytes ≡ address_field op)
    × (u64_at 56 bytes ≡ 0)

-- the rule whose breach the fault is, for bytes that name this checksum
abbrev pub Rule : List ℕ → ChecksumOp → FieldFault → Type 0
Rule bytes op Opcode = ⊤
Rule bytes op FlagBits = AreListedFlags (flags_at bytes)
Rule bytes op Reserved = IsReservedZero bytes op
Rule bytes op SizeZero = 0 < u32_at 32 bytes
Rule bytes op Wrap = IsAddressable (record_span (u64_at 8 bytes)) × AllByRecursion IsAddressable (data_of op (u32_at 32 bytes))
Rule bytes op RecordAlign = u64_at 8 bytes % 32 ≡ 0
Rule bytes op DualcastBits = ⊤
Rule bytes op Overlap = RegionsApart op (u32_at 32 bytes)
Rule bytes op Delta = ⊤
Rule bytes op Expected = ⊤
Rule bytes op RecordMeetsData = ApartFrom (record_span (u64_at 8 bytes)) (data_of op (u32_at 32 bytes))

-- the bytes keep that rule: if they name no checksum, the rule of a descriptor
unfoldable pub OperationKeeps : List ℕ → FieldFault → Type 0
OperationKeeps bytes fault = MatchOption (checksum_at bytes) (Keeps bytes fault) (λ op. Rule bytes op fault)

-- the bytes have the fault, and none of a lower number
abbrev pub IsFirstOperationFault : List ℕ → FieldFault → Type 0
IsFirstOperationFault bytes fault = IsFirstBreach OperationKeeps bytes fault

-- ---- for private clauses

-- the same for bytes that name this checksum
abbrev pub IsFirstBroken : List ℕ → ChecksumOp → FieldFault → Type 0
IsFirstBroken bytes op fault = IsFirstBreach (λ bytes fault. Rule bytes op fault) bytes fault
