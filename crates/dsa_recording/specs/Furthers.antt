-- What operations beyond the six of a descriptor read and write, beside their completion records. Where a rule has no other
-- source it is that of specification 341204, operations; places of bytes are those of linux/idxd.h.
use Rattle.std.specs.Prelude.{ℕ, ◌+◌, ◌-◌, ◌*◌, ◌/◌, ◌%◌, ◌^◌, ◌==◌, Bool, List, [], ◌∷◌, codes, Option, Some, None, slice_index, if◌then◌else◌}
use Rattle.dsa_descriptor.specs.declared.span.Span.{Span}
use Rattle.dsa_descriptor.specs.Places.{u32_at, u64_at, flags_at, code_at}
use Rattle.dsa_descriptor.specs.Spans.{span}
use Rattle.dsa_operations.specs.declared.checksum_op.ChecksumOp.{ChecksumOp}
use Rattle.dsa_operations.specs.Data.{sources, targets}
use Rattle.dsa_operations.specs.Places.{checksum_at}
use Rattle.dsa_recording.specs.declared.further.Further.{Further}
use Rattle.dsa_recording.specs.declared.further.Further.TheVariants.{Drain, CreateDelta, TranslationFetch, Checksum, DifCheck, DifInsert, DifStrip, DifUpdate, CacheFlush}

-- ---- what an entry says

-- the `size` bytes at the first address, bytes 16 to 23
abbrev pub first_data : List ℕ → Span
first_data e = span (u64_at 16 e) (u32_at 32 e)

-- those at the second, bytes 24 to 31
abbrev pub second_data : List ℕ → Span
second_data e = span (u64_at 24 e) (u32_at 32 e)

-- with the flag 0x010000 a drain reads an address back, with 0x020000 a second one; how much of it is not certain, so a
-- drain with any flag of its own is no operation that is known
abbrev pub drain_at : List ℕ → Option Further
drain_at e = if flags_at e / 2 ^ 16 == 0 then Some Drain else None

-- up to its greatest size, bytes 48 to 51, the delta of two sources is written to the address in bytes 40 to 47; that all of
-- it counts as written is this project's choice
abbrev pub create_delta_at : List ℕ → Further
create_delta_at e = CreateDelta (first_data e) (second_data e) (span (u64_at 40 e) (u32_at 48 e))

-- the data bytes of a block with a data integrity field, by bits 0 and 1 of byte 42
abbrev pub block_by : ℕ → ℕ
block_by bits = if bits == 0 then 512 else if bits == 1 then 520 else if bits == 2 then 4096 else 4104

-- those of an entry's blocks; the source and the destination of an update have the same
abbrev pub block_at : List ℕ → ℕ
block_at e = block_by (slice_index e 42 % 4)

-- an insertion reads blocks and writes each with its field of 8 bytes; a size that is no multiple of the block is refused,
-- so nothing is certain of it
abbrev pub insert_at : List ℕ → Option Further
insert_at e =
    if u32_at 32 e % block_at e == 0
    then Some (DifInsert (first_data e) (span (u64_at 24 e) (u32_at 32 e + 8 * (u32_at 32 e / block_at e))))
    else None

-- the sources of the others have the fields
abbrev pub has_whole_fields : List ℕ → Bool
has_whole_fields e = u32_at 32 e % (block_at e + 8) == 0

-- an operation on such a source; of another nothing is certain
abbrev pub on_fields : List ℕ → Further → Option Further
on_fields e further = if has_whole_fields e then Some further else None

-- a strip writes the blocks without them
abbrev pub strip_at : List ℕ → Further
strip_at e = DifStrip (first_data e) (span (u64_at 24 e) (u32_at 32 e - 8 * (u32_at 32 e / (block_at e + 8))))

-- the operation of an entry, if it has one of these codes, and what it reads and writes is certain (codes: linux/idxd.h; that
-- of a translation fetch is of the specification alone; a cache flush has a destination)
unfoldable pub other_at : List ℕ → Option Further
other_at e =
    if code_at e == 0x02 then drain_at e else
    if code_at e == 0x07 then Some (create_delta_at e) else
    if code_at e == 0x0a then Some TranslationFetch else
    if code_at e == 0x12 then on_fields e (DifCheck (first_data e)) else
    if code_at e == 0x13 then insert_at e else
    if code_at e == 0x14 then on_fields e (strip_at e) else
    if code_at e == 0x15 then on_fields e (DifUpdate (first_data e) (second_data e)) else
    if code_at e == 0x20 then Some (CacheFlush (second_data e)) else
    None

-- a checksum of this size, or another operation if there is none
abbrev pub checksum_or : Option ChecksumOp → ℕ → Option Further → Option Further
checksum_or None size other = other
checksum_or (Some op) size other = Some (Checksum op size)

-- the operation of an entry, if it is a checksum or one of the others
unfoldable pub further_at : List ℕ → Option Further
further_at e = checksum_or (checksum_at e) (u32_at 32 e) (other_at e)

-- ---- what it does

-- what it reads; that a flush of caches counts as a read is this project's choice: it comes after writes of what it flushes
abbrev pub read_by : Further → List Span
read_by Drain = []
read_by (CreateDelta first second delta) = first ∷ second ∷ []
read_by TranslationFetch = []
read_by (Checksum op size) = sources op size
read_by (DifCheck src) = src ∷ []
read_by (DifInsert src dst) = src ∷ []
read_by (DifStrip src dst) = src ∷ []
read_by (DifUpdate src dst) = src ∷ []
read_by (CacheFlush flushed) = flushed ∷ []

-- what it writes
abbrev pub written_by : Further → List Span
written_by Drain = []
written_by (CreateDelta first second delta) = delta ∷ []
written_by TranslationFetch = []
written_by (Checksum op size) = targets op size
written_by (DifCheck src) = []
written_by (DifInsert src dst) = dst ∷ []
written_by (DifStrip src dst) = dst ∷ []
written_by (DifUpdate src dst) = dst ∷ []
written_by (CacheFlush flushed) = []

-- ---- its name

-- the name of an operation code, of which no more need be known
abbrev pub code_name : ℕ → List ℕ
code_name code =
    if code == 0x00 then codes "no-op" else
    if code == 0x02 then codes "drain" else
    if code == 0x07 then codes "create delta" else
    if code == 0x0a then codes "translation fetch" else
    if code == 0x10 then codes "CRC" else
    if code == 0x11 then codes "copy with CRC" else
    if code == 0x12 then codes "DIF check" else
    if code == 0x13 then codes "DIF insert" else
    if code == 0x14 then codes "DIF strip" else
    if code == 0x15 then codes "DIF update" else
    if code == 0x17 then codes "DIX generate" else
    if code == 0x20 then codes "cache flush" else
    []
