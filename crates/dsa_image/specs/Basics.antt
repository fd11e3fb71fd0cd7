-- What operations are made of: copies, fills, the entries of a delta, what is found, and what a completion record holds.
use Rattle.std.specs.Prelude.{ℕ, ◌+◌, ◌-◌, ◌*◌, ◌/◌, ◌%◌, ◌==◌, Bool, not, ◌&&◌, nat_le, nat_lt, Option, Some, None, is_some, unwrap_or, List, [], ◌∷◌, slice_index, if◌then◌else◌}
use Rattle.std.specs.Option.{option_or}
use Rattle.std.specs.Int.{w64, to_le_bytes}
use Rattle.std.specs.List.{range_with_len}
use Rattle.dsa_descriptor.specs.declared.record.Record.{Record}
use Rattle.dsa_descriptor.specs.Profile.{checks_result}
use Rattle.dsa_image.specs.declared.partial.Partial.{Partial}
use Rattle.dsa_image.specs.Memory.{Memory, byte_at, is_between}

-- the numbers from `lo` to below `hi`
abbrev pub numbers : ℕ → ℕ → List ℕ
numbers lo hi = range_with_len lo (hi - lo)

-- the first value that `f` gives of the numbers, in their order
abbrev pub first_some : (ℕ → Option ℕ) → List ℕ → Option ℕ
first_some f [] = None
first_some f (x ∷ xs) = option_or (f x) (first_some f xs)

-- the last value that `f` gives of the numbers, in their order
abbrev pub last_some : (ℕ → Option ℕ) → List ℕ → Option ℕ
last_some f [] = None
last_some f (x ∷ xs) = option_or (last_some f xs) (f x)

-- ---- new bytes, each as a function of the old memory. `lo` and `hi` are offsets: what is done is done from `lo` to below `hi`

-- a copy from `src` to `dst`: each byte of the destination is the source's as it was before, also if the two overlap
-- (specification 341204, memory move; that overlap is supported is this project's choice)
unfoldable pub copied : Memory → ℕ → ℕ → ℕ → ℕ → ℕ → Option ℕ
copied m src dst lo hi a =
    if is_between (dst + lo) (dst + hi) a then Some (byte_at m (src + (a - dst))) else None

-- byte `k mod 8` of a pattern, its lowest byte first (specification 341204, memory fill)
unfoldable pub pattern_byte : ℕ → ℕ → ℕ
pattern_byte pattern k = slice_index (to_le_bytes w64 pattern) (k % 8)

-- a fill with a pattern from `dst` on
unfoldable pub filled : ℕ → ℕ → ℕ → ℕ → ℕ → Option ℕ
filled pattern dst lo hi a =
    if is_between (dst + lo) (dst + hi) a then Some (pattern_byte pattern (a - dst)) else None

-- a copy from `src` to both `dst` and `dst2` (specification 341204, dualcast)
unfoldable pub copied_twice : Memory → ℕ → ℕ → ℕ → ℕ → ℕ → ℕ → Option ℕ
copied_twice m src dst dst2 lo hi a = option_or (copied m src dst lo hi a) (copied m src dst2 lo hi a)

-- ---- the entries of a delta (specification 341204, apply delta record)

-- how many entries a delta record of this many bytes has: each is an offset of 2 bytes in units of 8 bytes, and 8 bytes of
-- data (specification 341204, delta records)
abbrev pub entry_count : ℕ → ℕ
entry_count record_size = record_size / 10

-- where the data of entry i go, in bytes from the destination's first (specification 341204, apply delta record)
unfoldable pub entry_place : Memory → ℕ → ℕ → ℕ
entry_place m delta i = 8 * (byte_at m (delta + 10 * i) + 256 * byte_at m (delta + 10 * i + 1))

-- the same of entry i in a row of bytes
abbrev pub row_place : List ℕ → ℕ → ℕ
row_place entries i = 8 * (slice_index entries (10 * i) + 256 * slice_index entries (10 * i + 1))

-- the data of entry i do not fit into the destination
unfoldable pub is_too_far : Memory → ℕ → ℕ → ℕ → Bool
is_too_far m delta size i = nat_lt size (entry_place m delta i + 8)

-- the offset of entry i isn't greater than that of the entry before (this project's choice: a fault)
abbrev pub is_out_of_order : Memory → ℕ → ℕ → Bool
is_out_of_order m delta i = nat_lt 0 i && nat_le (entry_place m delta i) (entry_place m delta (i - 1))

-- the status that entry i by itself causes: 7 if its offset isn't greater than that of the entry before, else 8 if it is
-- too far (this project's choice)
unfoldable pub entry_fault : Memory → ℕ → ℕ → ℕ → Option ℕ
entry_fault m delta size i =
    if is_out_of_order m delta i then Some 7 else (if is_too_far m delta size i then Some 8 else None)

-- what entry i leaves at the address a: one of its 8 bytes of data, if they fit and one of them goes to a
unfoldable pub entry_byte : Memory → ℕ → ℕ → ℕ → ℕ → ℕ → Option ℕ
entry_byte m delta dst size a i =
    if not (is_too_far m delta size i) && is_between (dst + entry_place m delta i) (dst + entry_place m delta i + 8) a
    then Some (byte_at m (delta + 10 * i + 2 + (a - (dst + entry_place m delta i))))
    else None

-- the entries from `lo` to below `hi`; for each address the last entry that goes there counts (specification 341204,
-- apply delta record)
unfoldable pub patched : Memory → ℕ → ℕ → ℕ → ℕ → ℕ → ℕ → Option ℕ
patched m delta dst size lo hi a = last_some (entry_byte m delta dst size a) (numbers lo hi)

-- ---- answers: the first difference of a compare, the status of the first fault of a delta

-- the offset k, if the bytes at it differ
unfoldable pub difference_at : Memory → ℕ → ℕ → ℕ → Option ℕ
difference_at m src src2 k = if byte_at m (src + k) == byte_at m (src2 + k) then None else Some k

-- the first difference of two regions from the offset `lo` to below `hi` (specification 341204, compare)
unfoldable pub first_difference : Memory → ℕ → ℕ → ℕ → ℕ → Option ℕ
first_difference m src src2 lo hi = first_some (difference_at m src src2) (numbers lo hi)

-- the offset k, if the byte at it is not the pattern's
unfoldable pub unlike_at : Memory → ℕ → ℕ → ℕ → Option ℕ
unlike_at m src pattern k = if byte_at m (src + k) == pattern_byte pattern k then None else Some k

-- the first byte of a region that is not the pattern's, from the offset `lo` to below `hi` (this project's choice)
unfoldable pub first_unlike : Memory → ℕ → ℕ → ℕ → ℕ → Option ℕ
first_unlike m src pattern lo hi = first_some (unlike_at m src pattern) (numbers lo hi)

-- the status of the first faulty entry from `lo` to below `hi` (this project's choice)
unfoldable pub first_fault : Memory → ℕ → ℕ → ℕ → ℕ → Option ℕ
first_fault m delta size lo hi = first_some (entry_fault m delta size) (numbers lo hi)

-- the answer with nothing found
abbrev pub nothing_found : Partial
nothing_found = record { difference = None; fault = None }

-- ---- completion records (specification 341204, completion record; the unused bytes are this project's choice)

-- a status, and zeros
abbrev pub plain_record : ℕ → Record
plain_record status = record { status = status; result = 0; bytes_completed = 0 }

-- 1 if a difference was found (specification 341204, compare)
abbrev pub compare_result : Option ℕ → ℕ
compare_result difference = if is_some difference then 1 else 0

-- 2 if the result is to be checked and is not the expected one, else 1 (linux/idxd.h, completion status)
abbrev pub compare_status : ℕ → ℕ → ℕ → ℕ
compare_status flags expected result = if checks_result flags && not (result == expected) then 2 else 1

-- the record of a compare: the bytes completed are the offset of the first difference (this project's choice)
abbrev pub compare_record : ℕ → ℕ → Option ℕ → Record
compare_record flags expected difference =
    record {
      status = compare_status flags expected (compare_result difference);
      result = compare_result difference;
      bytes_completed = unwrap_or difference 0;
    }
