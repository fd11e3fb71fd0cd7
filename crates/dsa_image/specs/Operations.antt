-- What differs by operation: what the whole operation finds, leaves and records, and what each of its lines reads, leaves
-- and finds. No other file of these definitions has a case for each operation.
use Rattle.std.specs.Prelude.{ℕ, ◌-◌, ◌*◌, [], nat_lt, Option, None, is_some, unwrap_or, if◌then◌else◌}
use Rattle.std.specs.Option.{option_or}
use Rattle.dsa_descriptor.specs.declared.op.Op.{Op}
use Rattle.dsa_descriptor.specs.declared.op.Op.TheVariants.{Move, Fill, Compare, ComparePattern, ApplyDelta, Dualcast}
use Rattle.dsa_descriptor.specs.declared.record.Record.{Record}
use Rattle.dsa_image.specs.declared.partial.Partial.{Partial}
use Rattle.dsa_image.specs.Memory.{Memory}
use Rattle.dsa_image.specs.Basics.{copied, filled, copied_twice, entry_count, patched, first_difference, first_unlike, first_fault, nothing_found, plain_record, compare_record}
use Rattle.dsa_image.specs.Parts.{line_width, entry_width, entry_lines, move_part, part_end, quotient_up}
use Rattle.dsa_image.specs.Reads.{LineBytes, source_part, no_bytes, delta_bytes}

-- ---- the whole operation

-- the answer of the whole operation
abbrev pub answer_of_op : Op → ℕ → Memory → Partial
answer_of_op (Compare src src2 expected) size m = record { difference = first_difference m src src2 0 size; fault = None }
answer_of_op (ComparePattern src pattern expected) size m = record { difference = first_unlike m src pattern 0 size; fault = None }
answer_of_op (ApplyDelta delta dst record_size) size m =
    record { difference = None; fault = first_fault m delta size 0 (entry_count record_size) }
answer_of_op (Move _ _) size m = nothing_found
answer_of_op (Fill _ _) size m = nothing_found
answer_of_op (Dualcast _ _ _) size m = nothing_found

-- the new bytes in the destinations; the whole record of a delta is examined first, and after a fault nothing is written
-- (this project's choice)
abbrev pub data_of_op : Op → ℕ → Memory → ℕ → Option ℕ
data_of_op (Move src dst) size m a = copied m src dst 0 size a
data_of_op (Fill pattern dst) size m a = filled pattern dst 0 size a
data_of_op (Compare src src2 expected) size m a = None
data_of_op (ComparePattern src pattern expected) size m a = None
data_of_op (ApplyDelta delta dst record_size) size m a =
    if is_some (first_fault m delta size 0 (entry_count record_size)) then None
    else patched m delta dst size 0 (entry_count record_size) a
data_of_op (Dualcast src dst dst2) size m a = copied_twice m src dst dst2 0 size a

-- the record that an answer gives; without fault the status is 1, success
abbrev pub record_of_op : Op → ℕ → Partial → Record
record_of_op (Compare src src2 expected) flags p = compare_record flags expected p.difference
record_of_op (ComparePattern src pattern expected) flags p = compare_record flags expected p.difference
record_of_op (ApplyDelta delta dst record_size) flags p = plain_record (unwrap_or p.fault 1)
record_of_op (Move _ _) flags p = plain_record 1
record_of_op (Fill _ _) flags p = plain_record 1
record_of_op (Dualcast _ _ _) flags p = plain_record 1

-- ---- its lines

-- how many lines an operation has
abbrev pub line_count_of_op : Op → ℕ → ℕ
line_count_of_op (ApplyDelta delta dst record_size) size = 2 * entry_lines record_size
line_count_of_op (Move _ _) size = quotient_up size line_width
line_count_of_op (Fill _ _) size = quotient_up size line_width
line_count_of_op (Compare _ _ _) size = quotient_up size line_width
line_count_of_op (ComparePattern _ _ _) size = quotient_up size line_width
line_count_of_op (Dualcast _ _ _) size = quotient_up size line_width

-- the bytes that the line at turn t reads; a compare's line after a difference and a delta's after a fault read nothing
abbrev pub bytes_of_op : Op → ℕ → ℕ → Memory → Partial → LineBytes
bytes_of_op (Move src dst) size t m p = record { first = source_part m src size (move_part src dst size t); second = [] }
bytes_of_op (Fill pattern dst) size t m p = no_bytes
bytes_of_op (Compare src src2 expected) size t m p =
    if is_some p.difference then no_bytes else record { first = source_part m src size t; second = source_part m src2 size t }
bytes_of_op (ComparePattern src pattern expected) size t m p =
    if is_some p.difference then no_bytes else record { first = source_part m src size t; second = [] }
bytes_of_op (ApplyDelta delta dst record_size) size t m p =
    if is_some p.fault then no_bytes else record { first = delta_bytes delta record_size t m; second = [] }
bytes_of_op (Dualcast src dst dst2) size t m p = record { first = source_part m src size t; second = [] }

-- how many bytes the second list has, if the first one has this many
abbrev pub second_count : Op → ℕ → ℕ
second_count (Compare src src2 expected) count = count
second_count (Move src dst) count = 0
second_count (Fill pattern dst) count = 0
second_count (ComparePattern src pattern expected) count = 0
second_count (ApplyDelta delta dst record_size) count = 0
second_count (Dualcast src dst dst2) count = 0

-- the new bytes of the line at turn t
abbrev pub line_data_of_op : Op → ℕ → ℕ → Memory → Partial → ℕ → Option ℕ
line_data_of_op (Move src dst) size t m p a =
    let k = move_part src dst size t in copied m src dst (line_width * k) (part_end line_width size k) a
line_data_of_op (Fill pattern dst) size t m p a =
    filled pattern dst (line_width * t) (part_end line_width size t) a
line_data_of_op (Compare src src2 expected) size t m p a = None
line_data_of_op (ComparePattern src pattern expected) size t m p a = None
line_data_of_op (ApplyDelta delta dst record_size) size t m p a =
    if nat_lt t (entry_lines record_size) then None
    else (if is_some p.fault then None
    else (let k = t - entry_lines record_size in
    patched m delta dst size (entry_width * k) (part_end entry_width (entry_count record_size) k) a))
line_data_of_op (Dualcast src dst dst2) size t m p a =
    copied_twice m src dst dst2 (line_width * t) (part_end line_width size t) a

-- the partial answer after the line at turn t: what was found stays, else what this line finds
abbrev pub line_answer_of_op : Op → ℕ → ℕ → Memory → Partial → Partial
line_answer_of_op (Compare src src2 expected) size t m p =
    record {
      difference = option_or p.difference (first_difference m src src2 (line_width * t) (part_end line_width size t));
      fault = p.fault;
    }
line_answer_of_op (ComparePattern src pattern expected) size t m p =
    record {
      difference = option_or p.difference (first_unlike m src pattern (line_width * t) (part_end line_width size t));
      fault = p.fault;
    }
line_answer_of_op (ApplyDelta delta dst record_size) size t m p =
    if nat_lt t (entry_lines record_size)
    then record {
      difference = p.difference;
      fault = option_or p.fault (first_fault m delta size (entry_width * t) (part_end entry_width (entry_count record_size) t));
    }
    else p
line_answer_of_op (Move _ _) size t m p = p
line_answer_of_op (Fill _ _) size t m p = p
line_answer_of_op (Dualcast _ _ _) size t m p = p
