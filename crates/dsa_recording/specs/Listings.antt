-- A recording as a list of operations to plan (this project's choice): a line for each member, in the order of the entries.
use Rattle.std.specs.Prelude.{ℕ, suc, ◌≡◌, ◌≢◌, ◌+◌, ◌*◌, ◌^◌, ◌<◌, ◌≤◌, ◌-◌, ◌&&◌, ◌||◌, ◌==◌, ◌↔◌, nat_le, bit_and, bit_or, Bool, true, List, [], ◌∷◌, ◌++◌, drop, length, slice_index_or, codes, decimal, map, Option, Some, None, if◌then◌else◌}
use Rattle.std.specs.List.{list_all, sum_by}
use Rattle.dsa_descriptor.specs.declared.op.Op.TheVariants.{Move, Fill, Compare, ComparePattern, ApplyDelta, Dualcast}
use Rattle.dsa_descriptor.specs.declared.span.Span.{Span}
use Rattle.dsa_descriptor.specs.Places.{u32_at, u64_at, flags_at, code_at, pasid_at, privileged_at}
use Rattle.dsa_descriptor.specs.Data.{record_span}
use Rattle.dsa_descriptor.specs.Profile.{checks_result, required_flags}
use Rattle.dsa_ranges.specs.declared.span.Touched.{Touched}
use Rattle.dsa_ranges.specs.Ranges.{SpansConflict}
use Rattle.dsa_audit.specs.declared.member.Member.{Member}
use Rattle.dsa_audit.specs.declared.member.Member.TheVariants.{Known, Unknown}
use Rattle.dsa_audit.specs.declared.needless.FenceUse.{FenceUse}
use Rattle.dsa_audit.specs.declared.needless.FenceUse.TheVariants as fence_use
use Rattle.dsa_audit.specs.Members.{TouchedConflict}
use Rattle.dsa_operations.specs.declared.listed_op.ListedOp.{ListedOp}
use Rattle.dsa_operations.specs.declared.listed_op.ListedOp.TheVariants as listed
use Rattle.dsa_operations.specs.declared.operation.Operation.{Operation}
use Rattle.dsa_operations.specs.Listed.{listed_op}
use Rattle.dsa_operations.specs.OperationFields.{OperationFields, fields_reads, fields_writes, operation_fields}
use Rattle.dsa_operations.specs.Profile.{checksum_flags}
use Rattle.dsa_lines.specs.Options.{fields_by}
use Rattle.dsa_lines.specs.Text.{line_text}
use Rattle.dsa_lines.specs.Texts.{TextSpells}
use Rattle.dsa_recording.specs.declared.stream.Submission.{Submission}
use Rattle.dsa_recording.specs.declared.submission.Audited.{Audited}
use Rattle.dsa_recording.specs.Entries.{entry_reads, entry_targets}
use Rattle.dsa_recording.specs.EntryWords.{operation_words}
use Rattle.dsa_recording.specs.Totals.{member_count}
use Rattle.dsa_recording.specs.Words.{unseen_words}

-- ---- the operation of an entry

-- each operation of a list has a completion record. If an entry requests none, it gets one from this address on, which
-- lies between the addresses of programs and those of a kernel
abbrev pub records_from : ℕ
records_from = 2 ^ 62

-- the address of the record: that of the entry if it requests one, else an address of its own
abbrev pub record_in_list : ℕ → List ℕ → ℕ
record_in_list number e =
    if bit_and (flags_at e) required_flags == required_flags then u64_at 8 e else records_from + 32 * number

-- the flags of an entry that change what its operation does: check result of a compare, and those of a checksum (specification
-- 341204, flags and CRC generation)
abbrev pub kept_flags : ListedOp → ℕ
kept_flags (listed.Descriptor (Move src dst)) = 0
kept_flags (listed.Descriptor (Fill pattern dst)) = 0
kept_flags (listed.Descriptor (Compare src src2 expected)) = 0x80
kept_flags (listed.Descriptor (ComparePattern src pattern expected)) = 0x80
kept_flags (listed.Descriptor (ApplyDelta delta dst record_size)) = 0
kept_flags (listed.Descriptor (Dualcast src dst dst2)) = 0
kept_flags (listed.Checksum op) = checksum_flags

-- the flags that the list has: those that it requires, and of the entry's these
abbrev pub flags_in_list : ListedOp → ℕ → ℕ
flags_in_list op flags = bit_or required_flags (bit_and flags (kept_flags op))

-- the operation is a compare with the flag check result, whose status says whether it found what it expects
abbrev pub is_checked : ListedOp → ℕ → Bool
is_checked op flags = checks_result (flags_in_list op flags)

-- the operation with the expected result 0
abbrev pub expecting_zero : ListedOp → ListedOp
expecting_zero (listed.Descriptor (Move src dst)) = listed.Descriptor (Move src dst)
expecting_zero (listed.Descriptor (Fill pattern dst)) = listed.Descriptor (Fill pattern dst)
expecting_zero (listed.Descriptor (Compare src src2 expected)) = listed.Descriptor (Compare src src2 0)
expecting_zero (listed.Descriptor (ComparePattern src pattern expected)) = listed.Descriptor (ComparePattern src pattern 0)
expecting_zero (listed.Descriptor (ApplyDelta delta dst record_size)) = listed.Descriptor (ApplyDelta delta dst record_size)
expecting_zero (listed.Descriptor (Dualcast src dst dst2)) = listed.Descriptor (Dualcast src dst dst2)
expecting_zero (listed.Checksum op) = listed.Checksum op

-- the operation as the list has it. Nothing rests on a result that is not checked, and a recorded one may be none that a list
-- has, so it is 0
abbrev pub op_in_list : ListedOp → ℕ → ListedOp
op_in_list op flags = if is_checked op flags then op else expecting_zero op

-- a list has no other expected results than 0 and 1
abbrev pub expects_bit : ListedOp → Bool
expects_bit (listed.Descriptor (Move src dst)) = true
expects_bit (listed.Descriptor (Fill pattern dst)) = true
expects_bit (listed.Descriptor (Compare src src2 expected)) = nat_le expected 1
expects_bit (listed.Descriptor (ComparePattern src pattern expected)) = nat_le expected 1
expects_bit (listed.Descriptor (ApplyDelta delta dst record_size)) = true
expects_bit (listed.Descriptor (Dualcast src dst dst2)) = true
expects_bit (listed.Checksum op) = true

-- what the list has for the entry of this number: its operation, size and owner, with that record, these flags and no
-- interrupt handle
abbrev pub stand_in : ℕ → List ℕ → ListedOp → OperationFields
stand_in number e op =
    fields_by (op_in_list op (flags_at e)) (pasid_at e) (privileged_at e) (flags_in_list op (flags_at e)) (record_in_list number e) (u32_at 32 e) 0

-- the span has no address, or lies below the records that entries of this number may get, or above them
abbrev pub is_clear : ℕ → Span → Bool
is_clear count s = s.len == 0 || (nat_le (s.first + s.len) records_from || nat_le (records_from + 32 * count) s.first)

-- so does all that is read and written
abbrev pub is_apart_from_added : ℕ → Touched → Bool
is_apart_from_added count t = list_all (is_clear count) t.reads.items && list_all (is_clear count) t.writes.items

-- ---- its line

-- a comment in place of an operation
abbrev pub left_out : ℕ → List ℕ → List ℕ
left_out number why = codes "# entry " ++ (decimal number ++ (codes ", " ++ why))

-- an operation, and after it the number of its entry
abbrev pub operation_line : ℕ → List ℕ → ListedOp → List ℕ
operation_line number e op = line_text (stand_in number e op) ++ (codes " # entry " ++ decimal number)

-- a no-op has no line, nor has an operation that no list may have
abbrev pub plain_words : ℕ → List ℕ
plain_words code = if code == 0 then codes "left out: a no-op" else codes "left out: " ++ operation_words code

-- an entry that is looked at has the line of its operation, if a list has that and it is apart from added records
abbrev pub known_line : ℕ → ℕ → List ℕ → Touched → Option ListedOp → List ℕ
known_line count number e t None = left_out number (plain_words (code_at e))
known_line count number e t (Some op) =
    if is_apart_from_added count t
    then (if expects_bit (op_in_list op (flags_at e))
    then operation_line number e op
    else left_out number (codes "left out: its check expects another result than 0 or 1"))
    else left_out number (codes "left out: it touches addresses that this list keeps for records")

-- the line of a member: its operation, or why there is none
abbrev pub member_line : ℕ → ℕ → List ℕ → Member → List ℕ
member_line count number e (Known t) = known_line count number e t (listed_op e)
member_line count number e (Unknown why) = left_out number (unseen_words why (code_at e))

-- ---- the list

-- the line of a barrier for a fence of this kind
abbrev pub barrier_for : List ℕ → ℕ → List ℕ
barrier_for kind number = codes "barrier" ++ (codes " # " ++ (kind ++ (codes " fence of entry " ++ decimal number)))

-- a fence that guards, signals or is held is a barrier before the line of its entry, so that a plan of the list keeps it
abbrev pub fence_line : ℕ → FenceUse → List ℕ
fence_line number fence_use.NoFence = []
fence_line number (fence_use.Needed earlier later) = []
fence_line number fence_use.Held = barrier_for (codes "held") number ++ 10 ∷ []
fence_line number (fence_use.Guarding earlier) = barrier_for (codes "guarding") number ++ 10 ∷ []
fence_line number (fence_use.Signalling awaited) = barrier_for (codes "signalling") number ++ 10 ∷ []
fence_line number (fence_use.GuardingAndSignalling earlier awaited) = barrier_for (codes "guarding and signalling") number ++ 10 ∷ []
fence_line number fence_use.Needless = []

-- the lines of members, of which the first is entry `at`, and of what their fences are for
unfoldable pub member_lines : List (List ℕ) → ℕ → List Member → List FenceUse → List ℕ
member_lines es at [] uses = []
member_lines es at (m ∷ ms) uses =
    fence_line at (slice_index_or uses 0 fence_use.NoFence)
    ++ ((member_line (length es) at (slice_index_or es at []) m ++ 10 ∷ []) ++ member_lines es (suc at) ms (drop 1 uses))

-- those of all submissions
unfoldable pub submission_lines : List (List ℕ) → List Submission → List Audited → List ℕ
submission_lines es [] audits = []
submission_lines es (s ∷ ss) [] = []
submission_lines es (s ∷ ss) (a ∷ audits) = member_lines es s.first a.members.items a.audit.reduced.uses.items ++ submission_lines es ss audits

-- ---- its operations

-- that of an entry that is looked at is in the list if it has one that a list has and is apart from added records
abbrev pub known_operation : ℕ → ℕ → List ℕ → Touched → Option ListedOp → List OperationFields
known_operation count number e t None = []
known_operation count number e t (Some op) =
    if is_apart_from_added count t
    then (if expects_bit (op_in_list op (flags_at e)) then stand_in number e op ∷ [] else [])
    else []

-- the operation of a member, if the list has it
abbrev pub member_operation : ℕ → ℕ → List ℕ → Member → List OperationFields
member_operation count number e (Known t) = known_operation count number e t (listed_op e)
member_operation count number e (Unknown why) = []

-- those of members, of which the first is entry `at`
unfoldable pub member_operations : List (List ℕ) → ℕ → List Member → List OperationFields
member_operations es at [] = []
member_operations es at (m ∷ ms) = member_operation (length es) at (slice_index_or es at []) m ++ member_operations es (suc at) ms

-- those of all submissions
unfoldable pub listed_operations : List (List ℕ) → List Submission → List Audited → List OperationFields
listed_operations es [] audits = []
listed_operations es (s ∷ ss) [] = []
listed_operations es (s ∷ ss) (a ∷ audits) = member_operations es s.first a.members.items ++ listed_operations es ss audits

-- ---- the text

-- a comment that says how many of the operations have no line
abbrev pub left_words : ℕ → ℕ → List ℕ
left_words left total =
    codes "# left out: " ++ (decimal left ++ (codes " of " ++ (decimal total ++ codes " operations, each for the reason in its comment: no plan has them, and no cost counts them")))

-- it is the first line, if there are some; of no operations it is said that the list is empty
abbrev pub left_line : ℕ → ℕ → List ℕ
left_line left total =
    if total == 0
    then codes "# this list is empty: the recording has no operations" ++ 10 ∷ []
    else (if left == 0 then [] else left_words left total ++ 10 ∷ [])

-- how many members have no operation in the list
abbrev pub left_count : List (List ℕ) → List Submission → List Audited → ℕ
left_count es ss audits = sum_by member_count audits - length (listed_operations es ss audits)

-- the list of a recording
abbrev pub listing_text : List (List ℕ) → List Submission → List Audited → List ℕ
listing_text es ss audits = left_line (left_count es ss audits) (sum_by member_count audits) ++ submission_lines es ss audits

-- ---- laws

-- the completion record, if it is requested (specification 341204, flags)
abbrev pub requested_records : List ℕ → List Span
requested_records e =
    if bit_and (flags_at e) required_flags == required_flags then record_span (u64_at 8 e) ∷ [] else []

-- an entry reads and writes just this if its record is requested whatever its status, or it does not fail
pub record Does (e : List ℕ) (t : Touched) : Type 0 where
  pub reads : t.reads.items ≡ entry_reads e
  pub writes : t.writes.items ≡ requested_records e ++ entry_targets e

-- some address is written by one of the two and read or written by the other (this project's choice, as for the operations
-- of a list)
abbrev pub FieldsConflict : OperationFields → OperationFields → Type 0
FieldsConflict f g = SpansConflict (fields_reads f) (fields_writes f) (fields_reads g) (fields_writes g)

-- two operations of the list conflict exactly if their entries do
abbrev pub StandInsConflict : Type 0
StandInsConflict =
    (count m n : ℕ) (d e : List ℕ) (t u : Touched) (o p : ListedOp) → m ≢ n → m < count → n < count →
    Does d t → Does e u → listed_op d ≡ Some o → listed_op e ≡ Some p → is_apart_from_added count t ≡ true → is_apart_from_added count u ≡ true →
    FieldsConflict (stand_in m d o) (stand_in n e p) ↔ TouchedConflict t u

-- the list spells its operations, if each is one that a list may have: an entry may have another, with a record at
-- no multiple of 32, say
abbrev pub ListingIsRead : Type 0
ListingIsRead =
    (es : List (List ℕ)) (ss : List Submission) (audits : List Audited) (os : List Operation) →
    listed_operations es ss audits ≡ map operation_fields os → TextSpells (listing_text es ss audits) (listed_operations es ss audits)

-- ---- for private clauses

-- the members of each submission are entries
abbrev pub AreEntries : List (List ℕ) → List Submission → List Audited → Type 0
AreEntries es [] [] = Unit
AreEntries es (s ∷ ss) (a ∷ audits) = (s.first + length a.members.items ≤ length es) × AreEntries es ss audits
AreEntries es [] (a ∷ audits) = ⊥
AreEntries es (s ∷ ss) [] = ⊥
