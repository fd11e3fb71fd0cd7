-- What an entry of a recording reads and writes, and why it is not looked at. `head` is the descriptor of its batch, or
-- of a lone descriptor the entry itself.
use Rattle.std.specs.Prelude.{◌≡◌, ◌≢◌, ℕ, ◌<◌, ◌||◌, Bool, List, [], ◌∷◌, ◌++◌, replicate, Option, Some, None, is_some, bit_and, if◌then◌else◌, ◌==◌}
use Rattle.std.specs.List.{AllByRecursion}
use Rattle.dsa_descriptor.specs.declared.op.Op.{Op}
use Rattle.dsa_descriptor.specs.declared.span.Span.{Span}
use Rattle.dsa_descriptor.specs.Data.{sources, targets, record_span}
use Rattle.dsa_descriptor.specs.Lists.{AgreeOnOwner}
use Rattle.dsa_descriptor.specs.Places.{u32_at, u64_at, flags_at, code_at, op_at}
use Rattle.dsa_descriptor.specs.Spans.{IsAddressable}
use Rattle.dsa_audit.specs.declared.repeats.Action.{Action}
use Rattle.dsa_recording.specs.declared.further.Further.{Further}
use Rattle.dsa_recording.specs.declared.member.Aspect.{Aspect}
use Rattle.dsa_recording.specs.declared.member.Aspect.TheVariants as aspects
use Rattle.dsa_recording.specs.Furthers.{further_at, read_by, written_by}
use Rattle.dsa_audit.specs.declared.member.Unseen.{Unseen}
use Rattle.dsa_audit.specs.declared.member.Unseen.TheVariants.{Blank, Operation, Nested, Owner, Empty, Wrap}
use Rattle.dsa_audit.specs.declared.member.Member.{Member}
use Rattle.dsa_audit.specs.declared.member.Member.TheVariants.{Known, Unknown}

-- ---- what it reads and writes

-- the completion record, if its address is valid, the flag 0x0004 (specification 341204, flags); one that is written on
-- errors alone counts too, since it may be written
abbrev pub records_of : List ℕ → List Span
records_of e = if bit_and (flags_at e) 0x04 == 0x04 then record_span (u64_at 8 e) ∷ [] else []

-- the data that an operation beyond the six of a descriptor reads; a no-op has none
abbrev pub further_reads : Option Further → List Span
further_reads None = []
further_reads (Some further) = read_by further

-- those that it writes
abbrev pub further_writes : Option Further → List Span
further_writes None = []
further_writes (Some further) = written_by further

-- the data that an operation of a descriptor, of this size, reads; or another
abbrev pub sources_of : Option Op → ℕ → Option Further → List Span
sources_of (Some op) size further = sources op size
sources_of None size further = further_reads further

-- those that it writes
abbrev pub targets_of : Option Op → ℕ → Option Further → List Span
targets_of (Some op) size further = targets op size
targets_of None size further = further_writes further

-- the data that the entry reads
abbrev pub entry_reads : List ℕ → List Span
entry_reads e = sources_of (op_at e) (u32_at 32 e) (further_at e)

-- the data that it writes
abbrev pub entry_targets : List ℕ → List Span
entry_targets e = targets_of (op_at e) (u32_at 32 e) (further_at e)

-- the operation is a checksum, a CRC or a copy with CRC (codes: linux/idxd.h): its record has the value (specification
-- 341204, CRC generation), which a later operation may be meant to read
abbrev pub is_checksum : List ℕ → Bool
is_checksum e = code_at e == 0x10 || code_at e == 0x11

-- the record of an entry as data: that of a checksum
abbrev pub value_records : List ℕ → List Span
value_records e = if is_checksum e then records_of e else []

-- its record as a status alone: that of any other operation
abbrev pub status_records : List ℕ → List Span
status_records e = if is_checksum e then [] else records_of e

-- the data that it writes, its value too
abbrev pub entry_results : List ℕ → List Span
entry_results e = entry_targets e ++ value_records e

-- all that it writes, its record too
abbrev pub entry_writes : List ℕ → List Span
entry_writes e = records_of e ++ entry_targets e

-- what it says of what it does: all 64 bytes but bytes 8 to 15, where its record is, and in the word of flags (bytes 4 to
-- 6) the fence 0x01 and the requests of a record, 0x04 and 0x08, and of an interrupt, 0x10. Two entries that differ in any
-- other bit may do different things, whatever that bit means
abbrev pub action_of : List ℕ → Action
action_of e =
    record {
      may_repeat = is_some (op_at e);
      words =
          bit_and (u64_at 0 e) 0xffffffe2ffffffff ∷ u64_at 16 e ∷ u64_at 24 e ∷ u64_at 32 e ∷ u64_at 40 e ∷ u64_at 48 e
          ∷ u64_at 56 e ∷ [];
    }

-- ---- why it is not looked at (this project's choice)

-- the reason applies, whether or not another does: all 64 bytes are zero, as in memory that nobody wrote; the operation is
-- none of the six and none of the further ones, nor a no-op (code 0x00), nor a batch (0x01); it is a batch; PASID or
-- privilege differ from those of the head; the size is 0, of that of a no-op or of a drain (0x02) nothing is asked; a span
-- goes past 2 ^ 64
abbrev pub Applies : List ℕ → List ℕ → Unseen → Type 0
Applies head e Blank = e ≡ replicate 64 0
Applies head e Operation = (op_at e ≡ None) × (further_at e ≡ None) × (code_at e ≢ 0) × (code_at e ≢ 1)
Applies head e Nested = code_at e ≡ 1
Applies head e Owner = ¬ AgreeOnOwner head e
Applies head e Empty = (code_at e ≢ 0) × (code_at e ≢ 2) × (u32_at 32 e ≡ 0)
Applies head e Wrap = ¬ AllByRecursion IsAddressable (entry_reads e ++ entry_writes e)

-- the order in which reasons are looked for
abbrev pub rank : Unseen → ℕ
rank Blank = 0
rank Operation = 1
rank Nested = 2
rank Owner = 3
rank Empty = 4
rank Wrap = 5

-- the reason applies, and none before it does
pub record IsFirstReason (head e : List ℕ) (why : Unseen) : Type 0 where
  pub applies : Applies head e why
  pub first : (other : Unseen) → rank other < rank why → ¬ Applies head e other

-- what an entry reads in this respect
abbrev pub reads_in : Aspect → List ℕ → List Span
reads_in aspects.Whole e = entry_reads e
reads_in aspects.Data e = entry_reads e
reads_in aspects.Record e = entry_targets e
reads_in aspects.Status e = entry_reads e

-- what it writes: all; its data, with the value of a checksum; its record; its record as a status alone
abbrev pub writes_in : Aspect → List ℕ → List Span
writes_in aspects.Whole e = entry_writes e
writes_in aspects.Data e = entry_results e
writes_in aspects.Record e = records_of e
writes_in aspects.Status e = status_records e

-- where no reason applies, the member reads and writes this of the entry; else it has the first reason. Two members conflict
-- by their records exactly if the record of one meets the record of the other, or data that the other writes; and by their
-- statuses if one reads the status of the other
abbrev pub IsMember : Aspect → List ℕ → List ℕ → Member → Type 0
IsMember aspect head e (Known touched) =
    ((why : Unseen) → ¬ Applies head e why) × (touched.reads.items ≡ reads_in aspect e) × (touched.writes.items ≡ writes_in aspect e)
IsMember aspect head e (Unknown why) = IsFirstReason head e why
