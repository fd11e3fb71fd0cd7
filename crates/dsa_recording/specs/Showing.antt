-- Of which members of a batch software can see that they have ended (this project's choice; the flags are those of
-- specification 341204). `head` is the descriptor of the batch.
use Rattle.std.specs.Prelude.{ℕ, ◌≡◌, ◌<◌, Bool, true, false, ◌&&◌, ◌||◌, Option, Some, None, List, [], length, get_or, bit_and, if◌then◌else◌, ◌==◌}
use Rattle.dsa_descriptor.specs.declared.op.Op.{Op}
use Rattle.dsa_descriptor.specs.declared.op.Op.TheVariants.{Move, Fill, Compare, ComparePattern, ApplyDelta, Dualcast}
use Rattle.dsa_descriptor.specs.Places.{flags_at, code_at, op_at}
use Rattle.dsa_descriptor.specs.Profile.{required_flags}
use Rattle.dsa_audit.specs.declared.member.Member.{Member}
use Rattle.dsa_audit.specs.declared.member.Member.TheVariants.{Known, Unknown}
use Rattle.dsa_audit.specs.declared.member.Unseen.TheVariants.{Operation}
use Rattle.dsa_operations.specs.declared.checksum_op.ChecksumOp.{ChecksumOp}
use Rattle.dsa_operations.specs.declared.checksum_op.ChecksumOp.TheVariants.{Crc, CopyCrc}
use Rattle.dsa_recording.specs.declared.further.Further.{Further}
use Rattle.dsa_recording.specs.declared.further.Further.TheVariants.{Drain, CreateDelta, TranslationFetch, Checksum, DifCheck, DifInsert, DifStrip, DifUpdate, CacheFlush}
use Rattle.dsa_recording.specs.Furthers.{further_at}
use Rattle.dsa_recording.specs.declared.assumptions.Assumptions.{Assumptions}
use Rattle.dsa_recording.specs.declared.assumptions.Await.{Await}
use Rattle.dsa_recording.specs.declared.assumptions.Await.TheVariants.{Writes, Signals, Batches}
use Rattle.dsa_recording.specs.Failures.{can_fail}

-- the flag 0x0010 is set: the device raises an interrupt when the descriptor has ended
abbrev pub asks_interrupt : ℕ → Bool
asks_interrupt flags = bit_and flags 0x10 == 0x10

-- the flag 0x0004 is set, the address of the completion record is valid; with 0x0008 too the record is requested
abbrev pub has_record : ℕ → Bool
has_record flags = bit_and flags 0x04 == 0x04

-- the record is requested whatever the status is
abbrev pub requests_record : ℕ → Bool
requests_record flags = bit_and flags required_flags == required_flags

-- the member can write its record: it requests it, or it can fail, and the device then writes it unasked
abbrev pub writes_record : Assumptions → Member → List ℕ → Bool
writes_record assumed m e = has_record (flags_at e) && (requests_record (flags_at e) || can_fail assumed m e)

-- it raises an interrupt, or can write its record
abbrev pub is_signal : Assumptions → Member → List ℕ → Bool
is_signal assumed m e = asks_interrupt (flags_at e) || writes_record assumed m e

-- a checksum copies what it is of
abbrev pub is_copy : ChecksumOp → Bool
is_copy (Crc src seed) = false
is_copy (CopyCrc src dst seed) = true

-- an operation beyond the six of a descriptor writes data
abbrev pub writes_further : Option Further → Bool
writes_further None = false
writes_further (Some Drain) = false
writes_further (Some (CreateDelta first second delta)) = true
writes_further (Some TranslationFetch) = false
writes_further (Some (Checksum op size)) = is_copy op
writes_further (Some (DifCheck src)) = false
writes_further (Some (DifInsert src dst)) = true
writes_further (Some (DifStrip src dst)) = true
writes_further (Some (DifUpdate src dst)) = true
writes_further (Some (CacheFlush flushed)) = false

-- the operation writes data
abbrev pub writes_data : Option Op → Option Further → Bool
writes_data None further = writes_further further
writes_data (Some (Move src dst)) further = true
writes_data (Some (Fill pattern dst)) further = true
writes_data (Some (Compare src src2 expected)) further = false
writes_data (Some (ComparePattern src pattern expected)) further = false
writes_data (Some (ApplyDelta delta dst record_size)) further = true
writes_data (Some (Dualcast src dst dst2)) further = true

-- a member that is not looked at may write anything
abbrev pub can_write : Member → List ℕ → Bool
can_write (Known touched) e = writes_data (op_at e) (further_at e)
can_write (Unknown why) e = true

-- software can await the batch as a whole: its descriptor raises an interrupt or requests a record
abbrev pub is_awaited_whole : List ℕ → Bool
is_awaited_whole head = asks_interrupt (flags_at head) || requests_record (flags_at head)

-- the member is a no-op (code 0), or a batch (1)
abbrev pub is_marker : List ℕ → Bool
is_marker e = code_at e == 0 || code_at e == 1

-- in a batch that is awaited as a whole, the member raises an interrupt, or is a marker that can write its record
abbrev pub shows_beside_batch : Assumptions → Member → List ℕ → Bool
shows_beside_batch assumed m e = asks_interrupt (flags_at e) || is_marker e && writes_record assumed m e

-- software that looks at this can see that the member has ended
abbrev pub shown_to : Await → Assumptions → List ℕ → Member → List ℕ → Bool
shown_to Writes assumed head m e = is_signal assumed m e || can_write m e
shown_to Signals assumed head m e = is_signal assumed m e
shown_to Batches assumed head m e =
    if is_awaited_whole head then shows_beside_batch assumed m e else is_signal assumed m e

-- software can see that the member has ended, if it looks at what is assumed
abbrev pub can_show : Assumptions → List ℕ → Member → List ℕ → Bool
can_show assumed head m e = shown_to assumed.awaited assumed head m e

-- of each member, whose entry is that of `es`, whether software can see that it has ended
pub record AreVisible (assumed : Assumptions) (head : List ℕ) (ms : List Member) (es : List (List ℕ)) (visible : List Bool) : Type 0 where
  pub count : length visible ≡ length es
  pub each :
      (k : ℕ) → k < length es →
      get_or visible k false ≡ can_show assumed head (get_or ms k (Unknown Operation)) (get_or es k [])
