-- Which members of a batch can fail: end with another status than 1 (specification 341204, completion record). Errors for
-- which the device refuses the descriptor are left out (this project's choice).
use Rattle.std.specs.Prelude.{ℕ, ◌≡◌, ◌<◌, Bool, true, false, not, ◌&&◌, ◌||◌, Option, Some, None, List, [], length, get_or, bit_and, ◌==◌}
use Rattle.dsa_descriptor.specs.declared.op.Op.{Op}
use Rattle.dsa_descriptor.specs.declared.op.Op.TheVariants.{Move, Fill, Compare, ComparePattern, ApplyDelta, Dualcast}
use Rattle.dsa_descriptor.specs.Places.{flags_at, code_at, op_at}
use Rattle.dsa_descriptor.specs.Profile.{checks_result}
use Rattle.dsa_audit.specs.declared.member.Member.{Member}
use Rattle.dsa_audit.specs.declared.member.Member.TheVariants.{Known, Unknown}
use Rattle.dsa_audit.specs.declared.member.Unseen.TheVariants.{Operation}
use Rattle.dsa_recording.specs.declared.further.Further.{Further}
use Rattle.dsa_recording.specs.declared.further.Further.TheVariants.{Drain, CreateDelta, TranslationFetch, Checksum, DifCheck, DifInsert, DifStrip, DifUpdate, CacheFlush}
use Rattle.dsa_recording.specs.Furthers.{further_at}
use Rattle.dsa_recording.specs.declared.assumptions.Assumptions.{Assumptions}

-- a delta that is created and checked may end with status 2, a check of fields with 9; a drain is refused in a batch, and
-- of a fetch of translations it is not certain, so they can fail too; a no-op (none of these) does not
abbrev pub can_further_fail : Option Further → ℕ → Bool
can_further_fail None flags = false
can_further_fail (Some Drain) flags = true
can_further_fail (Some (CreateDelta first second delta)) flags = checks_result flags
can_further_fail (Some TranslationFetch) flags = true
can_further_fail (Some (Checksum op size)) flags = false
can_further_fail (Some (DifCheck src)) flags = true
can_further_fail (Some (DifInsert src dst)) flags = true
can_further_fail (Some (DifStrip src dst)) flags = true
can_further_fail (Some (DifUpdate src dst)) flags = true
can_further_fail (Some (CacheFlush flushed)) flags = false

-- a compare that is checked may end with status 2, a delta that is applied with 7 or 8
abbrev pub can_op_fail : Option Op → Option Further → ℕ → Bool
can_op_fail None further flags = can_further_fail further flags
can_op_fail (Some (Move src dst)) further flags = false
can_op_fail (Some (Fill pattern dst)) further flags = false
can_op_fail (Some (Compare src src2 expected)) further flags = checks_result flags
can_op_fail (Some (ComparePattern src pattern expected)) further flags = checks_result flags
can_op_fail (Some (ApplyDelta delta dst record_size)) further flags = true
can_op_fail (Some (Dualcast src dst dst2)) further flags = false

-- the flag 0x0002 is set, block on fault: the device waits for an absent page
abbrev pub blocks_on_fault : ℕ → Bool
blocks_on_fault flags = bit_and flags 0x02 == 0x02

-- An operation that does not block on a fault may end with status 3 (linux/idxd.h), unless all memory is resident; a no-op has
-- no data. One that blocks ends with status 4 only at an address that nothing maps, which is left out (this project's choice).
abbrev pub can_fault : Bool → ℕ → ℕ → Bool
can_fault resident code flags = not (code == 0) && (not resident && not (blocks_on_fault flags))

-- of a member that is not looked at nothing is known, so it can fail
abbrev pub can_fail : Assumptions → Member → List ℕ → Bool
can_fail assumed (Known touched) e =
    can_op_fail (op_at e) (further_at e) (flags_at e) || can_fault assumed.resident (code_at e) (flags_at e)
can_fail assumed (Unknown why) e = true

-- of each member, whose entry is that of `es`, whether it can fail
pub record AreFallible (assumed : Assumptions) (ms : List Member) (es : List (List ℕ)) (fallible : List Bool) : Type 0 where
  pub count : length fallible ≡ length es
  pub each :
      (k : ℕ) → k < length es → get_or fallible k false ≡ can_fail assumed (get_or ms k (Unknown Operation)) (get_or es k [])
